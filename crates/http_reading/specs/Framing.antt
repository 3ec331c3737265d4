-- The length of the body after a head (RFC 9112, sections 6.1 to 6.3).
use Rattle.std.specs.Prelude.{ℕ, Bool, true, false, not, ◌&&◌, ◌||◌, ◌==◌, nat_lt, nat_le, bytes_eq, List, [], ◌∷◌, length, codes, Option, Some}
use Rattle.std.specs.Prelude.{None, Result, Ok, Err}
use Rattle.std.specs.Prelude.{map, filter, flat_map, if◌then◌else◌}
use Rattle.std.specs.List.{list_all, list_any}
use Rattle.std.specs.Str.{str_eq_ignore_ascii_case}
use Rattle.std.specs.Str.Parse.{digits_value}
use Rattle.http_messages.specs.declared.fault.FetchFault.{FetchFault}
use Rattle.http_messages.specs.declared.fault.FetchFault.TheVariants.{BadBody, BodyTooLong}
use Rattle.http_messages.specs.Answer.{longest_body}
use Rattle.http_lists.specs.Members.{members}
use Rattle.http_lists.specs.Blanks.{trim}
use Rattle.http_reading.specs.declared.codings.Codings.{Codings}
use Rattle.http_reading.specs.declared.codings.Codings.TheVariants.{Nothing, OneChunked, Other}
use Rattle.http_reading.specs.declared.framing.BadLength.{BadLength}
use Rattle.http_reading.specs.declared.framing.BadCoding.{BadCoding}
use Rattle.http_reading.specs.declared.framing.Framing.{Framing}
use Rattle.http_reading.specs.declared.framing.Framing.TheVariants.{Length, Chunked, ToEnd}
use Rattle.http_reading.specs.Fields.{values_named, has_field}
use Rattle.http_reading.specs.Decimal.{is_digits}

-- 1 to 19 digits; the number fits 64 bits
abbrev pub is_length : List ℕ → Bool
is_length value = is_digits value && nat_le (length value) 19

-- the number that 1 to 19 digits write
abbrev pub length_of : List ℕ → Option ℕ
length_of value = if is_length value then Some (digits_value 10 value) else None

-- the length by these `content-length` values: none, or that of values which are one and the same
-- text of digits (RFC 9112, section 6.3, item 5)
abbrev pub length_told : List (List ℕ) → Result (Option ℕ) BadLength
length_told [] = Ok None
length_told (value ∷ others) = if is_length value && list_all (λ other. bytes_eq other value) others
    then Ok (Some (digits_value 10 value)) else Err (record {})

-- the length by the `content-length` fields (RFC 9110, section 8.6)
abbrev pub content_length : List (List ℕ × List ℕ) → Result (Option ℕ) BadLength
content_length fields = length_told (values_named (codes "content-length") fields)

-- the transfer codings that these members of lists are, without the blanks around them; an empty member
-- is none (RFC 9110, section 5.6.1.2)
abbrev pub codings_of : List (List ℕ) → List (List ℕ)
codings_of members = filter (λ coding. nat_lt 0 (length coding)) (map trim members)

-- the transfer codings that these values of fields list together (RFC 9110, section 5.3)
abbrev pub codings : List (List ℕ) → List (List ℕ)
codings values = codings_of (flat_map members values)

-- what such codings are together: none, a single `chunked`, ignoring case, or anything else
abbrev pub named_by : List (List ℕ) → Codings
named_by [] = Nothing
named_by (coding ∷ []) = if str_eq_ignore_ascii_case coding (codes "chunked") then OneChunked else Other
named_by (coding ∷ other ∷ others) = Other

-- what two lists of codings are together
abbrev pub both : Codings → Codings → Codings
both Nothing second = second
both OneChunked Nothing = OneChunked
both OneChunked OneChunked = Other
both OneChunked Other = Other
both Other second = Other

-- chunked or not, by what the `transfer-encoding` fields name, where there are such fields
abbrev pub chunked_told : Codings → Result Bool BadCoding
chunked_told Nothing = Err (record {})
chunked_told OneChunked = Ok true
chunked_told Other = Err (record {})

-- chunked or not, by these `transfer-encoding` values: there are none, or they name a single `chunked`
-- (RFC 9112, section 6.1)
abbrev pub coding_told : List (List ℕ) → Result Bool BadCoding
coding_told [] = Ok false
coding_told (value ∷ others) = chunked_told (named_by (codings (value ∷ others)))

-- chunked or not, by the `transfer-encoding` fields (RFC 9112, section 7.1)
abbrev pub is_chunked : List (List ℕ × List ℕ) → Result Bool BadCoding
is_chunked fields = coding_told (values_named (codes "transfer-encoding") fields)

-- a body with a length, which must not be over 65,536
abbrev pub framing_by_length : ℕ → Result Framing FetchFault
framing_by_length length = if nat_le length longest_body then Ok (Length length) else Err BodyTooLong

-- where the body ends; both kinds of field at once are refused, as in request smuggling (RFC 9112,
-- section 6.1)
abbrev pub framing_told : Result Bool BadCoding → Result (Option ℕ) BadLength → Result Framing FetchFault
framing_told (Err bad) length = Err BadBody
framing_told (Ok chunked) (Err bad) = Err BadBody
framing_told (Ok true) (Ok (Some length)) = Err BadBody
framing_told (Ok true) (Ok None) = Ok Chunked
framing_told (Ok false) (Ok (Some length)) = framing_by_length length
framing_told (Ok false) (Ok None) = Ok ToEnd

-- where the body of a response ends (RFC 9112, section 6.3)
abbrev pub framing : List (List ℕ × List ℕ) → Result Framing FetchFault
framing fields = framing_told (is_chunked fields) (content_length fields)

-- one or more digits that write 0
abbrev pub is_zero : List ℕ → Bool
is_zero value = is_digits value && (digits_value 10 value == 0)

-- a request has a body: a `transfer-encoding` field, or a `content-length` field that is not 0
-- (RFC 9112, section 6)
abbrev pub ask_has_body : List (List ℕ × List ℕ) → Bool
ask_has_body fields =
    has_field (codes "transfer-encoding") fields || list_any (λ value. not (is_zero value)) (values_named (codes "content-length") fields)
