-- The grammar of http_uri as tests: it is near that of RFC 3986, section 3, and not the same. Each
-- test says what the definition of http_uri in brackets says. All are for texts without an early
-- fault: visible ASCII, no `#`, at most 1,024 octets.
use Rattle.std.specs.Prelude.{ℕ, zero, suc, ◌-◌, Bool, true, not, ◌&&◌, ◌||◌, ◌==◌, nat_lt, nat_le, bytes_eq, List, [], length, take, drop, slice_index}
use Rattle.std.specs.Prelude.{unwrap_or, codes}
use Rattle.std.specs.List.{list_all}
use Rattle.http_uri.specs.ByteClasses.{is_scheme_byte, is_authority_byte, is_path_byte, is_query_byte, is_delimiter, count_of, split_once_front}
use Rattle.http_uri.specs.ByteClasses.{split_once_back, at_sign, colon, left_bracket, percent_sign, question_mark, right_bracket, slash}
use Rattle.http_uri.specs.Grammar.{last_piece, scheme_len}

-- each number below this one passes the test
abbrev pub all_below : (ℕ → Bool) → ℕ → Bool
all_below test zero = true
all_below test (suc n) = test n && all_below test n

-- at most 64 octets of a scheme (`IsScheme`)
abbrev pub is_scheme : List ℕ → Bool
is_scheme name = list_all is_scheme_byte name && nat_le (length name) 64

-- the octet may follow this front of an authority (`MayFollow`)
abbrev pub may_follow : List ℕ → ℕ → Bool
may_follow front b =
    is_authority_byte b
    && (not (b == colon) || nat_lt (count_of colon (last_piece front)) 8)
    &&
    (not (b == left_bracket) || ((count_of left_bracket front == 0)
    && (count_of percent_sign (last_piece front) == 0)))
    && (not (b == right_bracket) || (nat_lt 0 (count_of left_bracket front) && (count_of right_bracket front == 0)))

-- userinfo, host and port; one pair of brackets may hold an address (`IsAuthority`)
abbrev pub is_authority : List ℕ → Bool
is_authority text =
    nat_lt 0 (length text)
    && all_below (λ i. may_follow (take i text) (slice_index text i)) (length text)
    && (count_of left_bracket text == count_of right_bracket text)
    && nat_le (count_of colon (last_piece text)) 1
    && (count_of percent_sign (last_piece text) == 0)
    && not (slice_index text (length text - 1) == at_sign)

-- a path, then a query behind the first `?` if there is one; or `*` (`IsPathAndQuery`)
abbrev pub is_path_and_query : List ℕ → Bool
is_path_and_query text =
    (bytes_eq text [] || (bytes_eq text (codes "*") || ((slice_index text 0 == slash) || (slice_index text 0 == question_mark))))
    && list_all is_path_byte (split_once_front question_mark text)
    && list_all is_query_byte (unwrap_or (split_once_back question_mark text) [])

-- `*`, or a first octet `/` (`StartsOrigin`)
abbrev pub starts_origin : List ℕ → Bool
starts_origin text = bytes_eq text (codes "*") || (slice_index text 0 == slash)

-- the octets of a scheme run up to `://` (`HasScheme`)
abbrev pub has_scheme : List ℕ → Bool
has_scheme text = nat_lt 3 (length text) && bytes_eq (take 3 (drop (scheme_len text) text)) (codes "://")

-- nothing, or a path and a query that may follow an authority (`IsTail`)
abbrev pub is_tail : List ℕ → Bool
is_tail text = bytes_eq text [] || (is_delimiter (slice_index text 0) && is_path_and_query text)
