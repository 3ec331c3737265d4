-- Host, credentials and member number of a request.
use Rattle.std.specs.Prelude.{ℕ, Bool, ◌||◌, List, [], ◌∷◌, codes, Option, option_and_then}
use Rattle.http_reading.specs.declared.ask_fields.Host.{Host}
use Rattle.http_reading.specs.declared.ask_fields.Host.TheVariants.{Absent, One, Several}
use Rattle.http_reading.specs.Fields.{values_named, has_field, only_of}
use Rattle.http_reading.specs.Decimal.{plain_number}

-- what a contract sees of `Host`
pub data HostText : Type 0 where
  absent several : HostText
  one : List ℕ → HostText

-- the text of a `Host`
abbrev pub host_text : Host → HostText
host_text Absent = absent
host_text (One value) = one value.now
host_text Several = several

-- what no value, one value or more values say
abbrev pub host_told : List (List ℕ) → HostText
host_told [] = absent
host_told (value ∷ []) = one value
host_told (value ∷ other ∷ others) = several

-- what the `host` fields say (RFC 9112, section 3.2); `AskHead` judges the value
abbrev pub host : List (List ℕ × List ℕ) → HostText
host fields = host_told (values_named (codes "host") fields)

-- there are credentials, for the origin or for a proxy (RFC 9110, sections 11.6.2 and 11.7.2)
abbrev pub has_credentials : List (List ℕ × List ℕ) → Bool
has_credentials fields = has_field (codes "authorization") fields || has_field (codes "proxy-authorization") fields

-- the member that sent the request, 1 to 16: the number of the only `x-purge-member` field [HTTP 9]
abbrev pub member : List (List ℕ × List ℕ) → Option ℕ
member fields = option_and_then (plain_number 1 16) (only_of (values_named (codes "x-purge-member") fields))
