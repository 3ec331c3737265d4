-- The age and the purge stamp of a response.
use Rattle.std.specs.Prelude.{ℕ, List, [], codes, Option, option_and_then, unwrap_or}
use Rattle.http_lists.specs.Members.{members}
use Rattle.http_lists.specs.Blanks.{trim}
use Rattle.http_reading.specs.Fields.{values_named, first_of, only_of}
use Rattle.http_reading.specs.Decimal.{number_up_to, plain_number}

-- the first member of a value, without blanks around it (RFC 9110, section 5.6.1)
abbrev pub first_member : List ℕ → List ℕ
first_member value = trim (unwrap_or (first_of (members value)) [])

-- the age in seconds that a value says: the number of its first member; a number over 2^31 counts
-- as 2^31 (RFC 9111, sections 1.2.2 and 5.1)
abbrev pub age_in : List ℕ → Option ℕ
age_in value = number_up_to 2147483648 (first_member value)

-- the age in seconds, of the first `age` field [HTTP 13]
abbrev pub age : List (List ℕ × List ℕ) → Option ℕ
age fields = option_and_then age_in (first_of (values_named (codes "age") fields))

-- the purge stamp: the number of the only `x-purge-stamp` field
abbrev pub stamp : List (List ℕ × List ℕ) → Option ℕ
stamp fields = option_and_then (plain_number 0 4294967295) (only_of (values_named (codes "x-purge-stamp") fields))
