-- How many connections each address may have, and how many may linger.
use Rattle.std.specs.Prelude.{ℕ, Bool, nat_lt, min, Option, Some, None, unwrap_or, if◌then◌else◌}
use Rattle.std.specs.Ordering.{nat_cmp}
use Rattle.std.specs.BTreeMap.{BTreeMap, get}

-- how many of this address; 0 where it is not counted
abbrev pub count_at : BTreeMap ℕ ℕ → ℕ → ℕ
count_at counts ip = unwrap_or (get nat_cmp counts ip) 0

-- whose connection goes where no more may wait: the address that has its number already, or else anybody [HTTP 17]
abbrev pub goes_first : ℕ → ℕ → ℕ → Option ℕ
goes_first most count ip = if nat_lt count most then None else Some ip

-- an address gets one place more, of fetches or responses: it has fewer than its number, and fewer than are free [HTTP 18]
abbrev pub gets_place : ℕ → ℕ → ℕ → Bool
gets_place most free own = nat_lt own (min most free)
