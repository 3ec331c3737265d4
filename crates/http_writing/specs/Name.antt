-- The names of caches in `via` fields (RFC 9110, section 7.6.3).
use Rattle.std.specs.Prelude.{ℕ, Bool, ◌&&◌, ◌||◌, nat_lt, nat_le, List, length}
use Rattle.std.specs.List.{list_all}
use Rattle.std.specs.Int.{is_in_range}

-- a lower case letter or a digit
abbrev pub is_name_octet : ℕ → Bool
is_name_octet octet = is_in_range 97 122 octet || is_in_range 48 57 octet

-- 1 to 32 such octets [HTTP 1]
abbrev pub is_name : List ℕ → Bool
is_name name = nat_lt 0 (length name) && nat_le (length name) 32 && list_all is_name_octet name
