-- Sets of members, as their ids in ascending order.
use Rattle.std.specs.Prelude.{ℕ, zero, suc, Bool, true, false, not, ◌&&◌, ◌==◌, nat_lt, List, [], ◌∷◌, map, filter, if◌then◌else◌}
use Rattle.std.specs.List.{list_any, list_all}
use Rattle.values_tables.specs.declared.plain.Tables.{Tables}
use Rattle.roster.specs.Lookups.{is_member, is_founding}

-- so many numbers, from the first on
abbrev pub numbers : ℕ → ℕ → List ℕ
numbers first zero = []
numbers first (suc n) = first ∷ numbers (suc first) n

-- the id is one of these
abbrev pub is_among : ℕ → List ℕ → Bool
is_among id ids = list_any (λ i. i == id) ids

-- the ids with this one inserted in its place, once
abbrev pub with_id : ℕ → List ℕ → List ℕ
with_id id [] = id ∷ []
with_id id (i ∷ ids) = if nat_lt id i then id ∷ i ∷ ids else (if i == id then i ∷ ids else i ∷ with_id id ids)

-- each of the first is among the second
abbrev pub are_among : List ℕ → List ℕ → Bool
are_among ids others = list_all (λ id. is_among id others) ids

-- the ids that a member may have
abbrev pub possible_ids : List ℕ
possible_ids = 1 ∷ 2 ∷ 3 ∷ 4 ∷ 5 ∷ 6 ∷ 7 ∷ 8 ∷ 9 ∷ 10 ∷ 11 ∷ 12 ∷ 13 ∷ 14 ∷ 15 ∷ 16 ∷ []

-- the ids of the members of a roster
unfoldable pub members_of : Tables → List ℕ
members_of t = filter (is_member t) possible_ids

-- the ids of its joining members
unfoldable pub joining_of : Tables → List ℕ
joining_of t = filter (λ id. is_member t id && not (is_founding t id)) possible_ids

-- the numbers of the true places, if the first place has this number
abbrev pub ids_from : ℕ → List Bool → List ℕ
ids_from first [] = []
ids_from first (true ∷ bs) = first ∷ ids_from (suc first) bs
ids_from first (false ∷ bs) = ids_from (suc first) bs

-- the ids whose places are true; the first place is id 1
abbrev pub ids_of : List Bool → List ℕ
ids_of bs = ids_from 1 bs

-- for each id that a member may have, whether it is among these
abbrev pub places_of : List ℕ → List Bool
places_of ids = map (λ id. is_among id ids) possible_ids
