-- The name of each member of a roster may stand in a `via` field: the roster tests every name, and
-- the two crates test it in the same way.
use Rattle.std.proofs.Common.{◌≡◌, ℕ, ◌==◌, Bool, true, List, [], ◌∷◌, Some, find, IsTrue, subst, inl, inr}
use Rattle.std.specs.List.{list_all}
use Rattle.std.proofs.lemmas.Bool.{cases_Bool, and_parts}
use Rattle.std.proofs.lemmas.Option.{none-some, same_Some}
use Rattle.values_tables.specs.declared.plain.Member.{Member}
use Rattle.values_tables.specs.declared.plain.Tables.{Tables}
use Rattle.values_tables.specs.Ranges.{are_tables, is_member, is_name}
use Rattle.http_writing.specs.Name.{is_name as names_cache}

-- a member that is found passes the test that all pass
found_passes : (ms : List Member) (id : ℕ) (m : Member) → list_all is_member ms ≡ true → find (λ m. m.cache.id == id) ms ≡ Some m → is_member m ≡ true
found_passes [] id m all is = absurd (none-some m is)
found_passes (n ∷ ns) id m all is =
    let (first, others) = and_parts (is_member n) (list_all is_member ns) all in
    elim (cases_Bool (n.cache.id == id)) [
      | inl here ↦ subst (λ v. is_member v ≡ true) (same_Some n m (rw here at is)) first
      | inr other ↦ found_passes ns id m others (rw other at is)
    ]

-- the two crates test names in the same way
same_names : (name : List ℕ) → is_name name ≡ true → IsTrue (names_cache name)
same_names name h = h

pub name_is_valid : (t : Tables) (id : ℕ) (m : Member) → are_tables t ≡ true → find (λ m. m.cache.id == id) t.members ≡ Some m →
    IsTrue (names_cache m.cache.name)
name_is_valid t id m tables is =
    let members = (and_parts _ _ (and_parts _ _ (and_parts _ _ tables).0).0).1 in
    let valid = found_passes t.members id m members is in
    let cache = (and_parts _ _ (and_parts _ _ valid).0).1 in
    same_names m.cache.name (and_parts _ _ (and_parts _ _ cache).0).0
