-- Each member of a roster is among those that the master counts: the master counts the ids 1 to 16
-- that are members, and a roster gives no other ids.
use Rattle.std.proofs.Common.{◌≡◌, ℕ, zero, suc, ◌+◌, ◌≤◌, ◌<◌, Bool, true, ◌&&◌, List, [], ◌∷◌, filter, Option, Some, None, refl, sym, ◌∙◌, subst, nat_eq}
use Rattle.std.proofs.Common.{nat_le, inl, inr, arith}
use Rattle.std.specs.Prelude.{is_some, find}
use Rattle.std.specs.List.{AllByRecursion, list_all}
use Rattle.std.proofs.Math.Decide.{ℕ_discrete}
use Rattle.values_tables.specs.Ranges as ranges
use Rattle.values_tables.specs.Ranges.{are_tables, is_member_id, are_limits, is_port, is_cache, is_peer, is_foreign, is_origin}
use Rattle.values_tables.specs.declared.plain.Member.{Member}
use Rattle.values_tables.specs.declared.plain.Tables.{Tables}
use Rattle.roster.specs.Lookups.{is_member}
use Rattle.node_rules.proofs.Cases.{branches, true_not_false, or_true}
use Rattle.node_rules.proofs.Pendings.{found, found_passes}
use Rattle.purge_rules.specs.Members.{is_among, possible_ids, members_of}
use Rattle.world_rules.proofs.MemberStates.{or_cases, or_left, and_parts, ids_same, same_id}

-- this many ids from the first one on
ids_from : ℕ → ℕ → List ℕ
ids_from first zero = []
ids_from first (suc count) = first ∷ ids_from (first + 1) count

among_from : (first count id : ℕ) → first ≤ id → id < first + count → is_among id (ids_from first count) ≡ true
unfolding ids_from
among_from first zero id low high = absurd (omega (arith, low, high))
among_from first (suc count) id low high = elim (ℕ_discrete first id) [
  | yes e ↦ or_left (nat_eq first id) (is_among id (ids_from (first + 1) count)) (subst (λ n. nat_eq first n ≡ true) e (same_id first))
  | no ne ↦ or_true (nat_eq first id) (is_among id (ids_from (first + 1) count))
      (among_from (first + 1) count id (omega (arith, low, ne)) (omega (arith, high)))
]

among_possible : (id : ℕ) → 1 ≤ id → id ≤ 16 → is_among id possible_ids ≡ true
unfolding ids_from
among_possible id low high = among_from 1 16 id low (omega (arith, high))

pub kept_among : (test : ℕ → Bool) (ids : List ℕ) (id : ℕ) → test id ≡ true → is_among id ids ≡ true → is_among id (filter test ids) ≡ true
kept_among test [] id passes has = absurd (true_not_false (sym has))
kept_among test (i ∷ ids) id passes has = elim (or_cases (nat_eq i id) (is_among id ids) has) [
  | inl same ↦ branches (λ (xs : List ℕ). is_among id xs ≡ true) (test i) (i ∷ filter test ids) (filter test ids)
      (λ _. or_left (nat_eq i id) (is_among id (filter test ids)) same)
      (λ fails. absurd (true_not_false (sym (subst (λ n. test n ≡ true) (sym (ids_same i id same)) passes) ∙ fails)))
  | inr later ↦ branches (λ (xs : List ℕ). is_among id xs ≡ true) (test i) (i ∷ filter test ids) (filter test ids)
      (λ _. or_true (nat_eq i id) (is_among id (filter test ids)) (kept_among test ids id passes later))
      (λ _. kept_among test ids id passes later)
]

-- each member's tables are in their ranges
members_fit : (t : Tables) → are_tables t ≡ true → list_all ranges.is_member t.members ≡ true
members_fit t fit =
    let origins = and_parts (are_limits t.limits && is_port t.master.port && nat_le 1 _ && list_all ranges.is_member t.members && list_all is_foreign t.foreign)
    (list_all is_origin t.origins) fit in
    let foreign = and_parts (are_limits t.limits && is_port t.master.port && nat_le 1 _ && list_all ranges.is_member t.members) (list_all is_foreign t.foreign)
    origins.0 in
    (and_parts (are_limits t.limits && is_port t.master.port && nat_le 1 _) (list_all ranges.is_member t.members) foreign.0).1

pub all_tested : {A : Type 0} (test : A → Bool) (xs : List A) → list_all test xs ≡ true → AllByRecursion (λ x. test x ≡ true) xs
all_tested test [] h = tt
all_tested test (x ∷ xs) h = let parts = and_parts (test x) (list_all test xs) h in (parts.0, all_tested test xs parts.1)

-- a member's id is one that a member may have
id_fits : (m : Member) (id : ℕ) → ranges.is_member m ≡ true → nat_eq m.cache.id id ≡ true → (1 ≤ id) × (id ≤ 16)
id_fits m id fits same =
    let peers = and_parts (is_member_id m.cache.id && is_cache m.cache) (list_all is_peer m.peers) fits in
    let cache = and_parts (is_member_id m.cache.id) (is_cache m.cache) peers.0 in
    let both = and_parts (nat_le 1 m.cache.id) (nat_le m.cache.id 16) cache.0 in
    subst (λ n. (1 ≤ n) × (n ≤ 16)) (ids_same m.cache.id id same) (grind (arith, both.0), grind (arith, both.1))

member_id : (t : Tables) → are_tables t ≡ true → (id : ℕ) (o : Option Member) → find (λ m. nat_eq m.cache.id id) t.members ≡ o → is_some o ≡ true →
    (1 ≤ id) × (id ≤ 16)
member_id t fit id None is some = absurd (true_not_false (sym some))
member_id t fit id (Some m) is some =
    id_fits m id (found (λ m. ranges.is_member m ≡ true) (λ m. nat_eq m.cache.id id) t.members m (all_tested ranges.is_member t.members (members_fit t fit)) is)
    (found_passes (λ m. nat_eq m.cache.id id) t.members m is)

-- what is among those that pass a test passes it
pub left_passes : (test : ℕ → Bool) (ids : List ℕ) (id : ℕ) → is_among id (filter test ids) ≡ true → test id ≡ true
left_passes test [] id has = absurd (true_not_false (sym has))
left_passes test (i ∷ ids) id has =
    (branches (λ (xs : List ℕ). is_among id xs ≡ true → test id ≡ true) (test i) (i ∷ filter test ids) (filter test ids)
    (λ passes h. elim (or_cases (nat_eq i id) (is_among id (filter test ids)) h) [
      | inl same ↦ subst (λ n. test n ≡ true) (ids_same i id same) passes
      | inr later ↦ left_passes test ids id later
    ]) (λ _ h. left_passes test ids id h)) has

-- a member's id is possible
pub among_member : (t : Tables) → are_tables t ≡ true → (id : ℕ) → is_member t id ≡ true → is_among id possible_ids ≡ true
among_member t fit id is =
    let range = member_id t fit id (find (λ m. nat_eq m.cache.id id) t.members) refl is in
    among_possible id range.0 range.1

-- a member is among those that the master counts
pub member_counts : (t : Tables) → are_tables t ≡ true → (id : ℕ) → is_member t id ≡ true → is_among id (members_of t) ≡ true
unfolding members_of
member_counts t fit id is = kept_among (is_member t) possible_ids id is (among_member t fit id is)
