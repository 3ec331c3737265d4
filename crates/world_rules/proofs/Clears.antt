-- CLRs to the members that a purge needs, made by going over the possible ids 1 to 16: those that pass
-- two tests, of a member and of one that is needed; for every other id no datagram is made.
use Rattle.std.proofs.Common.{◌≡◌, ℕ, Bool, true, false, cond, ◌&&◌, ◌||◌, nat_eq, List, [], ◌∷◌, ◌++◌, filter, flat_map, Some, refl, sym, ◌∙◌, ap}
use Rattle.std.specs.List.{AllByRecursion}
use Rattle.values_tables.specs.declared.plain.Tables.{Tables}
use Rattle.roster.specs.Lookups.{member_of, is_member}
use Rattle.purge_rules.specs.declared.purges.Admission.{Admission}
use Rattle.purge_rules.specs.Members.{is_among, possible_ids, members_of}
use Rattle.purge_rules.specs.Needed.{nodes_of, needs, needed}
use Rattle.purge_rules.specs.Clear.{clear}
use Rattle.world_rules.specs.Consequence.{clear_to, clear_if, clears_of}
use Rattle.world_rules.proofs.MemberStates.{ids_same}
use Rattle.world_rules.proofs.Members.{all_tested}

none_left : (b : Bool) → (b && false) ≡ false
none_left true = refl
none_left false = refl

-- the first id of a list is left if it passes
left_first : (test : ℕ → Bool) (i : ℕ) (ids : List ℕ) (id : ℕ) → is_among id (filter test ids) ≡ (is_among id ids && test id) → (b : Bool) →
    nat_eq i id ≡ b → is_among id (filter test (i ∷ ids)) ≡ ((b || is_among id ids) && test id)
left_first test i ids id rest true same =
    let e : i ≡ id = ids_same i id same in
    (elim (test id) as (λ b. test id ≡ b → is_among id (filter test (i ∷ ids)) ≡ b) [
      | true ↦ λ passes. ap (λ (b : Bool). is_among id (cond b (i ∷ filter test ids) (filter test ids))) (ap test e ∙ passes)
          ∙ ap (λ b. b || is_among id (filter test ids)) same
      | false ↦ λ fails. ap (λ (b : Bool). is_among id (cond b (i ∷ filter test ids) (filter test ids))) (ap test e ∙ fails)
          ∙ rest ∙ ap (λ b. is_among id ids && b) fails ∙ none_left (is_among id ids)
    ]) refl
left_first test i ids id rest false other =
    elim (test i) as (λ (b : Bool). is_among id (cond b (i ∷ filter test ids) (filter test ids)) ≡ (is_among id ids && test id)) [
      | true ↦ ap (λ b. b || is_among id (filter test ids)) other ∙ rest
      | false ↦ rest
    ]

-- what is left of a list are the ids that pass
among_left : (test : ℕ → Bool) (ids : List ℕ) (id : ℕ) → is_among id (filter test ids) ≡ (is_among id ids && test id)
among_left test [] id = refl
among_left test (i ∷ ids) id = left_first test i ids id (among_left test ids id) (nat_eq i id) refl

-- the ids that pass a test, taken from ids that are all among some more
kept_of : {A : Type 0} (f : ℕ → List A) (test : ℕ → Bool) (whole ids : List ℕ) → AllByRecursion (λ id. is_among id whole ≡ true) ids →
    flat_map (λ id. cond (is_among id (filter test whole)) (f id) []) ids ≡ flat_map f (filter test ids)
kept_of f test whole [] all = refl
kept_of f test whole (id ∷ ids) all =
    let same : is_among id (filter test whole) ≡ test id = among_left test whole id ∙ ap (λ b. b && test id) all.0 in
    ap (λ (b : Bool). cond b (f id) [] ++ flat_map (λ id. cond (is_among id (filter test whole)) (f id) []) ids) same
    ∙ ap (λ l. cond (test id) (f id) [] ++ l) (kept_of f test whole ids all.1)
    ∙ (elim (test id) as (λ (b : Bool). cond b (f id) [] ++ flat_map f (filter test ids) ≡ flat_map f (cond b (id ∷ filter test ids) (filter test ids)))
    [ true ↦ refl | false ↦ refl ])

-- two tests one after the other are one test
both_tests : (first second : ℕ → Bool) (ids : List ℕ) → filter second (filter first ids) ≡ filter (λ id. first id && second id) ids
both_tests first second [] = refl
both_tests first second (id ∷ ids) =
    elim (first id) as (λ (b : Bool). filter second (cond b (id ∷ filter first ids) (filter first ids))
    ≡ cond (b && second id) (id ∷ filter (λ id. first id && second id) ids) (filter (λ id. first id && second id) ids)) [
      | true ↦ ap (λ (l : List ℕ). cond (second id) (id ∷ l) l) (both_tests first second ids)
      | false ↦ both_tests first second ids
    ]

-- a CLR for each possible id, if the purge needs it, is one CLR to each member that the purge needs
pub clears_to_needed : (t : Tables) (admissions : List Admission) (number : ℕ) (key : List ℕ) →
    flat_map (clear_if t (needed (nodes_of t) admissions number) number key) possible_ids ≡ clears_of t admissions number key
unfolding members_of
clears_to_needed t admissions number key =
    let two : needed (nodes_of t) admissions number ≡ filter (λ id. is_member t id && needs (nodes_of t) admissions number id) possible_ids =
    both_tests (is_member t) (needs (nodes_of t) admissions number) possible_ids in
    ap (λ (ids : List ℕ). flat_map (clear_if t ids number key) possible_ids) two
    ∙ kept_of (λ id. clear_to t (Some (clear number key)) (member_of t id)) (λ id. is_member t id && needs (nodes_of t) admissions number id) possible_ids
    possible_ids (all_tested (λ id. is_among id possible_ids) possible_ids refl)
    ∙ ap (λ (ids : List ℕ). flat_map (λ id. clear_to t (Some (clear number key)) (member_of t id)) ids) (sym two)
