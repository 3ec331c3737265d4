-- The master's numbers after a change: which of them are pending, and which admission a number has.
-- By induction over the lists.
use Rattle.std.proofs.Common.{◌≡◌, ℕ, ◌≤◌, ◌<◌, Bool, true, false, cond, ◌||◌, List, [], ◌∷◌, ◌++◌, Option, Some, None, refl, sym, ◌∙◌, ap, nat_eq, find}
use Rattle.std.proofs.Common.{arith}
use Rattle.std.specs.Prelude.{◌≢◌}
use Rattle.std.specs.List.{AllByRecursion, list_any}
use Rattle.std.proofs.lemmas.Option.{none-some}
use Rattle.node_rules.proofs.Cases.{branches, true_not_false, or_true}
use Rattle.purge_rules.specs.declared.purges.Purge.{Purge}
use Rattle.purge_rules.specs.declared.purges.Admission.{Admission}
use Rattle.purge_rules.specs.Needed.{admission_in}
use Rattle.purge_rules.specs.Purges.{PurgeList, pending_at, admission_at, admission_marks, marks_by, marks_at, with_purge, admission_of, with_admission}
use Rattle.purge_rules.specs.Purges.{with_mark}
use Rattle.purge_rules.specs.Purges.{ended, ended_at, with_done, unmarked}
use Rattle.world_rules.proofs.MemberStates.{same_id, ids_same, other_id, or_left, pending-none_of_append, pending-pushed, pending-none_of_marked}
use Rattle.world_rules.proofs.MemberStates.{pending-none_of_without}

-- Lists with one item more

pub find_pushed : {A : Type 0} (test : A → Bool) (xs : List A) (x : A) → test x ≡ false → find test (xs ++ x ∷ []) ≡ find test xs
find_pushed test [] x other = ap (λ b. cond b (Some x) None) other
find_pushed test (y ∷ xs) x other = ap (cond (test y) (Some y)) (find_pushed test xs x other)

pub find_last : {A : Type 0} (test : A → Bool) (xs : List A) (x : A) → find test xs ≡ None → test x ≡ true → find test (xs ++ x ∷ []) ≡ Some x
find_last test [] x none passes = ap (λ b. cond b (Some x) None) passes
find_last {A} test (y ∷ xs) x none passes =
    (branches (λ (o : Option A). o ≡ None → cond (test y) (Some y) (find test (xs ++ x ∷ [])) ≡ Some x) (test y) (Some y) (find test xs)
    (λ _ e. absurd (none-some y (sym e)))
    (λ other e. ap (λ b. cond b (Some y) (find test (xs ++ x ∷ []))) other ∙ find_last test xs x e passes)) none

pub any_pushed : {A : Type 0} (test : A → Bool) (xs : List A) (x : A) → test x ≡ false → list_any test (xs ++ x ∷ []) ≡ list_any test xs
any_pushed test [] x other = ap (λ b. b || false) other
any_pushed test (y ∷ xs) x other = ap (λ b. test y || b) (any_pushed test xs x other)

pub any_front : {A : Type 0} (test : A → Bool) (xs : List A) (x : A) → list_any test xs ≡ true → list_any test (xs ++ x ∷ []) ≡ true
any_front test [] x h = absurd (true_not_false (sym h))
any_front test (y ∷ xs) x h = (elim (test y) as (λ b. (b || list_any test xs) ≡ true → (b || list_any test (xs ++ x ∷ [])) ≡ true)
    [ true ↦ λ _. refl | false ↦ λ rest. any_front test xs x rest ]) h

pub any_last : {A : Type 0} (test : A → Bool) (xs : List A) (x : A) → test x ≡ true → list_any test (xs ++ x ∷ []) ≡ true
any_last test [] x h = or_left (test x) false h
any_last test (y ∷ xs) x h = or_true (test y) (list_any test (xs ++ x ∷ [])) (any_last test xs x h)

-- Admissions

-- an admission with a greater number is not found
pub none_above : (admissions : List Admission) (last number : ℕ) → AllByRecursion (λ (a : Admission). a.number ≤ last) admissions → last < number →
    admission_in admissions number ≡ None
none_above [] last number all above = refl
none_above (a ∷ admissions) last number all above =
    ap (λ b. cond b (Some a) (admission_in admissions number)) (other_id a.number number (λ e. omega (arith, all.0, above, e)))
    ∙ none_above admissions last number all.1 above

-- the admission, done if it has this number
abbrev pub ended_if : ℕ → Admission → Admission
ended_if number a = cond (nat_eq a.number number) (ended a) a

-- a test that does not look at whether an admission is done
pub any_ended : (test : Admission → Bool) (same : (a : Admission) → test (ended a) ≡ test a) (admissions : List Admission) (number : ℕ) →
    list_any test (ended_at number admissions) ≡ list_any test admissions
any_ended test same [] number = refl
any_ended test same (a ∷ admissions) number =
    branches (λ (x : Admission). (test x || list_any test (ended_at number admissions)) ≡ (test a || list_any test admissions)) (nat_eq a.number number)
    (ended a) a
    (λ _. ap (λ b. b || list_any test (ended_at number admissions)) (same a) ∙ ap (λ b. test a || b) (any_ended test same admissions number))
    (λ _. ap (λ b. test a || b) (any_ended test same admissions number))

-- what does not look at whether an admission is done stays the same of the one that is found
pub found_ended : {A : Type 0} (f : Option Admission → A) (same : (a : Admission) → f (Some (ended a)) ≡ f (Some a)) (admissions : List Admission)
    (number which : ℕ) → f (admission_in (ended_at number admissions) which) ≡ f (admission_in admissions which)
found_ended f same [] number which = refl
found_ended f same (a ∷ admissions) number which =
    branches (λ (x : Admission). f (cond (nat_eq x.number which) (Some x) (admission_in (ended_at number admissions) which))
    ≡ f (cond (nat_eq a.number which) (Some a) (admission_in admissions which))) (nat_eq a.number number) (ended a) a
    (λ _. elim (nat_eq a.number which) as (λ b. f (cond b (Some (ended a)) (admission_in (ended_at number admissions) which))
    ≡ f (cond b (Some a) (admission_in admissions which))) [ true ↦ same a | false ↦ found_ended f same admissions number which ])
    (λ _. elim (nat_eq a.number which) as (λ b. f (cond b (Some a) (admission_in (ended_at number admissions) which))
    ≡ f (cond b (Some a) (admission_in admissions which))) [ true ↦ refl | false ↦ found_ended f same admissions number which ])

-- the admission of another number stays as it was
other_ended : (admissions : List Admission) (number other : ℕ) → other ≢ number → admission_in (ended_at number admissions) other
    ≡ admission_in admissions other
other_ended [] number other ne = refl
other_ended (a ∷ admissions) number other ne =
    branches (λ (x : Admission). cond (nat_eq x.number other) (Some x) (admission_in (ended_at number admissions) other)
    ≡ cond (nat_eq a.number other) (Some a) (admission_in admissions other)) (nat_eq a.number number) (ended a) a
    (λ same. let apart : nat_eq a.number other ≡ false = other_id a.number other (λ e. ne (sym e ∙ ids_same a.number number same)) in
    ap (λ b. cond b (Some (ended a)) (admission_in (ended_at number admissions) other)) apart ∙ other_ended admissions number other ne
    ∙ sym (ap (λ b. cond b (Some a) (admission_in admissions other)) apart))
    (λ _. ap (cond (nat_eq a.number other) (Some a)) (other_ended admissions number other ne))

-- Which numbers are pending

marks_none : (p : Option Purge) (a : Option Admission) → marks_by p a ≡ None → (p ≡ None) × (admission_marks a ≡ None)
marks_none None a e = (refl, e)
marks_none (Some p) a e = absurd (none-some p.marked (sym e))

both_none : (p : Option Purge) (a : Option Admission) → p ≡ None → admission_marks a ≡ None → marks_by p a ≡ None
both_none p a none e = ap (λ o. marks_by o a) none ∙ e

-- what is not pending once a purge is added was not before, and that purge is pending
pub purge_pushed : (m : PurgeList) (number : ℕ) (key : List ℕ) (other : ℕ) → marks_at (with_purge m number key) other ≡ None → marks_at m other ≡ None
purge_pushed m number key other e =
    let parts = marks_none (pending_at (with_purge m number key) other) (admission_at m other) e in
    both_none (pending_at m other) (admission_at m other) (pending-none_of_append m.pending (unmarked number key ∷ []) other parts.0) parts.1

pub purge_pending : (m : PurgeList) (number : ℕ) (key : List ℕ) → marks_at (with_purge m number key) number ≡ None → ⊥
purge_pending m number key e = pending-pushed m.pending (unmarked number key)
    (marks_none (pending_at (with_purge m number key) number) (admission_at m number) e).0

-- the same of an admission
pub admission_pushed : (m : PurgeList) (number id other : ℕ) → other ≢ number → marks_at (with_admission m number id) other ≡ None → marks_at m other ≡ None
admission_pushed m number id other ne e =
    ap (marks_by (pending_at m other)) (sym (find_pushed (λ (a : Admission). nat_eq a.number other) m.admissions (admission_of number id)
    (other_id number other (λ s. ne (sym s))))) ∙ e

pub admission_pending : (m : PurgeList) (number id : ℕ) → admission_at m number ≡ None → marks_at (with_admission m number id) number ≡ None → ⊥
admission_pending m number id none e =
    let marks = (marks_none (pending_at m number) (admission_at (with_admission m number id) number) e).1 in
    let it : admission_at (with_admission m number id) number ≡ Some (admission_of number id) =
    find_last (λ (a : Admission). nat_eq a.number number) m.admissions (admission_of number id) none (same_id number) in
    none-some [] (sym (ap admission_marks (sym it) ∙ marks))

-- what is not pending after a mark was not before
pub mark_pending : (m : PurgeList) (number id other : ℕ) → marks_at (with_mark m number id) other ≡ None → marks_at m other ≡ None
mark_pending m number id other e =
    let parts = marks_none (pending_at (with_mark m number id) other) (admission_at m other) e in
    both_none (pending_at m other) (admission_at m other) (pending-none_of_marked m.pending number id other parts.0) parts.1

-- what is not pending after a number is done was not before, but for that number
pub done_pending : (m : PurgeList) (number other : ℕ) → other ≢ number → marks_at (with_done m number) other ≡ None → marks_at m other ≡ None
done_pending m number other ne e =
    let parts = marks_none (pending_at (with_done m number) other) (admission_at (with_done m number) other) e in
    both_none (pending_at m other) (admission_at m other) (pending-none_of_without m.pending number other ne parts.0)
    (ap admission_marks (sym (other_ended m.admissions number other ne)) ∙ parts.1)
