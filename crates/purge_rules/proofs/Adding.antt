-- What is added keeps the numbers in order, since a new number is above all others.
use Rattle.std.proofs.Common.{◌≡◌, ◌≢◌, ℕ, ◌<◌, ◌≤◌, ◌==◌, true, false, List, All, length, get_or, arith}
use Rattle.std.specs.List.{list_any}
use Rattle.std.proofs.lemmas.List.Elements.{All-push}
use Rattle.std.proofs.lemmas.List.Folds.{list_any_at}
use Rattle.std.proofs.lemmas.List.Quantifiers.{all_pairs_push}
use Rattle.purge_rules.specs.declared.purges.Purge.{Purge}
use Rattle.purge_rules.specs.declared.purges.Admission.{Admission}
use Rattle.purge_rules.specs.Purges.{PurgeList, AreNumbered, AreAdmissions, is_admitted, unmarked, admission_of, with_purge, with_admission}
use Rattle.purge_rules.specs.Places.{given_to}
use Rattle.purge_rules.proofs.Finding.{eqb_same}

-- the last number rises
admitted_above : (low high : ℕ) (gs : List Admission) → low ≤ high → AreAdmissions low gs → AreAdmissions high gs
admitted_above low high gs rise are = record {
  ascend = are.ascend;
  positive = are.positive;
  given = λ k d l. let given = are.given k d l in omega arith;
  member = are.member;
  once = are.once;
}

pub numbered_given : (p : PurgeList) (last : ℕ) → AreNumbered p → p.last ≤ last → last ≤ 4294967295 → AreNumbered (given_to p last)
numbered_given p last are rise fits = record {
  ascend = are.ascend;
  positive = are.positive;
  given = λ k d l. let given = are.given k d l in omega arith;
  last = fits;
  admitted = admitted_above p.last last p.admissions rise are.admitted;
  apart = are.apart;
}

pub numbered_added : (p : PurgeList) (number : ℕ) (key : List ℕ) → AreNumbered p → p.last < number → number ≤ 4294967295 →
    AreNumbered (with_purge p number key)
numbered_added p number key are above fits = record {
  ascend = all_pairs_push (λ (a b : Purge). a.number < b.number) p.pending (unmarked number key) are.ascend
      (λ k d l. let given = are.given k d l in omega arith);
  positive = All-push (λ (a : Purge). 1 ≤ a.number) p.pending (unmarked number key) are.positive (omega arith);
  given = All-push (λ (a : Purge). a.number ≤ number) p.pending (unmarked number key) (λ k d l. let given = are.given k d l in omega arith) (omega arith);
  last = fits;
  admitted = admitted_above p.last number p.admissions (omega arith) are.admitted;
  apart = All-push (λ (a : Purge). All (λ (b : Admission). a.number ≢ b.number) p.admissions) p.pending (unmarked number key) are.apart
      (λ k d l e. let given = are.admitted.given k d l in omega arith);
}

none_of : (gs : List Admission) (id : ℕ) → list_any (λ a. a.member == id) gs ≡ false → (k : ℕ) (d : Admission) → k < length gs →
    (get_or gs k d).member ≢ id
none_of gs id none k d l e =
    let some : list_any (λ (a : Admission). a.member == id) gs ≡ true = list_any_at (λ (a : Admission). a.member == id) gs k d l (eqb_same e) in
    cc

pub numbered_admitted : (p : PurgeList) (number id : ℕ) → AreNumbered p → p.last < number → number ≤ 4294967295 → (1 ≤ id) × (id ≤ 16) →
    is_admitted p id ≡ false → AreNumbered (with_admission p number id)
numbered_admitted p number id are above fits possible new = record {
  ascend = are.ascend;
  positive = are.positive;
  given = λ k d l. let given = are.given k d l in omega arith;
  last = fits;
  admitted = record {
    ascend = all_pairs_push (λ (a b : Admission). a.number < b.number) p.admissions (admission_of number id) are.admitted.ascend
        (λ k d l. let given = are.admitted.given k d l in omega arith);
    positive = All-push (λ (a : Admission). 1 ≤ a.number) p.admissions (admission_of number id) are.admitted.positive (omega arith);
    given = All-push (λ (a : Admission). a.number ≤ number) p.admissions (admission_of number id)
        (λ k d l. let given = are.admitted.given k d l in omega arith) (omega arith);
    member = All-push (λ (a : Admission). (1 ≤ a.member) × (a.member ≤ 16)) p.admissions (admission_of number id) are.admitted.member possible;
    once = all_pairs_push (λ (a b : Admission). a.member ≢ b.member) p.admissions (admission_of number id) are.admitted.once
        (none_of p.admissions id new);
  };
  apart = λ k d l. All-push (λ (b : Admission). (get_or p.pending k d).number ≢ b.number) p.admissions (admission_of number id) (are.apart k d l)
      (λ e. let given = are.given k d l in omega arith);
}
