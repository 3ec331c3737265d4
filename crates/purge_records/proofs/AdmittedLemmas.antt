-- Reading the rows of `admitted` in turn makes the admissions that the table means, and valid rows can all
-- be read. The rows come in the order of their numbers; a member stands in one row.
use Rattle.std.proofs.Common.{◌≡◌, ◌≢◌, inl, inr, ℕ, pos, ◌+◌, ◌<◌, ◌≤◌, ◌==◌, Bool, true, false, List, [], ◌∷◌, ◌++◌, map, find, get_or, All}
use Rattle.std.proofs.Common.{Option, Some, None, refl, sym, ap, subst, ◌∙◌, append-nil, append_assoc, arith}
use Rattle.std.specs.List.{AllByRecursion, list_any}
use Rattle.std.specs.List.Sorted.{IsPermutation}
use Rattle.std.specs.Ordering.{is_eq, int_cmp}
use Rattle.std.specs.declared.cmp.Ordering.TheVariants.{Less}
use Rattle.std.proofs.lemmas.Bool.{cases_Bool, eq-eqb, ne_eqb, eqb-true, eqb-false, false_from_ne_true}
use Rattle.std.proofs.lemmas.List.Sorted.{IsPermutation-sym}
use Rattle.std.proofs.lemmas.List.Elements.{All-append, All-from_recursion}
use Rattle.std.proofs.lemmas.List.Quantifiers.{all_pairs_push}
use Rattle.sqlite.specs.declared.types.Value.TheVariants.{Int}
use Rattle.sqlite_value.specs.Order.{Row, column, value_cmp}
use Rattle.sqlite_trees.specs.Tree.{rowid, IsAscending}
use Rattle.sqlite_rules.specs.Lists.{Has}
use Rattle.sqlite_rules.proofs.ListLemmas.{all_has, all_from, some_has, some_from, has_found}
use Rattle.sqlite_rules.proofs.ProbeLemmas.{has_mapped, mapped_has}
use Rattle.purge_rules.specs.declared.purges.Purge.{Purge}
use Rattle.purge_rules.specs.declared.purges.Admission.{Admission}
use Rattle.purge_rules.specs.Purges.{PurgeList, AreNumbered, is_numbered, pending_at, is_admitted}
use Rattle.purge_rules.specs.Places.{with_admissions}
use Rattle.purge_records.specs.Tables.{is_purge, number_of, purge_in, by_number, purges_of, last_in, admitted_member, admitted_number, admission_in}
use Rattle.purge_records.specs.Tables.{admissions_of}
use Rattle.purge_records.specs.Tables.{IsAdmission, AreAdmitted, HasOwnIds, HasOwnNumbers}
use Rattle.purge_records.specs.Rows.{IsAdmissionRow, Follows, Admits, HasAdmitted, RisesBy, with_next, shown_admitted}
use Rattle.purge_records.proofs.OrderLemmas.{by_number_has, has_by_number}
use Rattle.purge_records.proofs.RowLemmas.{its_number, all_map, any_push, any_end, none_end}
use Rattle.purge_records.proofs.AdmitLemmas.{given_number}
use Rattle.purge_records.proofs.AnswerLemmas.{tied_number}
use Rattle.purge_records.proofs.ReadLemmas.{permuted_all, permuted_apart, same_ids, flip_ids, flip_eqb, from_shown, to_shown, from_shown_apart}
use Rattle.purge_records.proofs.ReadLemmas.{to_shown_apart, in_order}
use Rattle.purge_records.proofs.ExistLemmas.{RisingBy, rising_tail, not_less, nat_less, above_next, found_there}

-- ---- the purges that are pending

module _ (one rows acks : List Row) (n : ℕ) where
  abbrev there : List Purge
  there = by_number its_number (map (purge_in acks) rows)

  pub none_pending : list_any (is_purge n) rows ≡ false → pending_at (purges_of one rows acks) n ≡ None
  none_pending none = go (pending_at (purges_of one rows acks) n) refl
    where
      go : (found : Option Purge) → pending_at (purges_of one rows acks) n ≡ found → pending_at (purges_of one rows acks) n ≡ None
      go None is = is
      go (Some p) is = absurd (
          let at = has_found (is_numbered n) there p is in
          let r = has_mapped (purge_in acks) rows p (has_by_number its_number (map (purge_in acks) rows) p at.0) in
          let number : number_of r.0 ≡ n = ap (λ (q : Purge). q.number) (sym r.2) ∙ eqb-true p.number n at.1 in
          let on = some_from (is_purge n) rows r.0 r.1 (eq-eqb (number_of r.0) n number) in
          let bad : true ≡ false = sym on ∙ none in cc)

  pub no_purge : pending_at (purges_of one rows acks) n ≡ None → list_any (is_purge n) rows ≡ false
  no_purge none = false_from_ne_true _ (λ on.
      let r = some_has (is_purge n) rows on in
      found_there (is_numbered n) there (purge_in acks r.0)
      (by_number_has its_number (map (purge_in acks) rows) (purge_in acks r.0) (mapped_has (purge_in acks) rows r.0 r.1)) r.2 none)

-- ---- what is read

admits_is : (low : ℕ) (p : PurgeList) (rows : List Row) (all : PurgeList) → Admits low p rows all →
    all ≡ with_admissions p (p.admissions ++ map admission_in rows)
admits_is low p [] all h = h ∙ ap (with_admissions p) (sym (append-nil p.admissions))
admits_is low p (r ∷ rows) all h = admits_is (admitted_number r) (with_next p (admission_in r)) rows all h.3
    ∙ ap (with_admissions p) (append_assoc p.admissions (admission_in r ∷ []) (map admission_in rows))

admits_above : (bound low : ℕ) (p : PurgeList) (rows : List Row) (all : PurgeList) → bound ≤ low → Admits low p rows all →
    AllByRecursion (λ r. bound < admitted_number r) rows
admits_above bound low p [] all from h = tt
admits_above bound low p (r ∷ rows) all from h = (
  omega (arith, from, h.1),
  admits_above bound (admitted_number r) (with_next p (admission_in r)) rows all (omega (arith, from, h.1)) h.3,
)

admits_rise : (low : ℕ) (p : PurgeList) (rows : List Row) (all : PurgeList) → Admits low p rows all →
    IsAscending (λ a b. admitted_number a < admitted_number b) rows
admits_rise low p [] all h = tt
admits_rise low p (r ∷ rows) all h = (
  admits_above (admitted_number r) (admitted_number r) (with_next p (admission_in r)) rows all (omega arith) h.3,
  admits_rise (admitted_number r) (with_next p (admission_in r)) rows all h.3,
)

-- what each row rests on
abbrev Stands : PurgeList → Row → Type 0
Stands p r = IsAdmissionRow r × (1 ≤ admitted_number r) × (admitted_number r ≤ p.last) × (pending_at p (admitted_number r) ≡ None)

admits_rows : (low : ℕ) (p : PurgeList) (rows : List Row) (all : PurgeList) → Admits low p rows all → AllByRecursion (Stands p) rows
admits_rows low p [] all h = tt
admits_rows low p (r ∷ rows) all h = (
  (h.0, omega (arith, h.1), h.2.given, h.2.apart),
  admits_rows (admitted_number r) (with_next p (admission_in r)) rows all h.3,
)

-- no later row is of a member that is admitted
admits_others : (m low : ℕ) (p : PurgeList) (rows : List Row) (all : PurgeList) → is_admitted p m ≡ true → Admits low p rows all →
    AllByRecursion (λ r. (m == admitted_member r) ≡ false) rows
admits_others m low p [] all in_p h = tt
admits_others m low p (r ∷ rows) all in_p h = (
  ne_eqb m (admitted_member r) (λ e. absurd (let bad : true ≡ false = sym in_p ∙ ap (is_admitted p) e ∙ h.2.new in cc)),
  admits_others m (admitted_number r) (with_next p (admission_in r)) rows all
      (any_push (λ (a : Admission). a.member == m) p.admissions (admission_in r) in_p) h.3,
)

admits_members : (low : ℕ) (p : PurgeList) (rows : List Row) (all : PurgeList) → Admits low p rows all →
    IsAscending (λ a b. (admitted_member a == admitted_member b) ≡ false) rows
admits_members low p [] all h = tt
admits_members low p (r ∷ rows) all h = (
  admits_others (admitted_member r) (admitted_number r) (with_next p (admission_in r)) rows all
      (any_end (λ (a : Admission). a.member == admitted_member r) p.admissions (admission_in r) (eq-eqb (admitted_member r) (admitted_member r) refl)) h.3,
  admits_members (admitted_number r) (with_next p (admission_in r)) rows all h.3,
)

-- a member is the rowid
own_ids : (rows : List Row) → AllByRecursion IsAdmissionRow rows → IsAscending (λ a b. (admitted_member a == admitted_member b) ≡ false) rows → HasOwnIds rows
own_ids [] all up = tt
own_ids (r ∷ rows) all up = (go rows all.1 up.0, own_ids rows all.1 up.1)
  where
    go : (xs : List Row) → AllByRecursion IsAdmissionRow xs → AllByRecursion (λ b. (admitted_member r == admitted_member b) ≡ false) xs →
        AllByRecursion (λ b. is_eq (value_cmp (rowid r) (rowid b)) ≡ false) xs
    go [] those off = tt
    go (x ∷ xs) those off = (
      ap (λ v. is_eq (value_cmp v (rowid x))) all.0.member ∙ ap (λ v. is_eq (value_cmp (Int (pos (admitted_member r))) v)) those.0.member
          ∙ tied_number (admitted_member r) (admitted_member x) ∙ off.0,
      go xs those.1 off.1,
    )

shown_admission : (rows : List Row) → map admission_in (map shown_admitted rows) ≡ map admission_in rows
shown_admission [] = refl
shown_admission (r ∷ rows) = ap (λ more. admission_in r ∷ more) (shown_admission rows)

module _ (one rows acks table : List Row) (before after : PurgeList) (is : before ≡ purges_of one rows acks) (h : HasAdmitted table before after) where
  abbrev read : List Row
  read = h.0

  admitting : Admits 0 (purges_of one rows acks) read after
  admitting = subst (λ p. Admits 0 (with_admissions p []) read after) is h.2

  standing : AllByRecursion (Stands (purges_of one rows acks)) read
  standing = admits_rows 0 (purges_of one rows acks) read after admitting

  back : IsPermutation read (map shown_admitted table)
  back = IsPermutation-sym (map shown_admitted table) read h.1.same

  -- the rows read are those of the table in another order, so what holds of each and of each two holds there
  pub admitted_read : AreAdmitted (last_in one) rows table
  admitted_read = record {
    admissions = from_shown (IsAdmission (last_in one) rows) (IsAdmission (last_in one) rows) shown_admitted
        (λ r x. record {
          member = x.member;
          low = x.low;
          high = x.high;
          number = x.number;
          positive = x.positive;
          given = x.given;
          apart = x.apart;
          done = x.done;
        }) table (permuted_all (IsAdmission (last_in one) rows) read (map shown_admitted table) back
        (all_map (Stands (purges_of one rows acks)) (IsAdmission (last_in one) rows) read (λ r x. record {
          member = x.0.member;
          low = x.0.low;
          high = x.0.high;
          number = x.0.number;
          positive = x.1;
          given = x.2;
          apart = no_purge one rows acks (admitted_number r) x.3;
          done = x.0.done;
        }) standing));
    members = from_shown_apart (λ a b. is_eq (value_cmp (rowid a) (rowid b)) ≡ false) shown_admitted (λ a b x. x) table
        (permuted_apart same_ids flip_ids read (map shown_admitted table) back
        (own_ids read (all_map (Stands (purges_of one rows acks)) IsAdmissionRow read (λ r x. x.0) standing)
        (admits_members 0 (purges_of one rows acks) read after admitting)));
    numbers = from_shown_apart (λ a b. (admitted_number a == admitted_number b) ≡ false) shown_admitted (λ a b x. x) table
        (permuted_apart (λ a b. admitted_number a == admitted_number b) (λ a b. flip_eqb (admitted_number a) (admitted_number b)) read
        (map shown_admitted table) back (apart read (admits_rise 0 (purges_of one rows acks) read after admitting)));
  }
    where
      apart : (rows : List Row) → IsAscending (λ a b. admitted_number a < admitted_number b) rows → HasOwnNumbers rows
      apart [] up = tt
      apart (r ∷ rows) up = (
        all_map (λ b. admitted_number r < admitted_number b) (λ b. (admitted_number r == admitted_number b) ≡ false) rows
            (λ b low. ne_eqb (admitted_number r) (admitted_number b) (λ e. omega (arith, low, e))) up.0,
        apart rows up.1,
      )

  pub admitted_is : after ≡ with_admissions (purges_of one rows acks) (admissions_of table)
  admitted_is =
      admits_is 0 (purges_of one rows acks) read after admitting
      ∙ ap (with_admissions (purges_of one rows acks))
      (sym (in_order given_number admission_in (map shown_admitted table) read h.1.same (admits_rise 0 (purges_of one rows acks) read after admitting))
      ∙ ap (by_number given_number) (shown_admission table))

-- ---- valid rows can be read

module _ (pending : List Row) where
  -- each row is above the one before it, and none before it has its member, so it can be admitted
  can_admit : (low : ℕ) (p : PurgeList) (rows : List Row) → ((n : ℕ) → list_any (is_purge n) pending ≡ false → pending_at p n ≡ None)
      → AllByRecursion (IsAdmission p.last pending) rows → HasOwnIds rows → HasOwnNumbers rows → RisingBy 2 rows
      → AllByRecursion (λ r. is_admitted p (admitted_member r) ≡ false) rows
      → ((r : Row) (more : List Row) → rows ≡ r ∷ more → low < admitted_number r) → (all : PurgeList) × Admits low p rows all
  can_admit low p [] none all ids numbers up fresh above = (p, refl)
  can_admit low p (r ∷ rows) none all ids numbers up fresh above =
      let is = all.0 in
      let next = λ (s : Row) (more : List Row) (e : rows ≡ s ∷ more). nat_less (admitted_number r) (admitted_number s) (follows s more e) in
      let rest = can_admit (admitted_number r) (with_next p (admission_in r)) rows none all.1 ids.1 numbers.1 (rising_tail 2 r rows up)
      (fresher rows ids.0 all.1 fresh.1) next in (
        rest.0,
        (
          record { member = is.member; low = is.low; high = is.high; number = is.number; done = is.done },
          above r rows refl,
          record { given = is.given; new = fresh.0; apart = none (admitted_number r) is.apart },
          rest.1,
        ),
      )
    where
      fresher : (xs : List Row) → AllByRecursion (λ b. is_eq (value_cmp (rowid r) (rowid b)) ≡ false) xs → AllByRecursion (IsAdmission p.last pending) xs
          → AllByRecursion (λ x. is_admitted p (admitted_member x) ≡ false) xs
          → AllByRecursion (λ x. is_admitted (with_next p (admission_in r)) (admitted_member x) ≡ false) xs
      fresher [] off those old = tt
      fresher (x ∷ xs) off those old = (
        none_end (λ (a : Admission). a.member == admitted_member x) p.admissions (admission_in r) old.0
            (sym (tied_number (admitted_member r) (admitted_member x)) ∙ ap (λ v. is_eq (value_cmp v (Int (pos (admitted_member x))))) (sym all.0.member)
            ∙ ap (λ v. is_eq (value_cmp (rowid r) v)) (sym those.0.member) ∙ off.0),
        fresher xs off.1 those.1 old.1,
      )

      follows : (s : Row) (more : List Row) → rows ≡ s ∷ more → int_cmp (pos (admitted_number r)) (pos (admitted_number s)) ≡ Less
      follows s more e =
          let at : Has rows s = subst (λ xs. Has xs s) (sym e) (inl refl) in
          let its = all_has (IsAdmission p.last pending) rows s all.1 at in
          let apart = all_has (λ b. (admitted_number r == admitted_number b) ≡ false) rows s numbers.0 at in
          above_next (column r 2) (column s 2) (pos (admitted_number r)) (pos (admitted_number s)) all.0.number its.number
          (not_less 2 r s more (subst (λ xs. RisingBy 2 (r ∷ xs)) e up))
          (ap (λ v. is_eq (value_cmp v (column s 2))) all.0.number ∙ ap (λ v. is_eq (value_cmp (Int (pos (admitted_number r))) v)) its.number
          ∙ tied_number (admitted_number r) (admitted_number s) ∙ apart)

-- the rows come in the order of their numbers and are as valid as the table's, so `can_admit` takes them all
pub can_read_admitted : (one rows acks table read : List Row) → AreAdmitted (last_in one) rows table → RisesBy 2 (map shown_admitted table) read →
    (all : PurgeList) × Admits 0 (purges_of one rows acks) read all
can_read_admitted one rows acks table read are rises =
    let good = permuted_all (IsAdmission (last_in one) rows) (map shown_admitted table) read rises.same
    (to_shown (IsAdmission (last_in one) rows) (IsAdmission (last_in one) rows) shown_admitted (λ r x. record {
      member = x.member;
      low = x.low;
      high = x.high;
      number = x.number;
      positive = x.positive;
      given = x.given;
      apart = x.apart;
      done = x.done;
    }) table are.admissions) in
    let ids = permuted_apart same_ids flip_ids (map shown_admitted table) read rises.same
    (to_shown_apart (λ a b. is_eq (value_cmp (rowid a) (rowid b)) ≡ false) shown_admitted (λ a b x. x) table are.members) in
    let numbers = permuted_apart (λ a b. admitted_number a == admitted_number b) (λ a b. flip_eqb (admitted_number a) (admitted_number b))
    (map shown_admitted table) read rises.same
    (to_shown_apart (λ a b. (admitted_number a == admitted_number b) ≡ false) shown_admitted (λ a b x. x) table are.numbers) in
    can_admit rows 0 (purges_of one rows acks) read (none_pending one rows acks) good ids numbers rises.rises (all_from _ read (λ r has. refl))
    (λ r more is. let first = all_has (IsAdmission (last_in one) rows) read r good (subst (λ xs. Has xs r) (sym is) (inl refl)) in
    omega (arith, first.positive))

-- ---- admissions that were read may be added

absent : (number : ℕ) (pending : List Purge) → find (is_numbered number) pending ≡ None → All (λ p. p.number ≢ number) pending
absent number pending none = All-from_recursion (λ p. p.number ≢ number) pending (go pending none)
  where
    go : (pending : List Purge) → find (is_numbered number) pending ≡ None → AllByRecursion (λ p. p.number ≢ number) pending
    go [] none = tt
    go (p ∷ pending) none = elim (cases_Bool (is_numbered number p)) [
      | inl on ↦ absurd (let bad : Some p ≡ None = rw on at none in cc)
      | inr off ↦ ((λ e. eqb-false p.number number off e), go pending (rw off at none))
    ]

no_member : (m : ℕ) (admissions : List Admission) → list_any (λ a. a.member == m) admissions ≡ false → All (λ (a : Admission). a.member ≢ m) admissions
no_member m admissions none = All-from_recursion (λ (a : Admission). a.member ≢ m) admissions (go admissions none)
  where
    go : (admissions : List Admission) → list_any (λ a. a.member == m) admissions ≡ false → AllByRecursion (λ (a : Admission). a.member ≢ m) admissions
    go [] none = tt
    go (a ∷ admissions) none = elim (cases_Bool (a.member == m)) [
      | inl on ↦ absurd (let bad : true ≡ false = rw on at none in cc)
      | inr off ↦ ((λ e. eqb-false a.member m off e), go admissions (rw off at none))
    ]

one_more : {X : Type 0} (P : X → Type 0) (xs : List X) (x : X) → All P xs → P x → All P (xs ++ x ∷ [])
one_more P xs x all one = All-append P xs (x ∷ []) all (All-from_recursion P (x ∷ []) (one, tt))

pub numbered_next : (p : PurgeList) (low : ℕ) (r : Row) → AreNumbered p → All (λ (a : Admission). a.number ≤ low) p.admissions → IsAdmissionRow r →
    low < admitted_number r → Follows p (admission_in r) → AreNumbered (with_next p (admission_in r))
numbered_next p low r are below row above next = record {
  ascend = are.ascend;
  positive = are.positive;
  given = are.given;
  last = are.last;
  admitted = record {
    ascend = all_pairs_push (λ (a b : Admission). a.number < b.number) p.admissions (admission_in r) are.admitted.ascend
        (λ k d l. let it = below k d l in omega (arith, it, above));
    positive = one_more (λ (a : Admission). 1 ≤ a.number) p.admissions (admission_in r) are.admitted.positive (omega (arith, above));
    given = one_more (λ (a : Admission). a.number ≤ p.last) p.admissions (admission_in r) are.admitted.given next.given;
    member = one_more (λ (a : Admission). (1 ≤ a.member) × (a.member ≤ 16)) p.admissions (admission_in r) are.admitted.member (row.low, row.high);
    once = all_pairs_push (λ (a b : Admission). a.member ≢ b.member) p.admissions (admission_in r) are.admitted.once
        (no_member (admitted_member r) p.admissions next.new);
  };
  apart = λ k d l. one_more (λ (b : Admission). (get_or p.pending k d).number ≢ b.number) p.admissions (admission_in r) (are.apart k d l)
      (absent (admitted_number r) p.pending next.apart k d l);
}

-- purges without their admissions
pub numbered_bare : (p : PurgeList) → AreNumbered p → AreNumbered (with_admissions p [])
numbered_bare p are = record {
  ascend = are.ascend;
  positive = are.positive;
  given = are.given;
  last = are.last;
  admitted = record {
    ascend = λ i j d lt l. absurd (omega (arith, l));
    positive = λ k d l. absurd (omega (arith, l));
    given = λ k d l. absurd (omega (arith, l));
    member = λ k d l. absurd (omega (arith, l));
    once = λ i j d lt l. absurd (omega (arith, l));
  };
  apart = λ k d l i e m. absurd (omega (arith, m));
}

pub admits_numbered : (low : ℕ) (p : PurgeList) (rows : List Row) (all : PurgeList) → AreNumbered p → All (λ (a : Admission). a.number ≤ low) p.admissions →
    Admits low p rows all → AreNumbered all
admits_numbered low p [] all are below h = subst AreNumbered (sym h) are
admits_numbered low p (r ∷ rows) all are below h =
    admits_numbered (admitted_number r) (with_next p (admission_in r)) rows all (numbered_next p low r are below h.0 h.1 h.2)
    (one_more (λ (a : Admission). a.number ≤ admitted_number r) p.admissions (admission_in r) (λ k d l. let it = below k d l in omega (arith, it, h.1))
    (omega arith)) h.3

-- the admissions that were read are numbered as they have to be
pub all_numbered : (p : PurgeList) (rows : List Row) (all : PurgeList) → AreNumbered p → Admits 0 (with_admissions p []) rows all → AreNumbered all
all_numbered p rows all are h = admits_numbered 0 (with_admissions p []) rows all (numbered_bare p are) (λ k d l. absurd (omega (arith, l))) h
