-- What one admission more, or one that ends, makes of the rows of `admitted`. Each keeps the rows valid and
-- is the change of `purge_rules` (`with_admission`, `with_ended`). Rows stand in the order of members, so
-- the admissions are sorted by number.
use Rattle.std.proofs.Common.{◌≡◌, ◌≢◌, ◌⊎◌, inl, inr, ℕ, pos, ◌<◌, ◌≤◌, ◌==◌, Bool, true, false, cond, List, [], ◌∷◌, ◌++◌, map, filter}
use Rattle.std.proofs.Common.{refl, sym, ap, subst, ◌∙◌, arith}
use Rattle.std.specs.List.{AllByRecursion, list_any}
use Rattle.std.specs.Ordering.{is_eq, match_ordering}
use Rattle.std.specs.declared.cmp.Ordering.{Ordering}
use Rattle.std.specs.declared.cmp.Ordering.TheVariants.{Less, Equal, Greater}
use Rattle.std.proofs.lemmas.Bool.{cases_Bool, eq-eqb, ne_eqb, eqb-true, eqb-false, false_from_ne_true}
use Rattle.sqlite.specs.declared.types.Value.TheVariants.{Null, Int}
use Rattle.sqlite_value.specs.Order.{Row, column, value_cmp}
use Rattle.sqlite_value.proofs.OrderLemmas.{value_cmp_total}
use Rattle.sqlite_trees.specs.Tree.{rowid, put_row}
use Rattle.sqlite_trees.proofs.TreeLemmas.{all-put_row}
use Rattle.sqlite_rules.specs.Edit.{is_taken}
use Rattle.sqlite_rules.specs.Lists.{Has}
use Rattle.sqlite_rules.proofs.ListLemmas.{all_has, all_from, has_filtered, has_kept}
use Rattle.sqlite_catalog.proofs.LayoutLemmas.{ascending_filter}
use Rattle.sqlite_rules.proofs.TableLemmas.{has_put, put_has}
use Rattle.sqlite_rules.proofs.ProbeLemmas.{has_mapped, mapped_has}
use Rattle.std.specs.Cmp.{eq_by_cmp_equiv}
use Rattle.purge_rules.specs.declared.purges.Admission.{Admission}
use Rattle.purge_rules.specs.Purges.{admission_of, ended, ended_at}
use Rattle.purge_records.specs.Tables.{admitted_number, admission_in, admissions_of, in_place, by_number, is_purge}
use Rattle.purge_records.specs.Tables.{IsAdmission, AreAdmitted, HasOwnNumbers}
use Rattle.purge_records.proofs.OrderLemmas.{Differ, in_place_push, in_place_end, by_number_map, has_by_number, same_by_number}
use Rattle.purge_records.proofs.RowLemmas.{all_map, all_filter, put_apart, untaken}

-- the number of an admission
abbrev pub given_number : Admission → ℕ
given_number a = a.number

abbrev pub admitted_row : ℕ → ℕ → Row
admitted_row m n = Int (pos m) ∷ Null ∷ Int (pos n) ∷ Int (pos 0) ∷ []

-- two values are equal in either order
pub flip_value : (a b : Row) → is_eq (value_cmp (rowid a) (rowid b)) ≡ false → is_eq (value_cmp (rowid b) (rowid a)) ≡ false
flip_value a b h = sym ((eq_by_cmp_equiv value_cmp_total).symm (rowid a) (rowid b)) ∙ h

-- ---- the last number rises, purges come and go

pub kept_admitted : (last last′ : ℕ) (pending pending′ rows : List Row) → last ≤ last′
    → ((r : Row) → Has rows r → IsAdmission last pending r → list_any (is_purge (admitted_number r)) pending′ ≡ false)
    → AreAdmitted last pending rows → AreAdmitted last′ pending′ rows
kept_admitted last last′ pending pending′ rows up apart are = record {
  admissions = all_from (IsAdmission last′ pending′) rows (λ r has. let is = all_has (IsAdmission last pending) rows r are.admissions has in record {
    member = is.member;
    low = is.low;
    high = is.high;
    number = is.number;
    positive = is.positive;
    given = omega (arith, is.given, up);
    apart = apart r has is;
    done = is.done;
  });
  members = are.members;
  numbers = are.numbers;
}

pub admitted_below : (last n : ℕ) (pending rows : List Row) → last < n → AreAdmitted last pending rows → AllByRecursion (λ r. admitted_number r < n) rows
admitted_below last n pending rows above are =
    all_map (IsAdmission last pending) (λ r. admitted_number r < n) rows (λ r is. omega (arith, is.given, above)) are.admissions

-- ---- an admission more

-- a thing above all others comes last, wherever its row is put
put_last : (new : Row) (rows : List Row) → is_taken rows new ≡ false → AllByRecursion (λ r. admitted_number r < admitted_number new) rows →
    admissions_of (put_row new rows) ≡ admissions_of rows ++ admission_in new ∷ []
put_last new [] free low = refl
put_last new (r ∷ rows) free low = go (value_cmp (rowid r) (rowid new)) refl (λ f. put_last new rows f low.1)
  where
    below : (rs : List Row) → AllByRecursion (λ x. admitted_number x < admitted_number new) rs →
        AllByRecursion (λ (a : Admission). a.number < admitted_number new) (map admission_in rs)
    below [] l = tt
    below (x ∷ rs) l = (l.0, below rs l.1)

    sorted_below : AllByRecursion (λ (a : Admission). a.number < admitted_number new) (admissions_of (r ∷ rows))
    sorted_below = all_from (λ (a : Admission). a.number < admitted_number new) (admissions_of (r ∷ rows)) (λ a has.
        all_has (λ (b : Admission). b.number < admitted_number new) (map admission_in (r ∷ rows)) a (below (r ∷ rows) low)
        (has_by_number given_number (map admission_in (r ∷ rows)) a has))

    go : (o : Ordering) → value_cmp (rowid r) (rowid new) ≡ o
        → (is_taken rows new ≡ false → admissions_of (put_row new rows) ≡ admissions_of rows ++ admission_in new ∷ [])
        → admissions_of (match_ordering o (r ∷ put_row new rows) (new ∷ rows) (new ∷ r ∷ rows)) ≡ admissions_of (r ∷ rows) ++ admission_in new ∷ []
    go Less e more = ap (in_place given_number (admission_in r)) (more (rw e at free))
        ∙ in_place_push given_number (admission_in r) (admissions_of rows) (admission_in new) low.0
    go Equal e more = absurd (let h : true ≡ false = rw e at free in cc)
    go Greater e more = in_place_end given_number (admission_in new) (admissions_of (r ∷ rows)) sorted_below

module _ (last n m : ℕ) (pending rows : List Row) (are : AreAdmitted last pending rows) (is : last ≡ n) (positive : 1 ≤ n) (low : 1 ≤ m) (high : m ≤ 16)
    (below : AllByRecursion (λ r. admitted_number r < n) rows) (fresh : list_any (is_purge n) pending ≡ false)
    (free : is_taken rows (admitted_row m n) ≡ false) where
  abbrev new : Row
  new = admitted_row m n

  before_ids : AllByRecursion (λ r. is_eq (value_cmp (rowid r) (rowid new)) ≡ false) rows
  before_ids = untaken rows new free

  -- the new row's member and number stand in no row before it, so the rows with it are admissions too
  pub more_admitted : AreAdmitted last pending (put_row new rows)
  more_admitted = record {
    admissions = all-put_row (IsAdmission last pending) new rows (record {
      member = refl;
      low = low;
      high = high;
      number = refl;
      positive = positive;
      given = omega (arith, is);
      apart = fresh;
      done = inl refl;
    }) are.admissions;
    members = put_apart (λ a b. is_eq (value_cmp (rowid a) (rowid b)) ≡ false) new rows before_ids
        (all_map (λ r. is_eq (value_cmp (rowid r) (rowid new)) ≡ false) (λ r. is_eq (value_cmp (rowid new) (rowid r)) ≡ false) rows
        (λ r off. flip_value r new off) before_ids) are.members;
    numbers = put_apart (λ a b. (admitted_number a == admitted_number b) ≡ false) new rows
        (all_map (λ r. admitted_number r < n) (λ r. (admitted_number r == n) ≡ false) rows
        (λ r l. ne_eqb (admitted_number r) n (λ e. omega (arith, l, e))) below)
        (all_map (λ r. admitted_number r < n) (λ r. (n == admitted_number r) ≡ false) rows
        (λ r l. ne_eqb n (admitted_number r) (λ e. omega (arith, l, e))) below)
        are.numbers;
  }

  pub more_is : admissions_of (put_row new rows) ≡ admissions_of rows ++ admission_of n m ∷ []
  more_is = put_last new rows free below

-- ---- an admission ends

-- the row, with `done` set
abbrev pub ended_row : Row → Row
ended_row r = rowid r ∷ Null ∷ column r 2 ∷ Int (pos 1) ∷ []

-- the row of this number, with `done` set
abbrev pub end_row : ℕ → Row → Row
end_row n r = cond (admitted_number r == n) (ended_row r) r

end_means : (n : ℕ) (r : Row) → admission_in (end_row n r) ≡ cond (admitted_number r == n) (ended (admission_in r)) (admission_in r)
end_means n r = elim (cases_Bool (admitted_number r == n)) [ inl on ↦ rw on refl | inr off ↦ rw off refl ]

ends_mean : (n : ℕ) (rows : List Row) → map admission_in (map (end_row n) rows) ≡ ended_at n (map admission_in rows)
ends_mean n [] = refl
ends_mean n (r ∷ rows) = ap (λ a. a ∷ map admission_in (map (end_row n) rows)) (end_means n r)
    ∙ ap (λ more. cond (admitted_number r == n) (ended (admission_in r)) (admission_in r) ∷ more) (ends_mean n rows)

keeps_given : (n : ℕ) (a : Admission) → given_number (cond (a.number == n) (ended a) a) ≡ given_number a
keeps_given n a = elim (cases_Bool (a.number == n)) [ inl on ↦ rw on refl | inr off ↦ rw off refl ]

pub ended_is : (n : ℕ) (rows : List Row) → admissions_of (map (end_row n) rows) ≡ ended_at n (admissions_of rows)
ended_is n rows = ap (by_number given_number) (ends_mean n rows)
    ∙ by_number_map given_number (λ a. cond (a.number == n) (ended a) a) (keeps_given n) (map admission_in rows)

end_number : (n : ℕ) (r : Row) → admitted_number (end_row n r) ≡ admitted_number r
end_number n r = elim (cases_Bool (admitted_number r == n)) [ inl on ↦ rw on refl | inr off ↦ rw off refl ]

-- the row of the number was replaced by the ended one
module _ (last n : ℕ) (pending rows : List Row) (are : AreAdmitted last pending rows) (r : Row) (has : Has rows r) (is : admitted_number r ≡ n)
    (keep : Row → Bool) (kept : (x : Row) → Has rows x → (x ≡ r) ⊎ (keep x ≡ true)) (gone : keep r ≡ false)
    (free : is_taken (filter keep rows) (ended_row r) ≡ false) where
  abbrev ending : Row
  ending = ended_row r

  abbrev left : List Row
  left = filter keep rows

  from : (x : Row) → Has left x → Has rows x × (x ≢ r)
  from x there =
      let was = has_filtered keep rows x there in
      (was.0, λ e. absurd (let bad : true ≡ false = sym was.1 ∙ ap keep e ∙ gone in cc))

  abbrev after : List Row
  after = put_row ending left

  its : IsAdmission last pending r
  its = all_has (IsAdmission last pending) rows r are.admissions has

  -- no other row has the number
  others : (x : Row) → Has left x → (admitted_number x == n) ≡ false
  others x there = false_from_ne_true _ (λ on.
      let was = from x there in
      absurd (was.1 (same_number rows x r are.numbers was.0 has (eqb-true (admitted_number x) n on ∙ sym is))))
    where
      same_number : (rows : List Row) (x y : Row) → HasOwnNumbers rows → Has rows x → Has rows y → admitted_number x ≡ admitted_number y → x ≡ y
      same_number [] x y own has_x has_y same = absurd has_x
      same_number (z ∷ rows) x y own (inl p) (inl q) same = p ∙ sym q
      same_number (z ∷ rows) x y own (inl p) (inr q) same = absurd (
          let off : (admitted_number x == admitted_number y) ≡ false = rw p (all_has (λ b. (admitted_number z == admitted_number b) ≡ false) rows y own.0 q) in
          let bad : true ≡ false = sym (eq-eqb (admitted_number x) (admitted_number y) same) ∙ off in cc)
      same_number (z ∷ rows) x y own (inr p) (inl q) same = absurd (
          let off : (admitted_number y == admitted_number x) ≡ false = rw q (all_has (λ b. (admitted_number z == admitted_number b) ≡ false) rows x own.0 p) in
          let bad : true ≡ false = sym (eq-eqb (admitted_number y) (admitted_number x) (sym same)) ∙ off in cc)
      same_number (z ∷ rows) x y own (inr p) (inr q) same = same_number rows x y own.1 p q same

  left_ids : AllByRecursion (λ x. is_eq (value_cmp (rowid x) (rowid ending)) ≡ false) left
  left_ids = untaken left ending free

  -- the row that ends keeps its member and its number, which no other row has, so all rows stay valid
  pub ended_admitted : AreAdmitted last pending after
  ended_admitted = record {
    admissions = all-put_row (IsAdmission last pending) ending left (record {
      member = its.member;
      low = its.low;
      high = its.high;
      number = its.number;
      positive = its.positive;
      given = its.given;
      apart = its.apart;
      done = inr refl;
    }) (all_filter (IsAdmission last pending) keep rows are.admissions);
    members = put_apart (λ a b. is_eq (value_cmp (rowid a) (rowid b)) ≡ false) ending left left_ids
        (all_map (λ x. is_eq (value_cmp (rowid x) (rowid ending)) ≡ false) (λ x. is_eq (value_cmp (rowid ending) (rowid x)) ≡ false) left
        (λ x off. flip_value x ending off) left_ids) (ascending_filter (λ a b. is_eq (value_cmp (rowid a) (rowid b)) ≡ false) keep rows are.members);
    numbers = put_apart (λ a b. (admitted_number a == admitted_number b) ≡ false) ending left
        (all_from (λ x. (admitted_number x == admitted_number r) ≡ false) left (λ x there. ap (λ k. admitted_number x == k) is ∙ others x there))
        (all_from (λ x. (admitted_number r == admitted_number x) ≡ false) left
        (λ x there. ne_eqb (admitted_number r) (admitted_number x) (λ e. eqb-false (admitted_number x) n (others x there) (sym e ∙ is))))
        (ascending_filter (λ a b. (admitted_number a == admitted_number b) ≡ false) keep rows are.numbers);
  }

  -- a row that stayed means what it meant
  stays : (x : Row) → Has left x → end_row n x ≡ x
  stays x there = ap (λ b. cond b (ended_row x) x) (others x there)

  turns : end_row n r ≡ ending
  turns = ap (λ b. cond b (ended_row r) r) (eq-eqb (admitted_number r) n is)

  put_kept : (rows : List Row) → is_taken rows ending ≡ false → (x : Row) → Has rows x → Has (put_row ending rows) x
  put_kept [] off x h = absurd h
  put_kept (y ∷ rows) off x h = go (value_cmp (rowid y) (rowid ending)) refl (λ f more. put_kept rows f x more) h
    where
      go : (o : Ordering) → value_cmp (rowid y) (rowid ending) ≡ o
          → (is_taken rows ending ≡ false → Has rows x → Has (put_row ending rows) x) → Has (y ∷ rows) x
          → Has (match_ordering o (y ∷ put_row ending rows) (ending ∷ rows) (ending ∷ y ∷ rows)) x
      go Less e more (inl same) = inl same
      go Less e more (inr there) = inr (more (rw e at off) there)
      go Equal e more h = absurd (let bad : true ≡ false = rw e at off in cc)
      go Greater e more h = inr h

  there : (a : Admission) → Has (map admission_in after) a → Has (map admission_in (map (end_row n) rows)) a
  there a h =
      let x = has_mapped admission_in after a h in
      subst (Has (map admission_in (map (end_row n) rows))) (sym x.2) (elim (put_has ending left x.0 x.1) [
        | inl fresh ↦ mapped_has admission_in (map (end_row n) rows) x.0
            (subst (Has (map (end_row n) rows)) (turns ∙ sym fresh) (mapped_has (end_row n) rows r has))
        | inr old ↦ mapped_has admission_in (map (end_row n) rows) x.0 (subst (Has (map (end_row n) rows)) (stays x.0 old) (mapped_has (end_row n) rows x.0
            (from x.0 old).0))
      ])

  back : (a : Admission) → Has (map admission_in (map (end_row n) rows)) a → Has (map admission_in after) a
  back a h =
      let y = has_mapped admission_in (map (end_row n) rows) a h in
      let x = has_mapped (end_row n) rows y.0 y.1 in
      subst (Has (map admission_in after)) (sym (y.2 ∙ ap admission_in x.2)) (elim (kept x.0 x.1) [
        | inl same ↦ mapped_has admission_in after (end_row n x.0) (subst (Has after) (sym (ap (end_row n) same ∙ turns)) (has_put ending left))
        | inr on ↦ let old = has_kept keep rows x.0 x.1 on in
            mapped_has admission_in after (end_row n x.0) (subst (Has after) (sym (stays x.0 old)) (put_kept left free x.0 old))
      ])

  differ : (rows : List Row) → HasOwnNumbers rows → Differ given_number (map admission_in rows)
  differ [] own = tt
  differ (x ∷ rows) own = (go rows own.0, differ rows own.1)
    where
      go : (rows : List Row) → AllByRecursion (λ b. (admitted_number x == admitted_number b) ≡ false) rows →
          AllByRecursion (λ (b : Admission). (admitted_number x == b.number) ≡ false) (map admission_in rows)
      go [] all = tt
      go (y ∷ rows) all = (all.0, go rows all.1)

  differ_ended : (rows : List Row) → HasOwnNumbers rows → Differ given_number (map admission_in (map (end_row n) rows))
  differ_ended [] own = tt
  differ_ended (x ∷ rows) own = (go rows own.0, differ_ended rows own.1)
    where
      go : (rows : List Row) → AllByRecursion (λ b. (admitted_number x == admitted_number b) ≡ false) rows →
          AllByRecursion (λ (b : Admission). (admitted_number (end_row n x) == b.number) ≡ false) (map admission_in (map (end_row n) rows))
      go [] all = tt
      go (y ∷ rows) all = (
        ap (λ k. k == admitted_number (end_row n y)) (end_number n x) ∙ ap (λ k. admitted_number x == k) (end_number n y) ∙ all.0,
        go rows all.1,
      )

  pub admission_ends : admissions_of after ≡ ended_at n (admissions_of rows)
  admission_ends = same_by_number given_number (map admission_in after) (map admission_in (map (end_row n) rows)) (differ after ended_admitted.numbers)
      (differ_ended rows are.numbers) there back ∙ ended_is n rows

-- no row has the number
pub none_ends : (n : ℕ) (rows : List Row) → AllByRecursion (λ r. (admitted_number r == n) ≡ false) rows → admissions_of rows ≡ ended_at n (admissions_of rows)
none_ends n rows none = sym (ap admissions_of (same rows none)) ∙ ended_is n rows
  where
    same : (rows : List Row) → AllByRecursion (λ r. (admitted_number r == n) ≡ false) rows → map (end_row n) rows ≡ rows
    same [] none = refl
    same (r ∷ rows) none = ap (λ b. cond b (ended_row r) r ∷ map (end_row n) rows) none.0 ∙ ap (λ more. r ∷ more) (same rows none.1)
