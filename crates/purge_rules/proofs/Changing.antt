-- Marking or removing the purge at the index that the search found is what `with_mark` and
-- `without_purge` do to all purges of its number, since no other purge has it.
use Rattle.std.proofs.Common.{◌≡◌, ◌≢◌, ℕ, zero, suc, ◌+◌, ◌<◌, ◌≤◌, ◌==◌, Bool, true, false, cond, not, List, [], ◌∷◌, map}
use Rattle.std.proofs.Common.{filter, All, length, get_or, set, refl, inl}
use Rattle.std.proofs.Common.{inr, sym, ap, ◌∙◌, arith, length-set, get_or-set_other}
use Rattle.std.specs.List.{remove}
use Rattle.std.proofs.lemmas.List.{same_lists, get_or-map, length-map}
use Rattle.std.proofs.lemmas.Grind.{get_or-set_at}
use Rattle.std.proofs.lemmas.Bool.{cases_eq}
use Rattle.std.proofs.lemmas.List.Elements.{All-filter, All-map}
use Rattle.std.proofs.lemmas.List.Kept.{AllPairs-filter}
use Rattle.purge_rules.specs.declared.purges.Purge.{Purge}
use Rattle.purge_rules.specs.declared.purges.Admission.{Admission}
use Rattle.purge_rules.specs.Purges.{PurgeList, AreNumbered, AreAdmissions, is_numbered, marked_by, with_mark, others, ended, ended_at}
use Rattle.purge_rules.specs.Places.{IsPlaceOf, IsAbsent, without_purge, with_ended}
use Rattle.purge_rules.proofs.Finding.{Ascend, eqb_same, eqb_other}

-- Marks

abbrev mark_of : ℕ → ℕ → Purge → Purge
mark_of number id p = cond (is_numbered number p) (marked_by id p) p

mark_here : (number id : ℕ) (p : Purge) → p.number ≡ number → mark_of number id p ≡ marked_by id p
mark_here number id p e = ap (λ b. cond b (marked_by id p) p) (eqb_same e)

mark_other : (number id : ℕ) (p : Purge) → p.number ≢ number → mark_of number id p ≡ p
mark_other number id p n = ap (λ b. cond b (marked_by id p) p) (eqb_other n)

number_kept : (number id : ℕ) (p : Purge) → (mark_of number id p).number ≡ p.number
number_kept number id p = elim (is_numbered number p) as (λ b. (cond b (marked_by id p) p).number ≡ p.number) [ true ↦ refl | false ↦ refl ]

-- another place has another number
only_there : (purges : List Purge) (number place : ℕ) → Ascend purges → IsPlaceOf purges number place → (k : ℕ) (d : Purge) → k < length purges → k ≢ place →
    (get_or purges k d).number ≢ number
only_there purges number place ascend at k d l other e =
    let here = at.is_of_it d in
    let after = ascend place k d in
    let before = ascend k place d in
    grind (arith, at.in_range)

-- the purge at the place is marked, as all of that number are
pub set_marked : (purges : List Purge) (number place id : ℕ) (p q : Purge) → Ascend purges → IsPlaceOf purges number place → p ≡ get_or purges place p →
    q ≡ marked_by id p → set purges place q ≡ map (mark_of number id) purges
set_marked purges number place id p q ascend at is marked = same_lists _ _ (length-set purges place q ∙ sym (length-map purges _)) (λ k d h.
    let h : k < length purges = omega (arith, length-set purges place q) in
    let mapped : get_or (map (mark_of number id) purges) k d ≡ mark_of number id (get_or purges k d) = get_or-map (mark_of number id) purges k d d h in
    elim (cases_eq k place) [
      | inl e ↦
          let here : get_or purges k d ≡ p = ap (λ i. get_or purges i d) e ∙ read_at purges place p d at.in_range is in
          get_or-set_at purges place k q d e at.in_range ∙ marked
          ∙ sym (mapped ∙ mark_here number id (get_or purges k d) (ap (λ i. (get_or purges i d).number) e ∙ at.is_of_it d) ∙ ap (marked_by id) here)
      | inr n ↦ get_or-set_other purges place k q d n
          ∙ sym (mapped ∙ mark_other number id (get_or purges k d) (only_there purges number place ascend at k d h n))
    ])
  where
    read_at : (purges : List Purge) (place : ℕ) (p d : Purge) → place < length purges → p ≡ get_or purges place p → get_or purges place d ≡ p
    read_at [] place p d l e = absurd (omega arith)
    read_at (x ∷ xs) zero p d l e = sym e
    read_at (x ∷ xs) (suc place) p d l e = read_at xs place p d (omega arith) e

-- where none has the number, nothing is marked
pub none_marked : (purges : List Purge) (number id : ℕ) → IsAbsent purges number → map (mark_of number id) purges ≡ purges
none_marked [] number id none = refl
none_marked (p ∷ purges) number id none =
    ap (λ q. q ∷ map (mark_of number id) purges) (mark_other number id p (none 0 p (omega arith)))
    ∙ ap (λ qs. p ∷ qs) (none_marked purges number id (λ k d l. none (suc k) d (omega arith)))

-- a mark changes no number, so what is said of the numbers holds as before
pub numbered_marked : (purges : PurgeList) (number id : ℕ) → AreNumbered purges → AreNumbered (with_mark purges number id)
numbered_marked purges number id are = record {
  ascend = λ i j d lt l.
      let size : length (map (mark_of number id) purges.pending) ≡ length purges.pending = length-map purges.pending _ in
      let first : get_or (map (mark_of number id) purges.pending) i d ≡ mark_of number id (get_or purges.pending i d) =
      get_or-map (mark_of number id) purges.pending i d d (omega arith) in
      let second : get_or (map (mark_of number id) purges.pending) j d ≡ mark_of number id (get_or purges.pending j d) =
      get_or-map (mark_of number id) purges.pending j d d (omega arith) in
      let one = ap (λ (p : Purge). p.number) first ∙ number_kept number id (get_or purges.pending i d) in
      let two = ap (λ (p : Purge). p.number) second ∙ number_kept number id (get_or purges.pending j d) in
      let rise = are.ascend i j d lt (omega arith) in
      omega arith;
  positive = All-map (λ (a : Purge). 1 ≤ a.number) (mark_of number id) purges.pending
      (λ k d l. let same = number_kept number id (get_or purges.pending k d) in let there = are.positive k d l in omega arith);
  given = All-map (λ (a : Purge). a.number ≤ purges.last) (mark_of number id) purges.pending
      (λ k d l. let same = number_kept number id (get_or purges.pending k d) in let there = are.given k d l in omega arith);
  last = are.last;
  admitted = are.admitted;
  apart = All-map (λ (a : Purge). All (λ (b : Admission). a.number ≢ b.number) purges.admissions) (mark_of number id) purges.pending
      (λ k d l j f m e. are.apart k d l j f m (sym (number_kept number id (get_or purges.pending k d)) ∙ e));
}

-- Ends

pub filter_all : (p : Purge → Bool) (xs : List Purge) → All (λ x. p x ≡ true) xs → filter p xs ≡ xs
filter_all p [] passes = refl
filter_all p (x ∷ xs) passes =
    ap (λ b. cond b (x ∷ filter p xs) (filter p xs)) (passes 0 x (omega arith))
    ∙ ap (λ ys. x ∷ ys) (filter_all p xs (λ k d l. passes (suc k) d (omega arith)))

pub removed : (purges : List Purge) (number place : ℕ) → Ascend purges → IsPlaceOf purges number place → remove purges place ≡ others number purges
removed [] number place ascend at = absurd (let l = at.in_range in omega arith)
removed (q ∷ purges) number zero ascend at =
    let here : q.number ≡ number = at.is_of_it q in
    sym (ap (λ b. cond (not b) (q ∷ others number purges) (others number purges)) (eqb_same here)
    ∙ filter_all _ purges (λ k d h.
    let above = ascend 0 (suc k) d (omega arith) (omega arith) in
    ap not (eqb_other (λ (e : (get_or purges k d).number ≡ number). omega arith))))
removed (q ∷ purges) number (suc place) ascend at =
    let above = ascend 0 (suc place) q (omega arith) at.in_range in
    let here : (get_or purges place q).number ≡ number = at.is_of_it q in
    let l = at.in_range in
    let rest = removed purges number place (λ j k d lt h. ascend (suc j) (suc k) d (omega arith) (omega arith)) record
    { in_range = omega arith; is_of_it = λ d. at.is_of_it d } in
    ap (λ xs. q ∷ xs) rest
    ∙ sym (ap (λ b. cond (not b) (q ∷ others number purges) (others number purges)) (eqb_other (λ (e : q.number ≡ number). omega arith)))

-- where none has the number, none goes
pub none_removed : (purges : List Purge) (number : ℕ) → IsAbsent purges number → others number purges ≡ purges
none_removed purges number none = filter_all _ purges (λ k d l. ap not (eqb_other (none k d l)))

pub numbered_without : (purges : PurgeList) (number : ℕ) → AreNumbered purges → AreNumbered (without_purge purges number)
numbered_without purges number are = record {
  ascend = AllPairs-filter (λ a b. a.number < b.number) _ purges.pending are.ascend;
  positive = All-filter _ (λ (a : Purge). 1 ≤ a.number) purges.pending are.positive;
  given = All-filter _ (λ (a : Purge). a.number ≤ purges.last) purges.pending are.given;
  last = are.last;
  admitted = are.admitted;
  apart = All-filter _ (λ (a : Purge). All (λ (b : Admission). a.number ≢ b.number) purges.admissions) purges.pending are.apart;
}

-- Ends of admissions

abbrev pub end_of : ℕ → Admission → Admission
end_of number a = cond (a.number == number) (ended a) a

pub end_number : (number : ℕ) (a : Admission) → (end_of number a).number ≡ a.number
end_number number a = elim (a.number == number) as (λ b. (cond b (ended a) a).number ≡ a.number) [ true ↦ refl | false ↦ refl ]

pub end_member : (number : ℕ) (a : Admission) → (end_of number a).member ≡ a.member
end_member number a = elim (a.number == number) as (λ b. (cond b (ended a) a).member ≡ a.member) [ true ↦ refl | false ↦ refl ]

-- an end changes neither the number nor the member of an admission, so what is said of them holds as before
admitted_ended : (last number : ℕ) (gs : List Admission) → AreAdmissions last gs → AreAdmissions last (ended_at number gs)
admitted_ended last number gs are = record {
  ascend = λ i j d lt l.
      let size : length (ended_at number gs) ≡ length gs = length-map gs (end_of number) in
      let first : get_or (ended_at number gs) i d ≡ end_of number (get_or gs i d) = get_or-map (end_of number) gs i d d (omega arith) in
      let second : get_or (ended_at number gs) j d ≡ end_of number (get_or gs j d) = get_or-map (end_of number) gs j d d (omega arith) in
      let one = ap (λ (a : Admission). a.number) first ∙ end_number number (get_or gs i d) in
      let two = ap (λ (a : Admission). a.number) second ∙ end_number number (get_or gs j d) in
      let rise = are.ascend i j d lt (omega arith) in
      omega arith;
  positive = All-map (λ (a : Admission). 1 ≤ a.number) (end_of number) gs
      (λ k d l. let same = end_number number (get_or gs k d) in let there = are.positive k d l in omega arith);
  given = All-map (λ (a : Admission). a.number ≤ last) (end_of number) gs
      (λ k d l. let same = end_number number (get_or gs k d) in let there = are.given k d l in omega arith);
  member = All-map (λ (a : Admission). (1 ≤ a.member) × (a.member ≤ 16)) (end_of number) gs
      (λ k d l. let same = end_member number (get_or gs k d) in let there = are.member k d l in (omega (arith, there.0), omega (arith, there.1)));
  once = λ i j d lt l e.
      let size : length (ended_at number gs) ≡ length gs = length-map gs (end_of number) in
      let first : get_or (ended_at number gs) i d ≡ end_of number (get_or gs i d) = get_or-map (end_of number) gs i d d (omega arith) in
      let second : get_or (ended_at number gs) j d ≡ end_of number (get_or gs j d) = get_or-map (end_of number) gs j d d (omega arith) in
      let one = ap (λ (a : Admission). a.member) first ∙ end_member number (get_or gs i d) in
      let two = ap (λ (a : Admission). a.member) second ∙ end_member number (get_or gs j d) in
      are.once i j d lt (omega arith) (sym one ∙ e ∙ two);
}

pub numbered_ended : (purges : PurgeList) (number : ℕ) → AreNumbered purges → AreNumbered (with_ended purges number)
numbered_ended purges number are = record {
  ascend = are.ascend;
  positive = are.positive;
  given = are.given;
  last = are.last;
  admitted = admitted_ended purges.last number purges.admissions are.admitted;
  apart = λ k d l. All-map (λ (b : Admission). (get_or purges.pending k d).number ≢ b.number) (end_of number) purges.admissions
      (λ j f m e. are.apart k d l j f m (e ∙ end_number number (get_or purges.admissions j f)));
}

-- those up to a place have been set, and those from it on have not
pub record AreSet (number : ℕ) (old now : List Admission) (place : ℕ) : Type 0 where
  pub size : length now ≡ length old
  pub before : (k : ℕ) (d : Admission) → k < place → k < length old → get_or now k d ≡ end_of number (get_or old k d)
  pub after : (k : ℕ) (d : Admission) → place ≤ k → get_or now k d ≡ get_or old k d

pub none_set : (number : ℕ) (gs : List Admission) → AreSet number gs gs 0
none_set number gs = record { size = refl; before = λ k d less l. absurd (omega arith); after = λ k d le. refl }

pub all_set : (number : ℕ) (old now : List Admission) (place : ℕ) → AreSet number old now place → length now ≤ place → now ≡ ended_at number old
all_set number old now place are whole = same_lists _ _ (are.size ∙ sym (length-map old (end_of number))) (λ k d l.
    are.before k d (omega (arith, whole)) (omega (arith, are.size)) ∙ sym (get_or-map (end_of number) old k d d (omega (arith, are.size))))

any_default : {X : Type 0} (xs : List X) (i : ℕ) (d e : X) → i < length xs → get_or xs i d ≡ get_or xs i e
any_default [] i d e l = absurd (omega arith)
any_default (x ∷ xs) zero d e l = refl
any_default (x ∷ xs) (suc i) d e l = any_default xs i d e (omega arith)

-- what is read at the place is as it was
read_at : (number : ℕ) (old now : List Admission) (place : ℕ) (a d : Admission) → AreSet number old now place → place < length now →
    a ≡ get_or now place a → a ≡ get_or old place d
read_at number old now place a d are l is = is ∙ any_default now place a d l ∙ are.after place d (omega arith)

-- the one at the place, which is read twice, is set, as it has the number
pub set_here : (number : ℕ) (old now : List Admission) (place : ℕ) (a b : Admission) → AreSet number old now place → place < length now →
    a ≡ get_or now place a → b ≡ get_or now place b → a.number ≡ number → AreSet number old (set now place (ended b)) (place + 1)
set_here number old now place a b are l first second same = record {
  size = length-set now place (ended b) ∙ are.size;
  before = λ k d less low. elim (cases_eq k place) [
    | inl at ↦
        let test : (get_or old place d).number ≡ number = ap (λ (x : Admission). x.number) (sym (read_at number old now place a d are l first)) ∙ same in
        get_or-set_at now place k (ended b) d at l ∙ ap ended (read_at number old now place b d are l second)
        ∙ sym (ap (λ c. cond c (ended (get_or old place d)) (get_or old place d)) (eqb_same test))
        ∙ ap (λ i. end_of number (get_or old i d)) (sym at)
    | inr n ↦ get_or-set_other now place k (ended b) d n ∙ are.before k d (omega (arith, n)) low
  ];
  after = λ k d le. get_or-set_other now place k (ended b) d (λ (at : k ≡ place). omega (arith, at)) ∙ are.after k d (omega arith);
}

-- the one at the place has another number, and stays
pub stays_here : (number : ℕ) (old now : List Admission) (place : ℕ) (a : Admission) → AreSet number old now place → place < length now →
    a ≡ get_or now place a → a.number ≢ number → AreSet number old now (place + 1)
stays_here number old now place a are l first other = record {
  size = are.size;
  before = λ k d less low. elim (cases_eq k place) [
    | inl at ↦
        let test : (get_or old place d).number ≢ number = λ e. other (ap (λ (x : Admission). x.number) (read_at number old now place a d are l first) ∙ e) in
        ap (λ i. get_or now i d) at ∙ are.after place d (omega arith)
        ∙ sym (ap (λ c. cond c (ended (get_or old place d)) (get_or old place d)) (eqb_other test))
        ∙ ap (λ i. end_of number (get_or old i d)) (sym at)
    | inr n ↦ are.before k d (omega (arith, n)) low
  ];
  after = λ k d le. are.after k d (omega arith);
}
