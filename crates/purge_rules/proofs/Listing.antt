-- What is due, as the loops find it: between one pending purge and the next only admissions are
-- pending, so going over the purges, with the admissions between them, goes over all numbers.
use Rattle.std.proofs.Common.{◌≡◌, ℕ, zero, suc, ◌+◌, ◌-◌, ◌<◌, ◌≤◌, ◌==◌, nat_lt, nat_le, true, false, cond, ◌&&◌, List, [], ◌∷◌, ◌++◌, map, length}
use Rattle.std.proofs.Common.{get_or, take, All, Some, None, inl, inr, refl, sym, ap, ◌∙◌, subst, append_assoc, append-nil, arith}
use Rattle.std.specs.List.{flat_map, AllPairs}
use Rattle.std.proofs.lemmas.Bool.{cases_lt, cases_eq}
use Rattle.std.proofs.lemmas.Bool.Decides.{nat_tests}
use Rattle.std.proofs.lemmas.List.{take_more, flat_map_more}
use Rattle.purge_rules.specs.declared.nodes.Nodes.{Nodes}
use Rattle.purge_rules.specs.declared.purges.Purge.{Purge}
use Rattle.purge_rules.specs.declared.purges.Admission.{Admission}
use Rattle.purge_rules.specs.Members.{numbers}
use Rattle.purge_rules.specs.Needed.{admission_in, needed}
use Rattle.purge_rules.specs.Purges.{PurgeList, AreNumbered, pending_at, admission_at, marks_by}
use Rattle.purge_rules.specs.Calls.{due, due_of, unmarked_of}
use Rattle.purge_rules.specs.Waiting.{between}
use Rattle.purge_rules.proofs.Finding.{find_none, absent, eqb_other}

-- Between two numbers

module _ {X : Type 0} (f : ℕ → List X) where
  pub is_between : (after upto : ℕ) (a : Admission) → after < a.number → a.number ≤ upto → between f after upto a ≡ f a.number
  is_between after upto a above below =
      let test : (nat_lt after a.number && nat_le a.number upto) ≡ true = grind (arith, nat_tests) in
      ap (λ b. cond b (f a.number) []) test

  is_below : (after upto : ℕ) (a : Admission) → a.number ≤ after → between f after upto a ≡ []
  is_below after upto a below =
      let test : (nat_lt after a.number && nat_le a.number upto) ≡ false = grind (arith, nat_tests) in
      ap (λ b. cond b (f a.number) []) test

  is_above : (after upto : ℕ) (a : Admission) → upto < a.number → between f after upto a ≡ []
  is_above after upto a above =
      let test : (nat_lt after a.number && nat_le a.number upto) ≡ false = grind (arith, nat_tests) in
      ap (λ b. cond b (f a.number) []) test

  -- if all are above the next number, it makes no difference whether that is left out
  agree : (after upto : ℕ) (gs : List Admission) → All (λ (a : Admission). suc after < a.number) gs →
      flat_map (between f (suc after) upto) gs ≡ flat_map (between f after upto) gs
  agree after upto [] above = refl
  agree after upto (a ∷ gs) above =
      let big = above 0 a (omega arith) in
      let test : nat_lt (suc after) a.number ≡ nat_lt after a.number = grind (arith, nat_tests) in
      ap (λ b. cond (b && nat_le a.number upto) (f a.number) [] ++ flat_map (between f (suc after) upto) gs) test
      ∙ ap (λ l. between f after upto a ++ l) (agree after upto gs (λ k d l. above (suc k) d (omega arith)))

  none_at : (number : ℕ) (gs : List Admission) → All (λ (a : Admission). number < a.number) gs → admission_in gs number ≡ None
  none_at number gs above = find_none (λ a. a.number == number) gs (λ k d l.
      let big = above k d l in eqb_other (λ (e : (get_or gs k d).number ≡ number). omega arith))

  -- the next number, and then those above it
  next : (after upto : ℕ) (gs : List Admission) → suc after ≤ upto → AllPairs (λ (a b : Admission). a.number < b.number) gs →
      (admission_in gs (suc after) ≡ None → f (suc after) ≡ []) →
      f (suc after) ++ flat_map (between f (suc after) upto) gs ≡ flat_map (between f after upto) gs
  next after upto [] room ascend none = ap (λ l. l ++ []) (none refl)
  next after upto (a ∷ gs) room ascend none =
      let rest : All (λ (b : Admission). a.number < b.number) gs = λ k d l. ascend 0 (suc k) d (omega arith) (omega arith) in
      elim (cases_lt a.number (suc after)) [
        | inl less ↦
            let here : between f (suc after) upto a ≡ [] = is_below (suc after) upto a (omega arith) in
            let there : between f after upto a ≡ [] = is_below after upto a (omega arith) in
            let test : (a.number == suc after) ≡ false = eqb_other (λ (e : a.number ≡ suc after). omega (arith, e)) in
            ap (λ l. f (suc after) ++ (l ++ flat_map (between f (suc after) upto) gs)) here
            ∙ next after upto gs room (λ i j d lt l. ascend (suc i) (suc j) d (omega arith) (omega arith))
            (λ absent_there. none (ap (λ b. cond b (Some a) (admission_in gs (suc after))) test ∙ absent_there))
            ∙ ap (λ l. l ++ flat_map (between f after upto) gs) (sym there)
        | inr from ↦ elim (cases_eq a.number (suc after)) [
          | inl e ↦
              let here : between f (suc after) upto a ≡ [] = is_below (suc after) upto a (omega (arith, e)) in
              let there : between f after upto a ≡ f (suc after) = is_between after upto a (omega (arith, e)) (omega (arith, e)) ∙ ap f e in
              ap (λ l. f (suc after) ++ (l ++ flat_map (between f (suc after) upto) gs)) here
              ∙ ap (λ l. f (suc after) ++ l) (agree after upto gs (λ k d l. let big = rest k d l in omega (arith, e)))
              ∙ ap (λ l. l ++ flat_map (between f after upto) gs) (sym there)
          | inr n ↦
              let all : All (λ (b : Admission). suc after < b.number) (a ∷ gs) = above_all a gs (omega (arith, n)) rest in
              ap (λ l. l ++ flat_map (between f (suc after) upto) (a ∷ gs)) (none (none_at (suc after) (a ∷ gs) all))
              ∙ agree after upto (a ∷ gs) all
        ]
      ]
    where
      above_all : (a : Admission) (gs : List Admission) → suc after < a.number → All (λ (b : Admission). a.number < b.number) gs →
          All (λ (b : Admission). suc after < b.number) (a ∷ gs)
      above_all a gs big rest zero d l = big
      above_all a gs big rest (suc k) d l = let more = rest k d (omega arith) in omega arith

  nothing_between : (after : ℕ) (gs : List Admission) → flat_map (between f after after) gs ≡ []
  nothing_between after [] = refl
  nothing_between after (a ∷ gs) =
      let test : (nat_lt after a.number && nat_le a.number after) ≡ false = grind (arith, nat_tests) in
      ap (λ b. cond b (f a.number) [] ++ flat_map (between f after after) gs) test ∙ nothing_between after gs

  -- all numbers between two, where those without an admission give nothing
  pub all_between : (count after upto : ℕ) (gs : List Admission) → after + count ≡ upto → AllPairs (λ (a b : Admission). a.number < b.number) gs →
      ((n : ℕ) → after < n → n ≤ upto → admission_in gs n ≡ None → f n ≡ []) →
      flat_map f (numbers (suc after) count) ≡ flat_map (between f after upto) gs
  all_between zero after upto gs sum ascend none =
      let same : after ≡ upto = omega arith in
      sym (nothing_between after gs) ∙ ap (λ n. flat_map (between f after n) gs) same
  all_between (suc count) after upto gs sum ascend none =
      ap (λ l. f (suc after) ++ l) (all_between count (suc after) upto gs (omega arith) ascend (λ n low high gone. none n (omega arith) high gone))
      ∙ next after upto gs (omega arith) ascend (none (suc after) (omega arith) (omega arith))

  -- one more admission
  pub between_more : (after upto : ℕ) (gs : List Admission) (i : ℕ) (d : Admission) (first pairs : List X) → i < length gs →
      pairs ≡ first ++ flat_map (between f after upto) (take i gs) →
      pairs ++ between f after upto (get_or gs i d) ≡ first ++ flat_map (between f after upto) (take (i + 1) gs)
  between_more after upto gs i d first pairs l so =
      ap (λ ps. ps ++ between f after upto (get_or gs i d)) so ∙ flat_map_more (between f after upto) first (take i gs) (get_or gs i d)
      ∙ ap (λ bs. first ++ flat_map (between f after upto) bs) (sym (take_more gs i d l))

  -- numbers in two parts
  split : (first m n : ℕ) → flat_map f (numbers first (m + n)) ≡ flat_map f (numbers first m) ++ flat_map f (numbers (first + m) n)
  split first zero n =
      let left : 0 + n ≡ n = omega arith in
      let right : first ≡ first + 0 = omega arith in
      ap (λ k. flat_map f (numbers first k)) left ∙ ap (λ k. flat_map f (numbers k n)) right
  split first (suc m) n =
      let left : suc m + n ≡ suc (m + n) = omega arith in
      let moved : suc first + m ≡ first + suc m = omega arith in
      ap (λ k. flat_map f (numbers first k)) left
      ∙ ap (λ l. f first ++ l) (split (suc first) m n ∙ ap (λ k. flat_map f (numbers (suc first) m) ++ flat_map f (numbers k n)) moved)
      ∙ sym (append_assoc (f first) (flat_map f (numbers (suc first) m)) (flat_map f (numbers (first + suc m) n)))

-- What is due

-- the purges before the index have numbers up to this, the others greater ones
pub record IsAfter (pending : List Purge) (index after : ℕ) : Type 0 where
  pub below : (k : ℕ) (d : Purge) → k < index → k < length pending → (get_or pending k d).number ≤ after
  pub above : (k : ℕ) (d : Purge) → index ≤ k → k < length pending → after < (get_or pending k d).number

-- what is due up to a number is listed, and the first purges have numbers up to it
pub record IsListed (nodes : Nodes) (purges : PurgeList) (index after : ℕ) (pairs : List (ℕ × ℕ)) : Type 0 where
  pub upto : pairs ≡ flat_map (due_of nodes purges) (numbers 1 after)
  pub at : IsAfter purges.pending index after
  pub given : after ≤ purges.last

pub none_listed : (nodes : Nodes) (purges : PurgeList) → AreNumbered purges → IsListed nodes purges 0 0 []
none_listed nodes purges are = record {
  upto = refl;
  at = record { below = λ k d less l. absurd (omega arith); above = λ k d le l. let positive = are.positive k d l in omega arith };
  given = omega arith;
}

-- nothing is due of a number that no pending purge and no admission has
nothing_due : (nodes : Nodes) (purges : PurgeList) (number : ℕ) → pending_at purges number ≡ None → admission_at purges number ≡ None →
    due_of nodes purges number ≡ []
nothing_due nodes purges number unlisted none =
    ap (λ o. map (λ id. (number, id)) (unmarked_of (needed nodes purges.admissions number) (marks_by o (admission_at purges number)))) unlisted
    ∙ ap (λ a. map (λ id. (number, id)) (unmarked_of (needed nodes purges.admissions number) (marks_by None a))) none

-- no pending purge has a number above this and up to the next
no_purge : (purges : PurgeList) (index after upto number : ℕ) → IsAfter purges.pending index after →
    ((k : ℕ) (d : Purge) → index ≤ k → k < length purges.pending → upto < (get_or purges.pending k d).number) → after < number → number ≤ upto →
    pending_at purges number ≡ None
no_purge purges index after upto number at next low high = absent purges.pending number (λ k d l e. elim (cases_lt k index) [
  | inl less ↦ let below = at.below k d less l in omega (arith, e, below)
  | inr from ↦ let above = next k d from l in omega (arith, e, above)
])

-- what is due up to a number, and then of the admissions up to another, without a purge between them
list_on : (nodes : Nodes) (purges : PurgeList) (index after count upto : ℕ) (pairs : List (ℕ × ℕ)) → AreNumbered purges → after + count ≡ upto →
    IsListed nodes purges index after pairs →
    ((k : ℕ) (d : Purge) → index ≤ k → k < length purges.pending → upto < (get_or purges.pending k d).number) →
    pairs ++ flat_map (between (due_of nodes purges) after upto) purges.admissions ≡ flat_map (due_of nodes purges) (numbers 1 upto)
list_on nodes purges index after count upto pairs are sum listed next =
    let one_more : suc after ≡ 1 + after = omega arith in
    ap (λ ps. ps ++ flat_map (between (due_of nodes purges) after upto) purges.admissions) listed.upto
    ∙ ap (λ ps. flat_map (due_of nodes purges) (numbers 1 after) ++ ps) (sym (all_between (due_of nodes purges) count after upto purges.admissions sum
    are.admitted.ascend (λ n low high none. nothing_due nodes purges n (no_purge purges index after upto n listed.at next low high) none)))
    ∙ ap (λ k. flat_map (due_of nodes purges) (numbers 1 after) ++ flat_map (due_of nodes purges) (numbers k count)) one_more
    ∙ sym (split (due_of nodes purges) 1 after count)
    ∙ ap (λ n. flat_map (due_of nodes purges) (numbers 1 n)) sum

-- one more purge
pub due_more : (nodes : Nodes) (purges : PurgeList) (index after : ℕ) (p : Purge) (pairs : List (ℕ × ℕ)) → AreNumbered purges →
    index < length purges.pending → p ≡ get_or purges.pending index p → IsListed nodes purges index after pairs →
    IsListed nodes purges (index + 1) p.number
    ((pairs ++ flat_map (between (due_of nodes purges) after (p.number - 1)) purges.admissions) ++ due_of nodes purges p.number)
due_more nodes purges index after p pairs are l is listed =
    let number_is : p.number ≡ (get_or purges.pending index p).number = ap (λ (q : Purge). q.number) is in
    let up = listed.at.above index p (omega arith) l in
    let sum : after + (p.number - 1 - after) ≡ p.number - 1 = omega arith in
    let one : (p.number - 1) + 1 ≡ p.number = omega arith in
    let moved : 1 + (p.number - 1) ≡ p.number = omega arith in
    record {
      upto =
          ap (λ ps. ps ++ due_of nodes purges p.number)
          (list_on nodes purges index after (p.number - 1 - after) (p.number - 1) pairs are sum listed later)
          ∙ ap (λ ps. flat_map (due_of nodes purges) (numbers 1 (p.number - 1)) ++ ps) (sym (append-nil (due_of nodes purges p.number)))
          ∙ ap (λ n. flat_map (due_of nodes purges) (numbers 1 (p.number - 1)) ++ (due_of nodes purges n ++ [])) (sym moved)
          ∙ sym (split (due_of nodes purges) 1 (p.number - 1) 1)
          ∙ ap (λ n. flat_map (due_of nodes purges) (numbers 1 n)) one;
      at = record {
        below = λ k d less h. elim (cases_eq k index) [
          | inl e ↦ let same = ap (λ i. (get_or purges.pending i d).number) e in let here = ap (λ (q : Purge). q.number) (read d) in omega (arith, same, here)
          | inr n ↦ let rise = are.ascend k index d (omega (arith, n)) l in let here = ap (λ (q : Purge). q.number) (read d) in omega (arith, rise, here)
        ];
        above = λ k d from h. let rise = are.ascend index k d (omega arith) h in let here = ap (λ (q : Purge). q.number) (read d) in omega (arith, rise, here);
      };
      given = let fits = are.given index p l in omega arith;
    }
  where
    any_default : (xs : List Purge) (i : ℕ) (d e : Purge) → i < length xs → get_or xs i d ≡ get_or xs i e
    any_default [] i d e l = absurd (omega arith)
    any_default (x ∷ xs) zero d e l = refl
    any_default (x ∷ xs) (suc i) d e l = any_default xs i d e (omega arith)

    read : (d : Purge) → get_or purges.pending index d ≡ p
    read d = any_default purges.pending index d p l ∙ sym is

    later : (k : ℕ) (d : Purge) → index ≤ k → k < length purges.pending → p.number - 1 < (get_or purges.pending k d).number
    later k d from h = elim (cases_eq k index) [
      | inl e ↦ let same = ap (λ i. (get_or purges.pending i d).number) e in let here = ap (λ (q : Purge). q.number) (read d) in
          let up = listed.at.above k d from h in omega (arith, same, here, up)
      | inr n ↦ let rise = are.ascend index k d (omega (arith, n)) h in let here = ap (λ (q : Purge). q.number) (read d) in omega (arith, rise, here)
    ]

-- the same, of a list that is that of the pending purges
pub due_more_of : (nodes : Nodes) (purges : PurgeList) (pending : List Purge) (index after upto : ℕ) (p : Purge) (pairs : List (ℕ × ℕ)) →
    AreNumbered purges → pending ≡ purges.pending → index < length pending → p ≡ get_or pending index p → upto ≡ p.number - 1 →
    IsListed nodes purges index after pairs →
    IsListed nodes purges (index + 1) p.number
    ((pairs ++ flat_map (between (due_of nodes purges) after upto) purges.admissions) ++ due_of nodes purges p.number)
due_more_of nodes purges pending index after upto p pairs are same l is one listed = subst
    (λ n. IsListed nodes purges (index + 1) p.number
    ((pairs ++ flat_map (between (due_of nodes purges) after n) purges.admissions) ++ due_of nodes purges p.number)) (sym one)
    (due_more nodes purges index after p pairs are (subst (λ ps. index < length ps) same l) (is ∙ ap (λ ps. get_or ps index p) same) listed)

-- after the last purge
pub due_last : (nodes : Nodes) (purges : PurgeList) (pending : List Purge) (index after : ℕ) (pairs : List (ℕ × ℕ)) → AreNumbered purges →
    pending ≡ purges.pending → length pending ≤ index → IsListed nodes purges index after pairs →
    pairs ++ flat_map (between (due_of nodes purges) after purges.last) purges.admissions ≡ due nodes purges
due_last nodes purges pending index after pairs are same whole listed =
    let all : length purges.pending ≤ index = subst (λ ps. length ps ≤ index) same whole in
    list_on nodes purges index after (purges.last - after) purges.last pairs are (let given = listed.given in omega arith) listed
    (λ k d from l. absurd (omega arith))
