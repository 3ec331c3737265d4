-- Which numbers do not need a member that joins: none does as long as it has no admission, and then none below that of its
-- admission.
use Rattle.std.proofs.Common.{◌≡◌, ◌≢◌, ℕ, suc, ◌<◌, ◌==◌, nat_lt, nat_le, Bool, true, false, cond, not, ◌&&◌, ◌||◌, List, [], ◌∷◌, find}
use Rattle.std.proofs.Common.{Some, None, refl, sym, subst, ap, ◌∙◌, arith}
use Rattle.std.specs.List.{All, AllPairs, list_any}
use Rattle.std.proofs.lemmas.Bool.{eqb-true}
use Rattle.std.proofs.lemmas.Bool.Decides.{nat_tests}
use Rattle.std.proofs.lemmas.Map.Views.{any-filter_same}
use Rattle.purge_rules.specs.declared.nodes.Nodes.{Nodes}
use Rattle.purge_rules.specs.declared.purges.Admission.{Admission}
use Rattle.purge_rules.specs.Members.{is_among}
use Rattle.purge_rules.specs.Needed.{admission_in, was_admitted, needs_by, needs, needed}

-- a disjunction that is false has two false parts
first_false : (a b : Bool) → (a || b) ≡ false → a ≡ false
first_false false b none = refl
first_false true b none = absurd cc

second_false : (a b : Bool) → (a || b) ≡ false → b ≡ false
second_false false b none = none
second_false true b none = absurd cc

module _ (id number : ℕ) where
  -- the admission is of the node, and has this number or a lesser one
  abbrev meets : Admission → Bool
  meets a = (a.member == id) && nat_le a.number number

  -- one that does not meet admits the node not before the number
  not_below : (a : Admission) → meets a ≡ false → ((a.member == id) && nat_lt a.number number) ≡ false
  not_below a other = grind (arith, nat_tests)

  not_admitted : (gs : List Admission) → list_any meets gs ≡ false → was_admitted gs number id ≡ false
  not_admitted [] none = refl
  not_admitted (a ∷ gs) none =
      ap (λ b. b || was_admitted gs number id) (not_below a (first_false (meets a) (list_any meets gs) none))
      ∙ not_admitted gs (second_false (meets a) (list_any meets gs) none)

  -- nor is it of this number and of the node
  not_of_it : (a : Admission) → meets a ≡ false → (a.number == number) ≡ true → (a.member == id) ≡ false
  not_of_it a other same = grind (arith, nat_tests)

  by_number : (nodes : Nodes) (all gs : List Admission) (a : Admission) (b : Bool) → (a.number == number) ≡ b → meets a ≡ false →
      needs_by nodes all number (admission_in gs number) id ≡ false →
      needs_by nodes all number (cond b (Some a) (admission_in gs number)) id ≡ false
  by_number nodes all gs a true same other rest = not_of_it a other same
  by_number nodes all gs a false same other rest = rest

  not_needed_by : (nodes : Nodes) (all gs : List Admission) → list_any meets gs ≡ false → was_admitted all number id ≡ false →
      is_among id nodes.joining ≡ true → needs_by nodes all number (admission_in gs number) id ≡ false
  not_needed_by nodes all [] none before joins = ap (λ b. not b || was_admitted all number id) joins ∙ before
  not_needed_by nodes all (a ∷ gs) none before joins =
      by_number nodes all gs a (a.number == number) refl (first_false (meets a) (list_any meets gs) none)
      (not_needed_by nodes all gs (second_false (meets a) (list_any meets gs) none) before joins)

  not_needed : (nodes : Nodes) (gs : List Admission) → list_any meets gs ≡ false → is_among id nodes.joining ≡ true →
      is_among id (needed nodes gs number) ≡ false
  not_needed nodes gs none joins =
      any-filter_same (λ i. i == id) (needs nodes gs number) (needs nodes gs number id) (λ i e. ap (needs nodes gs number) (eqb-true i id e)) nodes.members
      ∙ ap (λ b. b && is_among id nodes.members) (not_needed_by nodes gs gs none (not_admitted gs none) joins)

  -- no admission is of the node
  none_by : (a : Admission) (gs : List Admission) (b : Bool) → (a.member == id) ≡ b → cond b (Some a) (find (λ g. g.member == id) gs) ≡ None →
      (find (λ g. g.member == id) gs ≡ None → list_any meets gs ≡ false) → list_any meets (a ∷ gs) ≡ false
  none_by a gs true same none others = absurd cc
  none_by a gs false same none others = ap (λ b. (b && nat_le a.number number) || list_any meets gs) same ∙ others none

  none_of_it : (gs : List Admission) → find (λ g. g.member == id) gs ≡ None → list_any meets gs ≡ false
  none_of_it [] none = refl
  none_of_it (a ∷ gs) none = none_by a gs (a.member == id) refl none (none_of_it gs)

  -- all are of other nodes
  others_of_it : (gs : List Admission) → All (λ b. id ≢ b.member) gs → list_any meets gs ≡ false
  others_of_it [] others = refl
  others_of_it (b ∷ gs) others =
      let apart : id ≢ b.member = others 0 b (omega arith) in
      let other : (b.member == id) ≡ false = grind (arith, nat_tests) in
      ap (λ t. (t && nat_le b.number number) || list_any meets gs) other
      ∙ others_of_it gs (λ k d within. others (suc k) d (omega (arith, within)))

  -- the one of the node has a greater number
  one_by : (a g : Admission) (gs : List Admission) (b : Bool) → (g.member == id) ≡ b → All (λ x. g.member ≢ x.member) gs → number < a.number →
      cond b (Some g) (find (λ x. x.member == id) gs) ≡ Some a →
      (find (λ x. x.member == id) gs ≡ Some a → list_any meets gs ≡ false) → list_any meets (g ∷ gs) ≡ false
  one_by a g gs true same apart less found others =
      let it : g ≡ a = cc in
      let its : g.member ≡ id = eqb-true g.member id same in
      let greater : number < g.number = subst (λ x. number < x.number) (sym it) less in
      let above : nat_le g.number number ≡ false = grind (arith, nat_tests) in
      ap (λ t. (t && nat_le g.number number) || list_any meets gs) same ∙ ap (λ t. t || list_any meets gs) above
      ∙ others_of_it gs (subst (λ m. All (λ x. m ≢ x.member) gs) its apart)
  one_by a g gs false same apart less found others = ap (λ b. (b && nat_le g.number number) || list_any meets gs) same ∙ others found

  one_of_it : (gs : List Admission) (a : Admission) → AllPairs (λ x y. x.member ≢ y.member) gs → find (λ g. g.member == id) gs ≡ Some a →
      number < a.number → list_any meets gs ≡ false
  one_of_it [] a once found less = refl
  one_of_it (g ∷ gs) a once found less =
      one_by a g gs (g.member == id) refl (λ k d within. once 0 (suc k) d (omega arith) (omega (arith, within))) less found
      (λ rest. one_of_it gs a (λ i j d lt within. once (suc i) (suc j) d (omega (arith, lt)) (omega (arith, within))) rest less)

pub never_needed : (nodes : Nodes) (gs : List Admission) (id number : ℕ) → is_among id nodes.joining ≡ true →
    find (λ a. a.member == id) gs ≡ None → is_among id (needed nodes gs number) ≡ false
never_needed nodes gs id number joins none = not_needed id number nodes gs (none_of_it id number gs none) joins

pub none_needed : (nodes : Nodes) (gs : List Admission) (id number : ℕ) (a : Admission) → is_among id nodes.joining ≡ true →
    AllPairs (λ x y. x.member ≢ y.member) gs → find (λ g. g.member == id) gs ≡ Some a → number < a.number →
    is_among id (needed nodes gs number) ≡ false
none_needed nodes gs id number a joins once found less =
    not_needed id number nodes gs (one_of_it id number gs a once found less) joins

and_none : (b : Bool) → (b && false) ≡ false
and_none true = refl
and_none false = refl

-- no number needs what is no member
pub needs_no_other : (nodes : Nodes) (gs : List Admission) (id number : ℕ) → is_among id nodes.members ≡ false →
    is_among id (needed nodes gs number) ≡ false
needs_no_other nodes gs id number none =
    any-filter_same (λ i. i == id) (needs nodes gs number) (needs nodes gs number id) (λ i e. ap (needs nodes gs number) (eqb-true i id e)) nodes.members
    ∙ ap (λ b. needs nodes gs number id && b) none ∙ and_none (needs nodes gs number id)
