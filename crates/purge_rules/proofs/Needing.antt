-- Which members a number needs: as the code finds them, and that neither the end of an admission nor
-- a later one changes it.
use Rattle.std.proofs.Common.{◌≡◌, ℕ, ◌+◌, ◌<◌, ◌≤◌, ◌==◌, nat_lt, Bool, true, false, cond, not, ◌&&◌, ◌||◌, List, []}
use Rattle.std.proofs.Common.{◌∷◌, ◌++◌, filter, length}
use Rattle.std.proofs.Common.{take, get_or, Option, Some, None, option_map, refl, sym, ap, ◌∙◌, arith}
use Rattle.std.proofs.lemmas.Bool.{eqb-true}
use Rattle.std.proofs.lemmas.Bool.Decides.{nat_tests}
use Rattle.std.proofs.lemmas.List.{take_more}
use Rattle.std.proofs.lemmas.List.Elements.{filter_agree}
use Rattle.std.proofs.lemmas.List.Folds.{list_any-append}
use Rattle.std.proofs.lemmas.Map.Views.{any-filter_same}
use Rattle.purge_rules.specs.declared.nodes.Nodes.{Nodes}
use Rattle.purge_rules.specs.declared.purges.Admission.{Admission}
use Rattle.purge_rules.specs.Members.{is_among, with_id}
use Rattle.purge_rules.specs.Needed.{admission_in, was_admitted, needs_by, needs, needed}
use Rattle.purge_rules.specs.Purges.{ended_at}
use Rattle.purge_rules.proofs.Ids.{among_with}
use Rattle.purge_rules.proofs.Finding.{eqb_other}
use Rattle.purge_rules.proofs.Changing.{end_of, end_number, end_member}

-- As the code finds them

abbrev admits : ℕ → ℕ → Admission → Bool
admits number id a = (a.member == id) && nat_lt a.number number

-- one more admission is looked at
any_more : (number id : ℕ) (gs : List Admission) (i : ℕ) (d : Admission) → i < length gs →
    was_admitted (take (i + 1) gs) number id ≡ (was_admitted (take i gs) number id || (admits number id (get_or gs i d) || false))
any_more number id gs i d l =
    ap (λ bs. was_admitted bs number id) (take_more gs i d l) ∙ list_any-append (admits number id) (take i gs) (get_or gs i d ∷ [])

pub admitted_more : (number id : ℕ) (ids : List ℕ) (gs : List Admission) (i : ℕ) (d : Admission) → i < length gs →
    is_among id ids ≡ was_admitted (take i gs) number id → (get_or gs i d).number < number →
    is_among id (with_id (get_or gs i d).member ids) ≡ was_admitted (take (i + 1) gs) number id
admitted_more number id ids gs i d l so less =
    let lower : nat_lt (get_or gs i d).number number ≡ true = grind (arith, nat_tests) in
    among_with id (get_or gs i d).member ids ∙ ap (λ b. ((get_or gs i d).member == id) || b) so
    ∙ ordered ((get_or gs i d).member == id) (was_admitted (take i gs) number id)
    ∙ ap (λ b. was_admitted (take i gs) number id || ((((get_or gs i d).member == id) && b) || false)) (sym lower)
    ∙ sym (any_more number id gs i d l)
  where
    ordered : (a b : Bool) → (a || b) ≡ (b || ((a && true) || false))
    ordered true true = refl
    ordered true false = refl
    ordered false true = refl
    ordered false false = refl

pub not_admitted_more : (number id : ℕ) (ids : List ℕ) (gs : List Admission) (i : ℕ) (d : Admission) → i < length gs →
    is_among id ids ≡ was_admitted (take i gs) number id → number ≤ (get_or gs i d).number → is_among id ids ≡ was_admitted (take (i + 1) gs) number id
not_admitted_more number id ids gs i d l so above =
    let higher : nat_lt (get_or gs i d).number number ≡ false = grind (arith, nat_tests) in
    so ∙ ordered ((get_or gs i d).member == id) (was_admitted (take i gs) number id)
    ∙ ap (λ b. was_admitted (take i gs) number id || ((((get_or gs i d).member == id) && b) || false)) (sym higher)
    ∙ sym (any_more number id gs i d l)
  where
    ordered : (a b : Bool) → b ≡ (b || ((a && false) || false))
    ordered true true = refl
    ordered true false = refl
    ordered false true = refl
    ordered false false = refl

-- those that are not outside are founding or were admitted
pub needed_is : (nodes : Nodes) (admissions : List Admission) (number : ℕ) (admitted : List ℕ) →
    ((id : ℕ) → is_among id admitted ≡ was_admitted admissions number id) → admission_in admissions number ≡ None →
    filter (λ id. not (is_among id (filter (λ j. not (is_among j admitted)) nodes.joining))) nodes.members ≡ needed nodes admissions number
needed_is nodes admissions number admitted are none =
    filter_agree (λ id. not (is_among id (filter (λ j. not (is_among j admitted)) nodes.joining))) (needs_by nodes admissions number None)
    (λ id. ap not (any-filter_same (λ j. j == id) (λ j. not (is_among j admitted)) (not (is_among id admitted))
    (λ j e. ap (λ k. not (is_among k admitted)) (eqb-true j id e)) nodes.joining)
    ∙ either (is_among id admitted) (is_among id nodes.joining) ∙ ap (λ b. not (is_among id nodes.joining) || b) (are id)) nodes.members
    ∙ ap (λ o. filter (needs_by nodes admissions number o) nodes.members) (sym none)
  where
    either : (a j : Bool) → not (not a && j) ≡ (not j || a)
    either true true = refl
    either true false = refl
    either false true = refl
    either false false = refl

-- an admission needs the admitted node alone
pub needed_alone : (nodes : Nodes) (admissions : List Admission) (number : ℕ) (a : Admission) → admission_in admissions number ≡ Some a →
    filter (λ id. a.member == id) nodes.members ≡ needed nodes admissions number
needed_alone nodes admissions number a is = ap (λ o. filter (needs_by nodes admissions number o) nodes.members) (sym is)

-- Later

-- the end of an admission changes no number's needs
ended_found : (number end : ℕ) (gs : List Admission) → admission_in (ended_at end gs) number ≡ option_map (end_of end) (admission_in gs number)
ended_found number end [] = refl
ended_found number end (a ∷ gs) =
    ap (λ n. cond (n == number) (Some (end_of end a)) (admission_in (ended_at end gs) number)) (end_number end a)
    ∙ (elim (a.number == number) as (λ b. cond b (Some (end_of end a)) (admission_in (ended_at end gs) number)
    ≡ option_map (end_of end) (cond b (Some a) (admission_in gs number))) [ true ↦ refl | false ↦ ended_found number end gs ])

ended_admits : (number id end : ℕ) (gs : List Admission) → was_admitted (ended_at end gs) number id ≡ was_admitted gs number id
ended_admits number id end [] = refl
ended_admits number id end (a ∷ gs) =
    ap (λ m. ((m == id) && nat_lt (end_of end a).number number) || was_admitted (ended_at end gs) number id) (end_member end a)
    ∙ ap (λ n. ((a.member == id) && nat_lt n number) || was_admitted (ended_at end gs) number id) (end_number end a)
    ∙ ap (λ b. ((a.member == id) && nat_lt a.number number) || b) (ended_admits number id end gs)

pub needed_ended : (nodes : Nodes) (gs : List Admission) (number end : ℕ) → needed nodes (ended_at end gs) number ≡ needed nodes gs number
needed_ended nodes gs number end = filter_agree (needs nodes (ended_at end gs) number) (needs nodes gs number) (λ id.
    ap (λ o. needs_by nodes (ended_at end gs) number o id) (ended_found number end gs) ∙ by_case id (admission_in gs number)) nodes.members
  where
    by_case : (id : ℕ) (o : Option Admission) → needs_by nodes (ended_at end gs) number (option_map (end_of end) o) id ≡ needs_by nodes gs number o id
    by_case id (Some a) = ap (λ m. m == id) (end_member end a)
    by_case id None = ap (λ b. not (is_among id nodes.joining) || b) (ended_admits number id end gs)

-- an admission under a greater number changes no lesser number's needs
found_before : (number : ℕ) (gs : List Admission) (a : Admission) → number < a.number → admission_in (gs ++ a ∷ []) number ≡ admission_in gs number
found_before number [] a less = ap (λ b. cond b (Some a) None) (eqb_other (λ (e : a.number ≡ number). omega arith))
found_before number (b ∷ gs) a less =
    elim (b.number == number) as (λ t. cond t (Some b) (admission_in (gs ++ a ∷ []) number) ≡ cond t (Some b) (admission_in gs number))
    [ true ↦ refl | false ↦ found_before number gs a less ]

admits_before : (number id : ℕ) (gs : List Admission) (a : Admission) → number < a.number →
    was_admitted (gs ++ a ∷ []) number id ≡ was_admitted gs number id
admits_before number id gs a less =
    let higher : nat_lt a.number number ≡ false = grind (arith, nat_tests) in
    list_any-append (admits number id) gs (a ∷ [])
    ∙ ap (λ b. was_admitted gs number id || (((a.member == id) && b) || false)) higher
    ∙ none (was_admitted gs number id) (a.member == id)
  where
    none : (x y : Bool) → (x || ((y && false) || false)) ≡ x
    none true y = refl
    none false true = refl
    none false false = refl

pub needed_later : (nodes : Nodes) (gs : List Admission) (number : ℕ) (a : Admission) → number < a.number →
    needed nodes (gs ++ a ∷ []) number ≡ needed nodes gs number
needed_later nodes gs number a less = filter_agree (needs nodes (gs ++ a ∷ []) number) (needs nodes gs number) (λ id.
    ap (λ o. needs_by nodes (gs ++ a ∷ []) number o id) (found_before number gs a less) ∙ by_case id (admission_in gs number)) nodes.members
  where
    by_case : (id : ℕ) (o : Option Admission) → needs_by nodes (gs ++ a ∷ []) number o id ≡ needs_by nodes gs number o id
    by_case id (Some b) = refl
    by_case id None = ap (λ b. not (is_among id nodes.joining) || b) (admits_before number id gs a less)
