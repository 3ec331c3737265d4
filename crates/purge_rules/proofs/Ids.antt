-- A set of members is an array of truth values, place j for id j + 1; the definitions speak of the
-- list of ids. Each operation on the array does place by place what its definition does id by id.
use Rattle.std.proofs.Common.{◌≡◌, ℕ, zero, suc, ◌+◌, ◌<◌, ◌≤◌, ◌==◌, nat_lt, Bool, true, false, cond, not, ◌&&◌, ◌||◌, List}
use Rattle.std.proofs.Common.{[], ◌∷◌, ◌++◌, map, filter, length}
use Rattle.std.proofs.Common.{get_or, set, take, find, is_some, Some, append_assoc, refl, sym, ap, ◌∙◌, arith}
use Rattle.std.specs.List.{list_all, list_any}
use Rattle.std.proofs.lemmas.Bool.{eqb-true, ltb-true, ltb-false}
use Rattle.std.proofs.lemmas.Bool.Decides.{nat_tests}
use Rattle.std.proofs.lemmas.List.{map-append, length-set, get_or-set_other}
use Rattle.std.proofs.lemmas.Grind.{get_or-set_at}
use Rattle.values_tables.specs.declared.plain.Tables.{Tables}
use Rattle.roster.specs.Lookups.{is_member, is_founding}
use Rattle.purge_rules.specs.Members.{is_among, with_id, possible_ids, ids_from, ids_of, members_of, joining_of}
use Rattle.purge_rules.specs.MemberPlaces.{among_at}

with_below : (id k : ℕ) (bs : List Bool) → id < k → with_id id (ids_from k bs) ≡ id ∷ ids_from k bs
with_below id k [] l = refl
with_below id k (true ∷ bs) l =
    let less : nat_lt id k ≡ true = grind (arith, nat_tests) in
    ap (λ b. cond b (id ∷ k ∷ ids_from (suc k) bs) (cond (k == id) (k ∷ ids_from (suc k) bs) (k ∷ with_id id (ids_from (suc k) bs)))) less
with_below id k (false ∷ bs) l = with_below id (suc k) bs (omega arith)

-- to add an id is to make its place true
pub with_at : (id k j : ℕ) (bs : List Bool) → id ≡ k + j → j < length bs → ids_from k (set bs j true) ≡ with_id id (ids_from k bs)
with_at id k j [] e l = absurd (omega arith)
with_at id k zero (true ∷ bs) e l =
    let less : nat_lt id k ≡ false = grind (arith, nat_tests) in
    let same : (k == id) ≡ true = grind (arith, nat_tests) in
    sym (ap (λ b. cond b (id ∷ k ∷ ids_from (suc k) bs) (cond (k == id) (k ∷ ids_from (suc k) bs) (k ∷ with_id id (ids_from (suc k) bs)))) less
    ∙ ap (λ b. cond b (k ∷ ids_from (suc k) bs) (k ∷ with_id id (ids_from (suc k) bs))) same)
with_at id k zero (false ∷ bs) e l =
    let same : k ≡ id = omega arith in
    ap (λ i. i ∷ ids_from (suc k) bs) same ∙ sym (with_below id (suc k) bs (omega arith))
with_at id k (suc j) (true ∷ bs) e l =
    let less : nat_lt id k ≡ false = grind (arith, nat_tests) in
    let other : (k == id) ≡ false = grind (arith, nat_tests) in
    ap (λ ids. k ∷ ids) (with_at id (suc k) j bs (omega arith) (omega arith))
    ∙ sym (ap (λ b. cond b (id ∷ k ∷ ids_from (suc k) bs) (cond (k == id) (k ∷ ids_from (suc k) bs) (k ∷ with_id id (ids_from (suc k) bs)))) less
    ∙ ap (λ b. cond b (k ∷ ids_from (suc k) bs) (k ∷ with_id id (ids_from (suc k) bs))) other)
with_at id k (suc j) (false ∷ bs) e l = with_at id (suc k) j bs (omega arith) (omega arith)

-- each true place stands for an id that passes the test
pub all_pass : (test : ℕ → Bool) (k : ℕ) (bs : List Bool) → ((j : ℕ) → j < length bs → get_or bs j false ≡ true → test (k + j) ≡ true) →
    list_all test (ids_from k bs) ≡ true
all_pass test k [] pass = refl
all_pass test k (true ∷ bs) pass =
    let here : test k ≡ true = ap test (omega arith) ∙ pass 0 (omega arith) refl in
    ap (λ b. b && list_all test (ids_from (suc k) bs)) here
    ∙ all_pass test (suc k) bs (λ j l e. ap test (omega arith) ∙ pass (suc j) (omega arith) e)
all_pass test k (false ∷ bs) pass = all_pass test (suc k) bs (λ j l e. ap test (omega arith) ∙ pass (suc j) (omega arith) e)

-- one stands for an id that does not
pub one_fails : (test : ℕ → Bool) (k j : ℕ) (bs : List Bool) → get_or bs j false ≡ true → test (k + j) ≡ false → list_all test (ids_from k bs) ≡ false
one_fails test k j [] e f = absurd (cc)
one_fails test k zero (true ∷ bs) e f =
    let here : test k ≡ false = ap test (omega arith) ∙ f in
    ap (λ b. b && list_all test (ids_from (suc k) bs)) here
one_fails test k zero (false ∷ bs) e f = absurd (cc)
one_fails test k (suc j) (true ∷ bs) e f =
    let rest : list_all test (ids_from (suc k) bs) ≡ false = one_fails test (suc k) j bs e (ap test (omega arith) ∙ f) in
    elim (test k) as (λ b. (b && list_all test (ids_from (suc k) bs)) ≡ false) [ true ↦ rest | false ↦ refl ]
one_fails test k (suc j) (false ∷ bs) e f = one_fails test (suc k) j bs e (ap test (omega arith) ∙ f)

-- what passes a test, place by place
pub filtered : (test : ℕ → Bool) (k : ℕ) (bs cs : List Bool) → length cs ≡ length bs →
    ((j : ℕ) → j < length bs → get_or cs j false ≡ (get_or bs j false && test (k + j))) → ids_from k cs ≡ filter test (ids_from k bs)
filtered test k [] [] same at = refl
filtered test k [] (c ∷ cs) same at = absurd (omega arith)
filtered test k (b ∷ bs) [] same at = absurd (omega arith)
filtered test k (true ∷ bs) (c ∷ cs) same at =
    let here : c ≡ test k = at 0 (omega arith) ∙ ap test (omega arith) in
    let rest = filtered test (suc k) bs cs (omega arith) (λ j l. at (suc j) (omega arith) ∙ ap (λ i. get_or bs j false && test i) (omega arith)) in
    (elim c as (λ d. d ≡ test k → ids_from k (d ∷ cs) ≡ filter test (k ∷ ids_from (suc k) bs)) [
      | true ↦ λ e. ap (λ ids. k ∷ ids) rest ∙ ap (λ b. cond b (k ∷ filter test (ids_from (suc k) bs)) (filter test (ids_from (suc k) bs))) e
      | false ↦ λ e. rest ∙ ap (λ b. cond b (k ∷ filter test (ids_from (suc k) bs)) (filter test (ids_from (suc k) bs))) e
    ]) here
filtered test k (false ∷ bs) (c ∷ cs) same at =
    let here : c ≡ false = at 0 (omega arith) in
    let rest = filtered test (suc k) bs cs (omega arith) (λ j l. at (suc j) (omega arith) ∙ ap (λ i. get_or bs j false && test i) (omega arith)) in
    ap (λ d. ids_from k (d ∷ cs)) here ∙ rest

-- how many there are
pub count_is : (k : ℕ) (bs : List Bool) → length (ids_from k bs) ≡ length (filter (λ b. b) bs)
count_is k [] = refl
count_is k (true ∷ bs) = ap suc (count_is (suc k) bs)
count_is k (false ∷ bs) = count_is (suc k) bs

-- one more place
pub one_more_true : (id k j : ℕ) (bs : List Bool) → id ≡ k + j → get_or bs j false ≡ true → ids_from k (take (suc j) bs) ≡ ids_from k (take j bs) ++ id ∷ []
one_more_true id k j [] e is = absurd (cc)
one_more_true id k zero (true ∷ bs) e is =
    let same : k ≡ id = omega arith in
    ap (λ i. i ∷ []) same
one_more_true id k zero (false ∷ bs) e is = absurd (cc)
one_more_true id k (suc j) (true ∷ bs) e is = ap (λ ids. k ∷ ids) (one_more_true id (suc k) j bs (omega arith) is)
one_more_true id k (suc j) (false ∷ bs) e is = one_more_true id (suc k) j bs (omega arith) is

pub one_more_false : (k j : ℕ) (bs : List Bool) → get_or bs j false ≡ false → ids_from k (take (suc j) bs) ≡ ids_from k (take j bs)
one_more_false k zero [] is = refl
one_more_false k (suc j) [] is = refl
one_more_false k zero (true ∷ bs) is = absurd (cc)
one_more_false k zero (false ∷ bs) is = refl
one_more_false k (suc j) (true ∷ bs) is = ap (λ ids. k ∷ ids) (one_more_false (suc k) j bs is)
one_more_false k (suc j) (false ∷ bs) is = one_more_false (suc k) j bs is

none_past : (j : ℕ) (bs : List Bool) → length bs ≤ j → get_or bs j false ≡ false
none_past j [] l = refl
none_past zero (b ∷ bs) l = absurd (omega arith)
none_past (suc j) (b ∷ bs) l = none_past j bs (omega arith)

-- no id lies outside the places
pub not_among : (id : ℕ) (bs : List Bool) → length bs < id → is_among id (ids_of bs) ≡ false
not_among zero bs l = absurd (omega arith)
not_among (suc j) bs l = among_at (suc j) 1 j bs (omega arith) ∙ none_past j bs (omega arith)

set_same : (j : ℕ) (bs : List Bool) → get_or bs j false ≡ true → set bs j true ≡ bs
set_same j [] e = refl
set_same zero (b ∷ bs) e = ap (λ c. c ∷ bs) (sym e)
set_same (suc j) (b ∷ bs) e = ap (λ cs. b ∷ cs) (set_same j bs e)

true_within : (j : ℕ) (bs : List Bool) → get_or bs j false ≡ true → j < length bs
true_within j [] e = absurd (cc)
true_within zero (b ∷ bs) e = omega arith
true_within (suc j) (b ∷ bs) e = let rest = true_within j bs e in omega arith

-- to add an id that is there changes nothing
pub with_same : (id k j : ℕ) (bs : List Bool) → id ≡ k + j → get_or bs j false ≡ true → with_id id (ids_from k bs) ≡ ids_from k bs
with_same id k j bs e is = sym (with_at id k j bs e (true_within j bs is)) ∙ ap (ids_from k) (set_same j bs is)

-- an id is among them after another is added if it is that one, or was among them
pub among_with : (id other : ℕ) (ids : List ℕ) → is_among id (with_id other ids) ≡ ((other == id) || is_among id ids)
among_with id other [] = refl
among_with id other (i ∷ ids) =
    elim (nat_lt other i) as (λ b. is_among id (cond b (other ∷ i ∷ ids) (cond (i == other) (i ∷ ids) (i ∷ with_id other ids)))
    ≡ ((other == id) || ((i == id) || is_among id ids))) [
      | true ↦ refl
      | false ↦ (elim (i == other) as (λ b. (i == other) ≡ b → is_among id (cond b (i ∷ ids) (i ∷ with_id other ids))
          ≡ ((other == id) || ((i == id) || is_among id ids))) [
            | true ↦ λ e. twice (i == id) (other == id) (is_among id ids) (ap (λ j. j == id) (eqb-true i other e))
            | false ↦ λ e. ap (λ b. (i == id) || b) (among_with id other ids) ∙ swapped (i == id) (other == id) (is_among id ids)
          ]) refl
    ]
  where
    twice : (a b c : Bool) → a ≡ b → (a || c) ≡ (b || (a || c))
    twice true true c e = refl
    twice true false c e = absurd (cc)
    twice false true c e = absurd (cc)
    twice false false c e = refl

    swapped : (a b c : Bool) → (a || (b || c)) ≡ (b || (a || c))
    swapped true true c = refl
    swapped true false c = refl
    swapped false b c = refl

-- Pairs

pub paired_true : {X : Type 0} (f : ℕ → X) (j n id : ℕ) (bs : List Bool) (ps qs : List X) → n ≡ j + 1 → id ≡ j + 1 → get_or bs j false ≡ true →
    ps ≡ qs ++ map f (ids_from 1 (take j bs)) → ps ++ f id ∷ [] ≡ qs ++ map f (ids_from 1 (take n bs))
paired_true f j n id bs ps qs e i is so =
    let next : n ≡ suc j = omega arith in
    let more : ids_from 1 (take n bs) ≡ ids_from 1 (take j bs) ++ id ∷ [] = rw next (one_more_true id 1 j bs (omega arith) is) in
    rw (so, more, map-append f (ids_from 1 (take j bs)) (id ∷ [])) (append_assoc qs (map f (ids_from 1 (take j bs))) (f id ∷ []))

pub paired_false : {X : Type 0} (f : ℕ → X) (j n : ℕ) (bs : List Bool) (ps qs : List X) → n ≡ j + 1 → get_or bs j false ≡ false →
    ps ≡ qs ++ map f (ids_from 1 (take j bs)) → ps ≡ qs ++ map f (ids_from 1 (take n bs))
paired_false f j n bs ps qs e is so =
    let next : n ≡ suc j = omega arith in
    let more : ids_from 1 (take n bs) ≡ ids_from 1 (take j bs) = rw next (one_more_false 1 j bs is) in
    rw (so, more) refl

-- The members of a roster

trues : ℕ → List Bool
trues zero = []
trues (suc n) = true ∷ trues n

true_at : (n j : ℕ) → j < n → get_or (trues n) j false ≡ true
unfolding trues
true_at zero j l = absurd (omega arith)
true_at (suc n) zero l = refl
true_at (suc n) (suc j) l = true_at n j (omega arith)

any_found : {X : Type 0} (test : X → Bool) (xs : List X) → list_any test xs ≡ is_some (find test xs)
any_found test [] = refl
any_found test (x ∷ xs) =
    elim (test x) as (λ b. (b || list_any test xs) ≡ is_some (cond b (Some x) (find test xs))) [ true ↦ refl | false ↦ any_found test xs ]

pub one_first : (j : ℕ) → j + 1 ≡ 1 + j
one_first j = omega arith

-- 16 places that say of each id whether it passes a test
pub placed : (test : ℕ → Bool) (has : List Bool) → length has ≡ 16 → ((k : ℕ) → k < 16 → get_or has k false ≡ test (k + 1)) →
    ids_of has ≡ filter test possible_ids
unfolding trues
placed test has long at = filtered test 1 (trues 16) has long (λ j l.
    at j l ∙ ap test (one_first j) ∙ sym (ap (λ b. b && test (1 + j)) (true_at 16 j l)))

pub members_placed : (t : Tables) (has : List Bool) → length has ≡ 16 →
    ((k : ℕ) → k < 16 → get_or has k false ≡ list_any (λ m. m.cache.id == k + 1) t.members) → ids_of has ≡ members_of t
unfolding members_of
members_placed t has long at = placed (is_member t) has long (λ k l. at k l ∙ any_found (λ m. m.cache.id == k + 1) t.members)

pub joining_placed : (t : Tables) (has : List Bool) → length has ≡ 16 →
    ((k : ℕ) → k < 16 → get_or has k false ≡ (is_member t (k + 1) && not (is_founding t (k + 1)))) → ids_of has ≡ joining_of t
unfolding joining_of
joining_placed t has long at = placed (λ id. is_member t id && not (is_founding t id)) has long at

-- Roster end
-- one more place is filled: the places up to it are the values of a function of places
pub one_more : (has : List Bool) (place : ℕ) (here : Bool) (value : ℕ → Bool) → length has ≡ 16 → place < 16 → here ≡ value place →
    ((k : ℕ) → k < place → get_or has k false ≡ value k) →
    (length (set has place here) ≡ 16) × ((k : ℕ) → k < place + 1 → get_or (set has place here) k false ≡ value k)
one_more has place here value long low is below = (length-set has place here ∙ long, λ k up. filled k up (nat_lt k place) refl)
  where
    filled : (k : ℕ) → k < place + 1 → (b : Bool) → nat_lt k place ≡ b → get_or (set has place here) k false ≡ value k
    filled k up true h =
        let less : k < place = ltb-true k place h in
        get_or-set_other has place k here false (λ same. absurd (omega (arith, same, less))) ∙ below k less
    filled k up false h =
        let same : k ≡ place = omega (arith, up, ltb-false k place h) in
        get_or-set_at has place k here false same (omega (arith, long, low)) ∙ is ∙ ap value (sym same)
