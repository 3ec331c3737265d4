-- For the type `MemberSet`, whose view must have an inverse: ids as 16 truth values, and back, are
-- the same. All here are lemmas. A place is an id less 1.
use Rattle.std.proofs.Common.{◌≡◌, ℕ, zero, suc, ◌+◌, ◌<◌, ◌==◌, Bool, true, false, ◌||◌, List, [], ◌∷◌, map, length, get_or, refl, sym, ap, ◌∙◌, arith}
use Rattle.std.proofs.lemmas.Bool.Decides.{nat_tests}
use Rattle.purge_rules.specs.Members.{numbers, is_among, ids_from, ids_of, places_of}

-- a lesser number is another
eqb_other : (a b : ℕ) → b < a → (a == b) ≡ false
eqb_other a b l = grind (arith, nat_tests)

-- no id below the first is among them
pub none_below : (id k : ℕ) (bs : List Bool) → id < k → is_among id (ids_from k bs) ≡ false
none_below id k [] l = refl
none_below id k (true ∷ bs) l = ap (λ b. b || is_among id (ids_from (suc k) bs)) (eqb_other k id l)
    ∙ none_below id (suc k) bs (omega arith)
none_below id k (false ∷ bs) l = none_below id (suc k) bs (omega arith)

-- an id is among them exactly if its place is true
pub among_at : (id k j : ℕ) (bs : List Bool) → id ≡ k + j → is_among id (ids_from k bs) ≡ get_or bs j false
among_at id k j [] e = refl
among_at id k zero (true ∷ bs) e =
    let same : (k == id) ≡ true = grind (arith, nat_tests) in
    ap (λ b. b || is_among id (ids_from (suc k) bs)) same
among_at id k zero (false ∷ bs) e = none_below id (suc k) bs (omega arith)
among_at id k (suc j) (true ∷ bs) e =
    let other : (k == id) ≡ false = grind (arith, nat_tests) in
    ap (λ b. b || is_among id (ids_from (suc k) bs)) other ∙ among_at id (suc k) j bs (omega arith)
among_at id k (suc j) (false ∷ bs) e = among_at id (suc k) j bs (omega arith)

-- testing each number gives the truth values back
pub places_back : (test : ℕ → Bool) (k : ℕ) (bs : List Bool) → ((j : ℕ) → test (k + j) ≡ get_or bs j false) →
    map test (numbers k (length bs)) ≡ bs
places_back test k [] at = refl
places_back test k (b ∷ bs) at =
    let here : test k ≡ b = ap test (omega arith) ∙ at 0 in
    ap (λ c. c ∷ map test (numbers (suc k) (length bs))) here
    ∙ ap (λ cs. b ∷ cs) (places_back test (suc k) bs (λ j. ap test (omega arith) ∙ at (suc j)))

-- the truth values of the ids of 16 truth values are these
pub places_are : (bs : List Bool) → length bs ≡ 16 → places_of (ids_of bs) ≡ bs
places_are bs long =
    let test : ℕ → Bool = λ id. is_among id (ids_of bs) in
    ap (λ n. map test (numbers 1 n)) (sym long) ∙ places_back test 1 bs (λ j. among_at (1 + j) 1 j bs refl)
