-- Lists that a loop makes, item by item: ascending numbers, datagrams, and images.
use Rattle.std.proofs.Common.{◌≡◌, ℕ, zero, suc, ◌+◌, ◌<◌, List, [], ◌∷◌, ◌++◌, length, take, get_or, map, flat_map, Option, sym, ◌∙◌, ap, arith}
use Rattle.std.specs.List.{cons_option}
use Rattle.std.proofs.lemmas.Grind.{flat_map-append}
use Rattle.std.proofs.lemmas.List.{append-nil, map-append}
use Rattle.std.proofs.Math.Seq.{take-suc}
use Rattle.world_rules.specs.Apply.{numbers_after}

-- one more number
pub numbers_more : (first count : ℕ) → numbers_after first (suc count) ≡ numbers_after first count ++ (first + count + 1) ∷ []
numbers_more first zero = ap (λ n. n ∷ []) (omega arith)
numbers_more first (suc count) = ap (λ l. (first + 1) ∷ l) (numbers_more (first + 1) count ∙ ap (λ n. numbers_after (first + 1) count ++ n ∷ []) (omega arith))

-- one more item, which makes a datagram or none
pub made_more : {X A : Type 0} (f : X → List A) (xs : List X) (i j : ℕ) (d : X) (so_far now : List A) (o : Option A) → j ≡ suc i → i < length xs →
    so_far ≡ flat_map f (take i xs) → f (get_or xs i d) ≡ cons_option o [] →
    now ≡ so_far ++ cons_option o [] → now ≡ flat_map f (take j xs)
made_more f xs i j d so_far now o is_next less before is more =
    more ∙ ap (λ l. l ++ cons_option o []) before ∙ ap (λ l. flat_map f (take i xs) ++ l) (sym is ∙ sym (append-nil (f (get_or xs i d))))
    ∙ sym (flat_map-append f (take i xs) (get_or xs i d ∷ []))
    ∙ ap (λ l. flat_map f l) (sym (take-suc xs i d less)) ∙ ap (λ (n : ℕ). flat_map f (take n xs)) (sym is_next)

-- one more item, which makes one
pub mapped_more : {X Y : Type 0} (f : X → Y) (xs : List X) (i j : ℕ) (x : X) (y : Y) (so_far : List Y) → j ≡ i + 1 → i < length xs
    → x ≡ get_or xs i x → y ≡ f x →
    so_far ≡ map f (take i xs) → so_far ++ y ∷ [] ≡ map f (take j xs)
mapped_more f xs i j x y so_far is_next less here is before =
    let next : j ≡ suc i = omega (arith, is_next) in
    ap (λ l. l ++ y ∷ []) before
    ∙ ap (λ v. map f (take i xs) ++ v ∷ []) (is ∙ ap f here)
    ∙ sym (map-append f (take i xs) (get_or xs i x ∷ []))
    ∙ ap (map f) (sym (take-suc xs i x less))
    ∙ ap (λ (n : ℕ). map f (take n xs)) (sym next)
