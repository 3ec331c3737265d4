-- A part of a list is no longer than the list.
use Rattle.std.proofs.Common.{◌≤◌, Bool, true, false, if◌then◌else◌, List, [], ◌∷◌, length, filter, arith}

-- by whether the first passes
fits_by : {X : Type 0} (x : X) (xs some : List X) (b : Bool) → length some ≤ length xs → length (if b then x ∷ some else some) ≤ length (x ∷ xs)
fits_by x xs some true fits = omega (arith, fits)
fits_by x xs some false fits = omega (arith, fits)

pub filter_fits : {X : Type 0} (p : X → Bool) (xs : List X) → length (filter p xs) ≤ length xs
filter_fits p [] = omega arith
filter_fits p (x ∷ xs) = fits_by x xs (filter p xs) (p x) (filter_fits p xs)
