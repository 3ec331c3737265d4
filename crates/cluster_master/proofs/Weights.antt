-- What entries weigh in all: those of two rows together, and those of a row with one more.
use Rattle.std.proofs.Common.{◌≡◌, ℕ, ◌+◌, ◌<◌, min, List, [], ◌∷◌, ◌++◌, length, take, get_or, ap, arith}
use Rattle.std.proofs.lemmas.List.Sums.{sum_by-append, sum_by_push, sum_by_more}
use Rattle.purge_master.specs.declared.book.MasterEntry.{MasterEntry}
use Rattle.cluster_master.specs.Weight.{weight_of, weight_of_all}

-- two rows together
pub weight_of_both : (xs ys : List MasterEntry) → weight_of_all (xs ++ ys) ≡ min (weight_of_all xs + weight_of_all ys) 18446744073709551615
weight_of_both xs ys = omega (arith, sum_by-append weight_of xs ys)

-- a row with one entry more
pub weight_of_added : (xs : List MasterEntry) (x : MasterEntry) → weight_of_all (xs ++ x ∷ []) ≡ min (weight_of_all xs + weight_of x) 18446744073709551615
weight_of_added xs x = omega (arith, sum_by_push weight_of xs x)

-- the front of a row with the next entry
pub weight_of_next : (xs : List MasterEntry) (i : ℕ) (x : MasterEntry) → i < length xs → x ≡ get_or xs i x →
    weight_of_all (take (i + 1) xs) ≡ min (weight_of_all (take i xs) + weight_of x) 18446744073709551615
weight_of_next xs i x within is =
    let here = ap weight_of is in
    omega (arith, sum_by_more weight_of xs i x within, here)
