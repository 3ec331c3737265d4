-- The entries of one seat in a history.
use Rattle.std.proofs.Common.{◌≡◌, ◌<◌, ◌≤◌, ℕ, ◌+◌, ◌==◌, Bool, true, false, List, [], ◌∷◌, ◌++◌, length, slice_index_or, slice_set, replicate, refl, sym, ap}
use Rattle.std.proofs.Common.{subst, ◌∙◌, arith, length-append, length-set}
use Rattle.std.proofs.lemmas.Bool.Decides.{nat_tests}
use Rattle.std.proofs.lemmas.List.{get_or-replicate, get_or-set_other, get_or-set_same, length-replicate}
use mathlib.Core.List.{IsPrefix}
use Rattle.node_book.specs.declared.book.NodeEntry.{NodeEntry}
use Rattle.node_seats.specs.Seats.{SeatView, AreCounts, IsNext, entries_of}

-- those of one list behind another
append_by : (n : ℕ) (x : NodeEntry) (xs ys : List NodeEntry) (b : Bool) → (x.seat == n) ≡ b → entries_of n (xs ++ ys) ≡ entries_of n xs ++ entries_of n ys →
    entries_of n (x ∷ (xs ++ ys)) ≡ entries_of n (x ∷ xs) ++ entries_of n ys
append_by n x xs ys true is rest = rw is (ap (λ es. x ∷ es) rest)
append_by n x xs ys false is rest = rw is rest

pub entries_append : (n : ℕ) (xs ys : List NodeEntry) → entries_of n (xs ++ ys) ≡ entries_of n xs ++ entries_of n ys
entries_append n [] ys = refl
entries_append n (x ∷ xs) ys = append_by n x xs ys (x.seat == n) refl (entries_append n xs ys)

-- no more than there are
fewer_by : (n : ℕ) (x : NodeEntry) (xs : List NodeEntry) (b : Bool) → (x.seat == n) ≡ b → length (entries_of n xs) ≤ length xs →
    length (entries_of n (x ∷ xs)) ≤ length (x ∷ xs)
fewer_by n x xs true is rest = rw is (omega (arith, rest))
fewer_by n x xs false is rest = rw is (omega (arith, rest))

pub entries_fewer : (n : ℕ) (xs : List NodeEntry) → length (entries_of n xs) ≤ length xs
entries_fewer n [] = omega arith
entries_fewer n (x ∷ xs) = fewer_by n x xs (x.seat == n) refl (entries_fewer n xs)

-- a list of no length is empty
none_of : {A : Type 0} (xs : List A) → length xs ≡ 0 → xs ≡ []
none_of [] is = refl
none_of (x ∷ xs) is = absurd (omega (arith, is))

-- where the whole history has as many entries of the seat as it knows, the rest has none
pub is_next : (log : List NodeEntry) (seat : SeatView) → IsPrefix seat.seen log →
    length (entries_of seat.number log) ≡ length (entries_of seat.number seat.seen) → IsNext log seat
is_next log seat begins as_many =
    let all : length (entries_of seat.number (seat.seen ++ begins.0)) ≡ length (entries_of seat.number seat.seen) =
    subst (λ es. length (entries_of seat.number es) ≡ length (entries_of seat.number seat.seen)) (sym begins.1) as_many in
    record {
      others = begins.0;
      log_is = sym begins.1;
      apart = none_of (entries_of seat.number begins.0)
          (omega (
            arith,
            all,
            ap length (entries_append seat.number seat.seen begins.0),
            length-append (entries_of seat.number seat.seen) (entries_of seat.number begins.0),
          ));
    }

-- an entry more of the seat is one more of its entries
pub own_more : (n : ℕ) (log : List NodeEntry) (e : NodeEntry) → e.seat ≡ n → length (entries_of n (log ++ e ∷ [])) ≡ length (entries_of n log) + 1
own_more n log e own = by_seat (e.seat == n) refl where
  by_seat : (b : Bool) → (e.seat == n) ≡ b → length (entries_of n (log ++ e ∷ [])) ≡ length (entries_of n log) + 1
  by_seat true is =
      let one : entries_of n (e ∷ []) ≡ e ∷ [] = rw is refl in
      omega (arith, ap length (entries_append n log (e ∷ [])), length-append (entries_of n log) (entries_of n (e ∷ [])), ap length one)
  by_seat false is = absurd (grind (arith, nat_tests, own, is))

-- an entry more of another seat is none of them
pub other_more : (n : ℕ) (log : List NodeEntry) (e : NodeEntry) → ¬ (e.seat ≡ n) → length (entries_of n (log ++ e ∷ [])) ≡ length (entries_of n log)
other_more n log e other = by_seat (e.seat == n) refl where
  by_seat : (b : Bool) → (e.seat == n) ≡ b → length (entries_of n (log ++ e ∷ [])) ≡ length (entries_of n log)
  by_seat true is = absurd (other (grind (arith, nat_tests, is)))
  by_seat false is =
      let none : entries_of n (e ∷ []) ≡ [] = rw is refl in
      omega (arith, ap length (entries_append n log (e ∷ [])), length-append (entries_of n log) (entries_of n (e ∷ [])), ap length none)

-- where it goes on by others alone, the history has as many entries of the seat as it knows
pub as_many : (log : List NodeEntry) (seat : SeatView) → IsNext log seat → length (entries_of seat.number log) ≡ length (entries_of seat.number seat.seen)
as_many log seat next =
    let all : entries_of seat.number log ≡ entries_of seat.number seat.seen ++ entries_of seat.number next.others =
    ap (entries_of seat.number) next.log_is ∙ entries_append seat.number seat.seen next.others in
    omega (arith, ap length all, length-append (entries_of seat.number seat.seen) (entries_of seat.number next.others), ap length next.apart)

-- the counts of a history without entries
pub counts_none : (n : ℕ) → AreCounts (replicate n 0) []
counts_none n k d within = get_or-replicate n k 0 d (subst (λ m. k < m) (length-replicate n 0) within)

-- the counts after an entry more
pub counts_more : (counts : List ℕ) (log : List NodeEntry) (e : NodeEntry) (k n : ℕ) → AreCounts counts log → e.seat ≡ k → k < length counts →
    n ≡ length (entries_of k log) + 1 → AreCounts (slice_set counts k n) (log ++ e ∷ [])
counts_more counts log e k n are own within is j d here = by_place (j == k) refl where
  by_place : (b : Bool) → (j == k) ≡ b → slice_index_or (slice_set counts k n) j d ≡ length (entries_of j (log ++ e ∷ []))
  by_place true same =
      let at : j ≡ k = grind (arith, nat_tests, same) in
      subst (λ m. slice_index_or (slice_set counts k n) m d ≡ length (entries_of m (log ++ e ∷ []))) (sym at)
      (get_or-set_same counts k n d within ∙ (is ∙ sym (own_more k log e own)))
  by_place false differ =
      let apart : ¬ (j ≡ k) = λ eq. absurd (grind (arith, nat_tests, differ, eq)) in
      get_or-set_other counts k j n d apart
      ∙ (are j d (subst (λ m. j < m) (length-set counts k n) here) ∙ sym (other_more j log e (λ (eq : e.seat ≡ j). apart (sym eq ∙ own))))
