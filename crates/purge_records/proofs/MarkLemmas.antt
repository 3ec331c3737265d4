-- Which members a list of acknowledgements marks. The marks are the ids of 1 to 16 that some row
-- has, so one row more inserts its member in its place.
use Rattle.std.proofs.Common.{◌≡◌, ◌⊎◌, inl, inr, ℕ, zero, suc, ◌+◌, ◌<◌, ◌≤◌, ◌==◌, Bool, true, false, ◌||◌, cond, List, [], ◌∷◌, filter, refl, sym, ap, ◌∙◌}
use Rattle.std.proofs.Common.{arith}
use Rattle.std.specs.List.{AllByRecursion, list_any}
use Rattle.std.proofs.lemmas.Bool.{cases_Bool, cases_order, lt-ltb, le-ltb, eq-eqb, ne_eqb, false_from_ne_true}
use Rattle.sqlite_value.specs.Order.{Row}
use Rattle.purge_rules.specs.Members.{is_among, with_id, possible_ids}
use Rattle.purge_records.specs.Tables.{ack_number, is_ack, marks_in}

-- so many numbers from this one on
abbrev pub up : ℕ → ℕ → List ℕ
up k zero = []
up k (suc n) = k ∷ up (suc k) n

none_marked : (p : ℕ → Bool) (m k n : ℕ) → m < k → filter (λ id. (m == id) || p id) (up k n) ≡ filter p (up k n)
none_marked p m k zero low = refl
none_marked p m k (suc n) low = rw (ne_eqb m k (λ e. omega (arith, low, e)))
    (ap (λ zs. cond (p k) (k ∷ zs) zs) (none_marked p m (suc k) n (omega (arith, low))))

first_marked : (p : ℕ → Bool) (m k n : ℕ) → m < k → with_id m (filter p (up k n)) ≡ m ∷ filter p (up k n)
first_marked p m k zero low = refl
first_marked p m k (suc n) low = elim (cases_Bool (p k)) [
  | inl has ↦ rw (has, lt-ltb m k low) refl
  | inr lacks ↦ rw lacks (first_marked p m (suc k) n (omega (arith, low)))
]

-- one more is marked
pub one_marked : (p : ℕ → Bool) (m k n : ℕ) → k ≤ m → m < k + n → filter (λ id. (m == id) || p id) (up k n) ≡ with_id m (filter p (up k n))
one_marked p m k zero low high = absurd (omega (arith, low, high))
one_marked p m k (suc n) low high = elim (cases_order m k) [
  | inl same ↦
      let rest : filter (λ id. (m == id) || p id) (up (suc k) n) ≡ filter p (up (suc k) n) = none_marked p m (suc k) n (omega (arith, same)) in
      rw (eq-eqb m k same) (ap (λ zs. k ∷ zs) rest ∙ here same (cases_Bool (p k)))
  | inr other ↦ elim other [
    | inl below ↦ absurd (omega (arith, below, low))
    | inr above ↦ elim (cases_Bool (p k)) [
      | inl has ↦ rw (has, ne_eqb m k (λ e. omega (arith, above, e)), le-ltb m k (omega (arith, above)), ne_eqb k m (λ e. omega (arith, above, e)))
          (ap (λ zs. k ∷ zs) (one_marked p m (suc k) n (omega (arith, above)) (omega (arith, high))))
      | inr lacks ↦ rw (lacks, ne_eqb m k (λ e. omega (arith, above, e))) (one_marked p m (suc k) n (omega (arith, above)) (omega (arith, high)))
    ]
  ]
]
  where
    here : m ≡ k → (p k ≡ true) ⊎ (p k ≡ false) → k ∷ filter p (up (suc k) n) ≡ with_id m (cond (p k) (k ∷ filter p (up (suc k) n)) (filter p (up (suc k) n)))
    here same (inl has) = rw (has, le-ltb m k (omega (arith, same)), eq-eqb k m (sym same)) refl
    here same (inr lacks) = rw (lacks) (ap (λ z. z ∷ filter p (up (suc k) n)) (sym same) ∙ sym (first_marked p m (suc k) n (omega (arith, same))))

same_filter : (p q : ℕ → Bool) (ids : List ℕ) → ((id : ℕ) → p id ≡ q id) → filter p ids ≡ filter q ids
same_filter p q [] h = refl
same_filter p q (id ∷ ids) h = rw (h id) (ap (λ zs. cond (q id) (id ∷ zs) zs) (same_filter p q ids h))

empty_filter : (p : ℕ → Bool) (ids : List ℕ) → ((id : ℕ) → p id ≡ false) → filter p ids ≡ []
empty_filter p [] h = refl
empty_filter p (id ∷ ids) h = rw (h id) (empty_filter p ids h)

-- the acks of another list say the same of a purge
pub same_marks : (xs ys : List Row) (number : ℕ) → ((id : ℕ) → list_any (is_ack number id) xs ≡ list_any (is_ack number id) ys) →
    marks_in xs number ≡ marks_in ys number
same_marks xs ys number h = same_filter (λ id. list_any (is_ack number id) xs) (λ id. list_any (is_ack number id) ys) possible_ids h

no_ack : (acks : List Row) (number id : ℕ) → AllByRecursion (λ a. (ack_number a == number) ≡ false) acks → list_any (is_ack number id) acks ≡ false
no_ack [] number id none = refl
no_ack (a ∷ acks) number id none = rw (none.0) (no_ack acks number id none.1)

pub no_marks : (acks : List Row) (number : ℕ) → AllByRecursion (λ a. (ack_number a == number) ≡ false) acks → marks_in acks number ≡ []
no_marks acks number none = empty_filter (λ id. list_any (is_ack number id) acks) possible_ids (λ id. no_ack acks number id none)

-- an ack more marks its member
pub marks_more : (xs acks : List Row) (number m : ℕ) → 1 ≤ m → m ≤ 16 →
    ((id : ℕ) → list_any (is_ack number id) xs ≡ ((m == id) || list_any (is_ack number id) acks)) → marks_in xs number ≡ with_id m (marks_in acks number)
marks_more xs acks number m low high h = same_filter (λ id. list_any (is_ack number id) xs) (λ id. (m == id) || list_any (is_ack number id) acks) possible_ids h
    ∙ one_marked (λ id. list_any (is_ack number id) acks) m 1 16 low (omega (arith, high))

among : (p : ℕ → Bool) (m k n : ℕ) → k ≤ m → m < k + n → p m ≡ true → is_among m (filter p (up k n)) ≡ true
among p m k zero low high has = absurd (omega (arith, low, high))
among p m k (suc n) low high has = elim (cases_order m k) [
  | inl same ↦ let here : p k ≡ true = ap p (sym same) ∙ has in rw (here, eq-eqb k m (sym same)) refl
  | inr other ↦ elim other [
    | inl below ↦ absurd (omega (arith, below, low))
    | inr above ↦ elim (cases_Bool (p k)) [
      | inl has_k ↦ rw (has_k, ne_eqb k m (λ e. omega (arith, above, e))) (among p m (suc k) n (omega (arith, above)) (omega (arith, high)) has)
      | inr lacks ↦ rw lacks (among p m (suc k) n (omega (arith, above)) (omega (arith, high)) has)
    ]
  ]
]

-- a member that is not marked has no ack
pub unmarked_has_none : (acks : List Row) (number m : ℕ) → 1 ≤ m → m ≤ 16 → is_among m (marks_in acks number) ≡ false → list_any (is_ack number m) acks ≡ false
unmarked_has_none acks number m low high off =
    false_from_ne_true _ (λ on. absurd (let yes = among (λ id. list_any (is_ack number id) acks) m 1 16 low (omega (arith, high)) on in
    let bad : true ≡ false = sym yes ∙ off in cc))

-- a member with no ack is not marked
pub none_among : (p : ℕ → Bool) (m : ℕ) (ids : List ℕ) → p m ≡ false → is_among m (filter p ids) ≡ false
none_among p m [] off = refl
none_among p m (id ∷ ids) off = elim (cases_Bool (p id)) [
  | inl has ↦ rw (has, ne_eqb id m (λ e. absurd (let bad : true ≡ false = sym has ∙ ap p e ∙ off in cc))) (none_among p m ids off)
  | inr lacks ↦ rw lacks (none_among p m ids off)
]
