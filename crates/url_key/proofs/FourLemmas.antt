-- A test that is made four octets at a time says the same as one octet at a time: a list is its
-- first four octets and the rest.
use Rattle.std.proofs.Common.{◌≡◌, ℕ, ◌+◌, ◌-◌, ◌≤◌, ◌&&◌, Bool, true, List, ◌∷◌, length, take, drop, get_or, sym, ap, ◌∙◌, arith, take_all}
use Rattle.std.specs.List.{list_all, prefix_len}
use Rattle.std.proofs.lemmas.Bool.{and_parts}

passed : (r0 r1 r2 r3 : Bool) → (r0 && r1 && r2 && r3) ≡ true → (r0 ≡ true) × (r1 ≡ true) × (r2 ≡ true) × (r3 ≡ true)
passed r0 r1 r2 r3 h =
    let third = and_parts _ _ h in
    let second = and_parts _ _ third.0 in
    let first = and_parts _ _ second.0 in
    (first.0, first.1, second.1, third.1)

-- what stands behind the first four octets
abbrev pub behind_four : List ℕ → List ℕ
behind_four xs = take (length xs - 4) (drop 4 xs)

module _ (p : ℕ → Bool) where
  -- where the first four octets pass a test, all pass it if those behind do
  pub all_behind_four : (xs : List ℕ) (r0 r1 r2 r3 : Bool) → 4 ≤ length xs
      → r0 ≡ p (get_or xs 0 0) → r1 ≡ p (get_or xs 1 0) → r2 ≡ p (get_or xs 2 0) → r3 ≡ p (get_or xs 3 0) → (r0 && r1 && r2 && r3) ≡ true
      → list_all p xs ≡ list_all p (behind_four xs)
  all_behind_four (a ∷ b ∷ c ∷ d ∷ more) r0 r1 r2 r3 len e0 e1 e2 e3 h =
      let each = passed r0 r1 r2 r3 h in
      rw (sym e0 ∙ each.0, sym e1 ∙ each.1, sym e2 ∙ each.2, sym e3 ∙ each.3)
      (sym (ap (list_all p) (take_all (length (a ∷ b ∷ c ∷ d ∷ more) - 4) more (omega arith))))
  all_behind_four xs r0 r1 r2 r3 len e0 e1 e2 e3 h = absurd (omega arith)

  -- and the run of those that pass it is longer by four than the run behind
  pub run_behind_four : (xs : List ℕ) (r0 r1 r2 r3 : Bool) → 4 ≤ length xs
      → r0 ≡ p (get_or xs 0 0) → r1 ≡ p (get_or xs 1 0) → r2 ≡ p (get_or xs 2 0) → r3 ≡ p (get_or xs 3 0) → (r0 && r1 && r2 && r3) ≡ true
      → (prefix_len p xs ≡ prefix_len p (behind_four xs) + 4) × (length xs ≡ length (behind_four xs) + 4)
  run_behind_four (a ∷ b ∷ c ∷ d ∷ more) r0 r1 r2 r3 len e0 e1 e2 e3 h =
      let each = passed r0 r1 r2 r3 h in
      let whole = take_all (length (a ∷ b ∷ c ∷ d ∷ more) - 4) more (omega arith) in
      let run = ap (prefix_len p) whole in
      (rw (sym e0 ∙ each.0, sym e1 ∙ each.1, sym e2 ∙ each.2, sym e3 ∙ each.3) (omega arith), omega (arith, ap length whole))
  run_behind_four xs r0 r1 r2 r3 len e0 e1 e2 e3 h = absurd (omega arith)
