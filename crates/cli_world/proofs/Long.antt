-- Lines of too many words.
use Rattle.std.proofs.Common.{◌≡◌, ℕ, ◌≤◌, Bor, List, [], ◌∷◌, length, map, refl, arith}
use Rattle.cli_world.specs.Command.{BadLine, command_of}

-- no line has more than five words
pub long_lines_are_bad : (words : List (Bor (List ℕ))) → 6 ≤ length words → BadLine ≡ command_of (map (λ word. word.now) words)
long_lines_are_bad [] h = absurd (omega arith)
long_lines_are_bad (a ∷ []) h = absurd (omega arith)
long_lines_are_bad (a ∷ b ∷ []) h = absurd (omega arith)
long_lines_are_bad (a ∷ b ∷ c ∷ []) h = absurd (omega arith)
long_lines_are_bad (a ∷ b ∷ c ∷ d ∷ []) h = absurd (omega arith)
long_lines_are_bad (a ∷ b ∷ c ∷ d ∷ e ∷ []) h = absurd (omega arith)
long_lines_are_bad (a ∷ b ∷ c ∷ d ∷ e ∷ f ∷ rest) h = refl
