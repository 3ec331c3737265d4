-- Lines of no word and of too many words.
use Rattle.std.proofs.Common.{◌≡◌, ℕ, ◌≤◌, ◌<◌, Bor, List, [], ◌∷◌, length, map, refl, arith}
use Rattle.cluster_console.specs.Command.{BadLine, command_of}

-- no line has no word
pub short_lines_are_bad : (words : List (Bor (List ℕ))) → length words < 1 → BadLine ≡ command_of (map (λ word. word.now) words)
short_lines_are_bad [] h = refl
short_lines_are_bad (a ∷ rest) h = absurd (omega arith)

-- no line has more than three
pub long_lines_are_bad : (words : List (Bor (List ℕ))) → 4 ≤ length words → BadLine ≡ command_of (map (λ word. word.now) words)
long_lines_are_bad [] h = absurd (omega arith)
long_lines_are_bad (a ∷ []) h = absurd (omega arith)
long_lines_are_bad (a ∷ b ∷ []) h = absurd (omega arith)
long_lines_are_bad (a ∷ b ∷ c ∷ []) h = absurd (omega arith)
long_lines_are_bad (a ∷ b ∷ c ∷ d ∷ rest) h = refl
