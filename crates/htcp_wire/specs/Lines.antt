-- What the lines of a text are: joined by CR LF they are the text, and none has a CR LF in it.
use Rattle.std.specs.Prelude.{◌≡◌, ◌≢◌, List, ℕ, [], ◌∷◌, ◌++◌}
use Rattle.std.specs.List.{AllByRecursion}
use Rattle.htcp_wire.specs.Numbers.{carriage_return, line_feed}

-- the lines, with CR LF between each two
abbrev pub joined : List (List ℕ) → List ℕ
joined [] = []
joined (line ∷ []) = line
joined (line ∷ next ∷ lines) = line ++ carriage_return ∷ line_feed ∷ joined (next ∷ lines)

-- no CR LF is in the line
pub record IsLine (line : List ℕ) : Type 0 where
  pub whole : (before after : List ℕ) → line ≢ before ++ carriage_return ∷ line_feed ∷ after

-- these are the lines of the text
pub record AreLines (text : List ℕ) (lines : List (List ℕ)) : Type 0 where
  pub some : lines ≢ []
  pub each : AllByRecursion IsLine lines
  pub parts : joined lines ≡ text
