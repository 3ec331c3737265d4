-- What a run has done so far: the invariant of the loop of `play_before`.
use Rattle.std.specs.Prelude.{◌≡◌, ℕ, false, List, ◌++◌, Option, Some, None, ⊤}
use Rattle.std.specs.Io.KnownBytes.{Appends}
use Rattle.values_lines.specs.Lines.{lines_of, lines_before, has_long_line}
use Rattle.values_lines.specs.Script.{Plays}

-- the lines taken so far, none of which is the last one, are answered; the lines of the rest of the
-- input are left; the last part of the answers is not yet written
pub record PlaysOn {S : Type 0} (answers : S → List ℕ → List ℕ → S → Type 0) (last : Option (List ℕ)) (start now : S)
    (input rest : List ℕ) (old new : Option (List ℕ)) (unwritten : List ℕ) : Type 0 where
  pub taken : List (List ℕ)
  pub done : List ℕ
  pub lines : lines_of input ≡ taken ++ lines_of rest
  pub before : lines_before last (lines_of input) ≡ taken ++ lines_before last (lines_of rest)
  pub short : has_long_line taken ≡ false
  pub plays : Plays answers start taken (done ++ unwritten) now
  pub written : Appends old new done

-- the same, if the octets of the input are known
abbrev pub Playing : {S : Type 0} → (S → List ℕ → List ℕ → S → Type 0) → Option (List ℕ) → S → S → Option (List ℕ) →
    List ℕ → Option (List ℕ) → Option (List ℕ) → Option (List ℕ) → List ℕ → Type 0
Playing answers last start now None held rest old new unwritten = ⊤
Playing answers last start now (Some input) held None old new unwritten = ⊥
Playing answers last start now (Some input) held (Some rest) old new unwritten =
    PlaysOn answers last start now input (held ++ rest) old new unwritten
