-- What a run over a script writes. `HasPlayed` and `HasPlayedUntil` are the contracts of `play` and
-- `play_until`.
use Rattle.std.specs.Prelude.{◌≡◌, ℕ, ◌≤◌, true, false, List, [], ◌∷◌, ◌++◌, length, take, drop, Option, Some, None, Result, MatchResult, ⊤}
use Rattle.std.specs.Io.KnownBytes.{Appends}
use Rattle.values_lines.specs.declared.fault.RunFault.{RunFault}
use Rattle.values_lines.specs.declared.fault.RunFault.TheVariants.{TooManyTurns, LineTooLong}
use Rattle.values_lines.specs.Lines.{newline, lines_of, lines_before, has_long_line, begins_long}
use Rattle.values_plain.specs.Writing.{AppendsFront}

-- from the first state the lines are answered one after another, and this text is the answers, each
-- followed by LF
abbrev pub Plays : {S : Type 0} → (S → List ℕ → List ℕ → S → Type 0) → S → List (List ℕ) → List ℕ → S → Type 0
Plays answers old [] text new = (text ≡ []) × (new ≡ old)
Plays {S} answers old (line ∷ lines) text new =
    (answer : List ℕ) × (rest : List ℕ) × (middle : S) × answers old line answer middle
    × (text ≡ answer ++ newline ∷ rest) × Plays answers middle lines rest new

-- all of these lines are answered and the answers written, and no line is too long
pub record PlaysAll {S : Type 0} (answers : S → List ℕ → List ℕ → S → Type 0) (start : S) (lines : List (List ℕ))
    (old new : Option (List ℕ)) (end : S) : Type 0 where
  pub text : List ℕ
  pub plays : Plays answers start lines text end
  pub written : Appends old new text
  pub short : has_long_line lines ≡ false

-- after a fault: some first lines, of those before the last one if one is named, were answered; a
-- front of the answers was written; and two faults have the cause that they name
pub record PlaysSome {S : Type 0} (answers : S → List ℕ → List ℕ → S → Type 0) (start : S) (last : Option (List ℕ))
    (input : List ℕ) (old new : Option (List ℕ)) (fault : RunFault) : Type 0 where
  pub count : ℕ
  pub text : List ℕ
  pub end : S
  pub within : count ≤ length (lines_before last (lines_of input))
  pub plays : Plays answers start (take count (lines_before last (lines_of input))) text end
  pub written : AppendsFront old new text
  -- the line after those that were answered is too long
  pub cause : fault ≡ LineTooLong → begins_long (drop count (lines_of input)) ≡ true
  -- 70,000 reads were made, each of which gave one octet or more
  pub turns : fault ≡ TooManyTurns → 70000 ≤ length input

-- what a run up to a last line, if one is named, leaves in its writer, if the octets of its reader
-- are known
abbrev pub HasPlayedBefore : {S : Type 0} → (S → List ℕ → List ℕ → S → Type 0) → Option (List ℕ) → S → Option (List ℕ) →
    Option (List ℕ) → Option (List ℕ) → Result (Unit {0}) RunFault → S → Type 0
HasPlayedBefore answers last start None old new r end = ⊤
HasPlayedBefore answers last start (Some input) old new r end =
    MatchResult r (λ _. PlaysAll answers start (lines_before last (lines_of input)) old new end)
    (λ fault. PlaysSome answers start last input old new fault)

-- a run over all lines
abbrev pub HasPlayed : {S : Type 0} → (S → List ℕ → List ℕ → S → Type 0) → S → Option (List ℕ) → Option (List ℕ) →
    Option (List ℕ) → Result (Unit {0}) RunFault → S → Type 0
HasPlayed answers start input old new r end = HasPlayedBefore answers None start input old new r end

-- a run over the lines before the first that is the last one
abbrev pub HasPlayedUntil : {S : Type 0} → (S → List ℕ → List ℕ → S → Type 0) → List ℕ → S → Option (List ℕ) →
    Option (List ℕ) → Option (List ℕ) → Result (Unit {0}) RunFault → S → Type 0
HasPlayedUntil answers last start input old new r end = HasPlayedBefore answers (Some last) start input old new r end
