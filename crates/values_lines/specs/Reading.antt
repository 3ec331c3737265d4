-- What the taking of lines does to an input, of which some octets are held and others not yet read.
use Rattle.std.specs.Prelude.{◌≡◌, ◌≢◌, ℕ, ◌+◌, ◌-◌, ◌*◌, ◌<◌, ◌≤◌, List, [], ◌∷◌, ◌++◌, length, slice_index, Option, Some, None, true, false, ⊤}
use Rattle.std.specs.Io.KnownBytes.{Consumes}
use Rattle.values_lines.specs.declared.fault.RunFault.{RunFault}
use Rattle.values_lines.specs.declared.fault.RunFault.TheVariants.{LineTooLong}
use Rattle.values_lines.specs.Lines.{newline, lines_of, is_long, begins_long}

-- what is held grew by a piece that was read
abbrev pub Takes : List ℕ → Option (List ℕ) → List ℕ → Option (List ℕ) → Type 0
Takes old unread_old new unread_new = (piece : List ℕ) × (new ≡ old ++ piece) × Consumes unread_old unread_new piece

-- none of the first n octets is LF
abbrev pub HasNoEnd : ℕ → List ℕ → Type 0
HasNoEnd n text = (k : ℕ) → k < n → slice_index text k ≢ newline

-- the first LF follows n octets
abbrev pub EndsAt : ℕ → List ℕ → Type 0
EndsAt n text = (n < length text) × (slice_index text n ≡ newline) × HasNoEnd n text

-- the next line was taken: the lines of the input before are that line and the lines of the input
-- after
abbrev pub TakesLine : List ℕ → Option (List ℕ) → List ℕ → Option (List ℕ) → List ℕ → Type 0
TakesLine old None new unread line = ⊤
TakesLine old (Some xs) new None line = ⊥
TakesLine old (Some xs) new (Some ys) line = (lines_of (old ++ xs) ≡ line ∷ lines_of (new ++ ys))
    × (is_long line ≡ false)

-- no line was left
abbrev pub TakesNone : List ℕ → Option (List ℕ) → Type 0
TakesNone old None = ⊤
TakesNone old (Some xs) = lines_of (old ++ xs) ≡ []

-- `LineTooLong` comes only if the next line is too long
abbrev pub FailsToTake : List ℕ → Option (List ℕ) → RunFault → Type 0
FailsToTake old None fault = ⊤
FailsToTake old (Some xs) fault = fault ≡ LineTooLong → begins_long (lines_of (old ++ xs)) ≡ true

-- reads made and octets left are together no more than before: each read that counts took one octet
-- or more
abbrev pub IsCounted : ℕ → Option (List ℕ) → ℕ → Option (List ℕ) → Type 0
IsCounted old None new after = ⊤
IsCounted old (Some xs) new None = ⊥
IsCounted old (Some xs) new (Some ys) = new + length ys ≤ old + length xs

-- a bound on the number of lines that can still be taken: each needs one octet, and so many reads
-- of so many octets are left
abbrev pub most_left : ℕ → List ℕ → ℕ
most_left turns rest = (70000 - turns) * 65536 + length rest
