-- What was taken from a reader, by how many calls, and why the reader gave no more.
use Rattle.std.specs.Prelude.{◌≡◌, ℕ, ◌+◌, ◌*◌, ◌≤◌, Bool, true, false, IsTrue, List, [], ◌++◌, length, Option, Result, MatchResult}
use Rattle.std.specs.Io.KnownBytes.{Consumes}
use Rattle.http_messages.specs.declared.fault.FetchFault.{FetchFault}
use Rattle.http_messages.specs.declared.fault.FetchFault.TheVariants.{Io, EndOfInput, TooManyTurns, NoMemory}

-- the most calls of a reader for one message [HTTP 5]
abbrev pub most_turns : ℕ
most_turns = 70000

-- what contracts see of an intake: the octets read so far, and how many calls of the reader gave
-- them
pub record Held : Type 0 where
  pub octets : List ℕ
  pub calls : ℕ

-- nothing was read yet
abbrev pub nothing_held : Held
nothing_held = record { octets = []; calls = 0 }

-- octets grew by exactly what the reader lost; of a reader whose octets are not known, only that
-- they grew
abbrev pub Grows : Option (List ℕ) → Option (List ℕ) → List ℕ → List ℕ → Type 0
Grows reader_old reader_new old new = (piece : List ℕ) × (new ≡ old ++ piece) × Consumes reader_old reader_new piece

-- the octets read so far grew by exactly what the reader lost, and each call that gave octets is
-- counted: it gave 1 to 65,536 of them
abbrev pub Takes : Option (List ℕ) → Option (List ℕ) → Held → Held → Type 0
Takes reader_old reader_new old new = (piece : List ℕ) × (new.octets ≡ old.octets ++ piece)
    × Consumes reader_old reader_new piece × (new.calls ≤ old.calls + length piece)
    × (length piece + 65536 * old.calls ≤ 65536 * new.calls)

-- how many calls were made when reading stopped: those that gave octets, and with `Io` and
-- `EndOfInput` a last one, which failed or found the end of the input
abbrev pub calls_made : FetchFault → ℕ → ℕ
calls_made Io calls = calls + 1
calls_made EndOfInput calls = calls + 1
calls_made fault calls = calls

-- 70,000 calls at most were made
abbrev pub MakesFew : {A : Type 0} → Result A FetchFault → ℕ → Type 0
MakesFew result calls = MatchResult result (λ _. calls ≤ most_turns) (λ fault. calls_made fault calls ≤ most_turns)

-- the faults of calling a reader
abbrev pub is_read_fault : FetchFault → Bool
is_read_fault Io = true
is_read_fault EndOfInput = true
is_read_fault TooManyTurns = true
is_read_fault NoMemory = true
is_read_fault fault = false

-- the same, as a proposition
abbrev pub IsReadFault : FetchFault → Type 0
IsReadFault fault = IsTrue (is_read_fault fault)
