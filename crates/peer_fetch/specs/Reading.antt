-- How reading of a text that was written may fail.
use Rattle.std.specs.Prelude.{◌≡◌, ℕ, ◌<◌, ◌≤◌, ◌⊎◌, List, length}
use Rattle.http_messages.specs.declared.fault.FetchFault.{FetchFault}
use Rattle.http_messages.specs.declared.fault.FetchFault.TheVariants.{Io, TooManyTurns, NoMemory}
use Rattle.http_intake.specs.Reading.{Held, most_turns}

-- in a request: the reader failed, or there was no memory; its text is short, so that 70,000 calls
-- give all of it
abbrev pub StopsInAskText : FetchFault → Type 0
StopsInAskText fault = (fault ≡ Io) ⊎ (fault ≡ NoMemory)

-- in a response of this text: the same, or 70,000 calls gave fewer octets than the text has, and
-- at least one each
abbrev pub StopsInAnswerText : List ℕ → Held → FetchFault → Type 0
StopsInAnswerText text held fault = (fault ≡ Io) ⊎ (fault ≡ NoMemory)
    ⊎ ((fault ≡ TooManyTurns) × (held.calls ≡ most_turns) × (most_turns ≤ length held.octets)
    × (length held.octets < length text))
