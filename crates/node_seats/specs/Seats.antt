-- What a seat knows, and what a call by it adds.
use Rattle.std.specs.Prelude.{◌≡◌, ◌⊎◌, ◌<◌, ℕ, ◌==◌, List, [], ◌∷◌, ◌++◌, length, slice_index_or, if◌then◌else◌, Result, Err}
use Rattle.node_rules.specs.declared.event.Event.{Event}
use Rattle.node_rules.specs.declared.reply.Reply.{Reply}
use Rattle.node_rules.specs.declared.reply.StepFault.{StepFault}
use Rattle.node_rules.specs.declared.reply.StepFault.TheVariants as fault
use Rattle.node_book.specs.declared.book.NodeEntry.{NodeEntry}

-- A seat: its number, and the history of the node as far as its thread knows it.
pub record SeatView : Type 0 where
  pub number : ℕ
  pub seen : List NodeEntry

-- The entries with a seat's number.
abbrev pub entries_of : ℕ → List NodeEntry → List NodeEntry
entries_of number [] = []
entries_of number (e ∷ entries) = if e.seat == number then e ∷ entries_of number entries else entries_of number entries

-- The history is longer than what the seat knows only by entries of other seats.
pub record IsNext (log : List NodeEntry) (seat : SeatView) : Type 0 where
  pub others : List NodeEntry
  pub log_is : log ≡ seat.seen ++ others
  pub apart : entries_of seat.number others ≡ []

-- The seat knows the history up to this entry, which comes after all that it knew. In between are entries of other
-- seats alone, so it is the seat's only new one. [Book 3]
pub record Adds (old : SeatView) (e : NodeEntry) (new : SeatView) : Type 0 where
  pub others : List NodeEntry
  pub apart : entries_of old.number others ≡ []
  pub number : new.number ≡ old.number
  pub seen : new.seen ≡ (old.seen ++ others) ++ e ∷ []

-- The entry of a call by this seat with this event.
abbrev pub IsEntryOf : ℕ → Event (Unit {0}) → NodeEntry → Type 0
IsEntryOf number event e = e ≡ record { seat = number; place = e.place; event = event; outcome = e.outcome }

-- The call is an entry of the history, and exactly its outcome is told. [Book 4]
pub record IsEntered (old : SeatView) (event : Event (Unit {0})) (told : Result (Reply (Unit {0})) StepFault)
    (new : SeatView) : Type 0 where
  pub entry : NodeEntry
  pub adds : Adds old entry new
  pub of_call : IsEntryOf old.number event entry
  pub told_of : told ≡ entry.outcome

-- No step was taken and nothing was entered: there was no memory, or the node is closed.
abbrev pub IsRefused : Result (Reply (Unit {0})) StepFault → Type 0
IsRefused told = (told ≡ Err fault.NoMemory) ⊎ (told ≡ Err fault.Closed)

-- What a call does to its seat: its entry is the last one that the seat knows; or no step was taken, and the seat stays
-- as it was. [Book 3]
abbrev pub Called : SeatView → Event (Unit {0}) → Result (Reply (Unit {0})) StepFault → SeatView → Type 0
Called old event told new = IsEntered old event told new ⊎ (IsRefused told × (new ≡ old))

-- The number of entries of each seat, by the seat's number.
abbrev pub AreCounts : List ℕ → List NodeEntry → Type 0
AreCounts counts log = (k : ℕ) (d : ℕ) → k < length counts → slice_index_or counts k d ≡ length (entries_of k log)
