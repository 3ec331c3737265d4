-- The record of a node's history, which is kept for a check.
use Rattle.std.specs.Prelude.{◌≡◌, ℕ, nat_lt, Bool, false, if◌then◌else◌, List, [], ◌++◌, Option, Some, None}
use Rattle.node_rules.specs.State.{setting}
use Rattle.node_core.specs.View.{NodeText}
use Rattle.node_book.specs.declared.book.NodeEntry.{NodeEntry}
use Rattle.node_book.specs.declared.record.Record.{Record}
use Rattle.node_book.specs.Book.{BookView, Replays}
use Rattle.node_seats.specs.Beginning.{Beginning}
use Rattle.node_seats.specs.declared.retention.Retention.{Retention}
use Rattle.node_seats.specs.declared.retention.Retention.TheVariants.{UpTo, Dropped}
use Rattle.node_seats.specs.declared.steps.Steps.{Steps}
use Rattle.node_seats.specs.declared.steps.Steps.TheVariants.{Recorded, Alone}

-- One page more is kept beside this many. [Cluster 5]
abbrev pub keeps : Retention → ℕ → Bool
keeps (UpTo most) kept = nat_lt kept most
keeps Dropped kept = false

-- The record is a part of the node's history: some entries lead from the node's beginning to the state at which the
-- record opens, and its own entries from there to the state at which it closes, all of them steps by the rules.
-- [Record 1]
abbrev pub IsPart : Option Beginning → Record → Type 0
IsPart None r = ⊥
IsPart (Some b) r = (before : List NodeEntry) × (r.node ≡ b.id)
    × Replays (setting b.roster b.id) b.opening before r.opening
    × Replays (setting b.roster b.id) r.opening r.entries r.closing

-- The record is the end of the node's history: the entries before its own lead from the node's beginning to the state at
-- which the record opens, and its own entries from there to the state at which it closes, all of them steps by the
-- rules. [Record 1]
abbrev pub IsEndOf : Option Beginning → List NodeEntry → Record → Type 0
IsEndOf None log r = ⊥
IsEndOf (Some b) log r = (before : List NodeEntry) × (log ≡ before ++ r.entries) × (r.node ≡ b.id)
    × Replays (setting b.roster b.id) b.opening before r.opening
    × Replays (setting b.roster b.id) r.opening r.entries r.closing

-- The record of all that is in a book.
abbrev pub record_of : {S : Type 0} → BookView S → Record
record_of book = record { node = book.node.id; opening = book.opening; entries = book.entries; closing = book.node.state }

-- The record of a node whose steps are recorded.
abbrev pub open_record : {S : Type 0} → Option (Steps S) → Option Record
open_record (Some (Recorded book)) = Some (record_of book)
open_record (Some (Alone node)) = None
open_record None = None

-- The record that is kept, if one is: beside so many full pages the open one is kept. [Cluster 5]
abbrev pub kept_record : {S : Type 0} → Retention → ℕ → Option (Steps S) → Option Record
kept_record retention pages steps = if keeps retention pages then open_record steps else None

-- The record that is kept after this one was taken: it opens where that one closed, and has no entries. [Record 1]
abbrev pub next_record : Option Record → Option Record
next_record None = None
next_record (Some r) = Some (record { node = r.node; opening = r.closing; entries = []; closing = r.closing })

-- What is known of a node that is held: its whole history, and the record that is kept of the history's end.
pub record HeldView : Type 0 where
  pub log : List NodeEntry
  pub kept : Option Record

-- The same after the record was taken.
abbrev pub taken_from : HeldView → HeldView
taken_from held = record held { kept = next_record held.kept }

-- The node is the one of this beginning.
abbrev pub IsOf : {S : Type 0} → NodeText (Unit {0}) S → Beginning → Type 0
IsOf node b = (node.roster ≡ b.roster) × (node.id ≡ b.id)

-- The history is what came before the book was opened, and the entries of the book.
pub record IsRecordedIn {S : Type 0} (b : Beginning) (log : List NodeEntry) (book : BookView S) : Type 0 where
  pub node : IsOf book.node b
  pub before : List NodeEntry
  pub began : Replays (setting b.roster b.id) b.opening before book.opening
  pub log_is : log ≡ before ++ book.entries

-- The history leads to the state of the node. Where it is recorded, its end is in the book.
abbrev pub StandsOn : {S : Type 0} → Beginning → List NodeEntry → Option (Steps S) → Type 0
StandsOn b log None = Unit {0}
StandsOn b log (Some (Recorded book)) = IsRecordedIn b log book
StandsOn b log (Some (Alone node)) = IsOf node b × Replays (setting b.roster b.id) b.opening log node.state

-- The same for a beginning that is known.
abbrev pub Stands : {S : Type 0} → Option Beginning → List NodeEntry → Option (Steps S) → Type 0
Stands None log steps = ⊥
Stands (Some b) log steps = StandsOn b log steps
