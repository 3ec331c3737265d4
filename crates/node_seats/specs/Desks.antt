-- What contracts see of a node under its lock.
use Rattle.std.specs.Prelude.{◌≡◌, ◌<◌, ◌+◌, ℕ, List, [], ◌∷◌, ◌++◌, length, slice_index_or, Option, Some, None, Result, IfOk}
use Rattle.node_core.specs.View.{IsSameMember, NodeText}
use Rattle.node_book.specs.Book.{BookView, IsReplayed}
use Rattle.node_book.specs.Closed.{IsRecorded}
use Rattle.node_book.specs.declared.book.NodeEntry.{NodeEntry}
use Rattle.node_book.specs.declared.record.Record.{Record}
use Rattle.node_seats.specs.declared.retention.Retention.{Retention}
use Rattle.node_seats.specs.declared.steps.Steps.{Steps}
use Rattle.node_seats.specs.declared.steps.Steps.TheVariants.{Recorded, Alone}
use Rattle.floor_rules.specs.Floors.{FloorTable}
use Rattle.node_bytes.specs.Nodes.{TakesStep}
use Rattle.node_bytes.specs.Stepping.{AnswersAsk}
use Rattle.node_rules.specs.declared.event.Event.{Event}
use Rattle.node_rules.specs.declared.reply.Reply.{Reply}
use Rattle.node_rules.specs.declared.reply.StepFault.{StepFault}
use Rattle.node_seats.specs.Records.{HeldView, kept_record}
use Rattle.node_seats.specs.declared.entering.Told.{Told}
use Rattle.node_seats.specs.declared.entering.Told.TheVariants.{Copied, InBook}
use Rattle.node_seats.specs.Seats.{Called, IsEntryOf, SeatView}

-- The history, the node with its book if its steps are recorded, how many pages of the book are full, how many octets
-- the events of the open page have brought along, and what becomes of the record.
pub record DeskView (S : Type 0) : Type 0 where
  pub log : List NodeEntry
  pub steps : Option (Steps S)
  pub pages : ℕ
  pub octets : ℕ
  pub retention : Retention

-- What a caller may know of it.
abbrev pub held_of : {S : Type 0} → DeskView S → HeldView
held_of desk = record { log = desk.log; kept = kept_record desk.retention desk.pages desk.steps }

-- Another step can be entered. [Book 5]
abbrev pub HasRoom : {S : Type 0} → ℕ → Option (Steps S) → Type 0
HasRoom octets (Some (Recorded book)) = (octets < 4194304) × (length book.entries < book.filed + 4096)
HasRoom octets (Some (Alone node)) = Unit {0}
HasRoom octets None = Unit {0}

-- The book and the history are longer by the same entries: one, or none.
pub record IsEnteredIn {S : Type 0} (before after : BookView S) (old new : List NodeEntry) : Type 0 where
  pub more : List NodeEntry
  pub entries : after.entries ≡ before.entries ++ more
  pub log : new ≡ old ++ more
  pub opening : after.opening ≡ before.opening
  pub same : IsSameMember before.node after.node

-- The seat with this number, which knows nothing yet.
abbrev pub new_seat : ℕ → SeatView
new_seat number = record { number = number; seen = [] }

-- These are the seats of a node before its first step, by their numbers from 0.
abbrev pub AreNewSeats : ℕ → List SeatView → Type 0
AreNewSeats count seats = (length seats ≡ count)
    × ((k : ℕ) (d : SeatView) → k < length seats → slice_index_or seats k d ≡ new_seat k)

-- The open page is filed, if the steps are recorded. Nothing else changes.
abbrev pub with_page_filed : {S : Type 0} → Option (Steps S) → Option (Steps S)
with_page_filed (Some (Recorded book)) = Some (Recorded (record book { filed = length book.entries }))
with_page_filed (Some (Alone node)) = Some (Alone node)
with_page_filed None = None

-- The book has ended its record, which is taken out. Without a book there is none, and nothing changes.
abbrev pub IsEndedIn : {S : Type 0} → Option (Steps S) → Option Record → Option (Steps S) → Type 0
IsEndedIn (Some (Recorded book)) taken new = (done : Record) × IsRecorded book done × (taken ≡ Some done)
    × (new ≡ Some (Recorded (record { node = book.node; opening = book.node.state; entries = []; filed = 0 })))
IsEndedIn (Some (Alone node)) taken new = (taken ≡ None) × (new ≡ Some (Alone node))
IsEndedIn None taken new = (taken ≡ None) × (new ≡ None)

-- The node is without its book, whose entries had led to the node's state.
abbrev pub IsWithoutBook : {S : Type 0} → Option (Steps S) → Option (Steps S) → Type 0
IsWithoutBook (Some (Recorded book)) new = (new ≡ Some (Alone book.node)) × IsReplayed book
IsWithoutBook (Some (Alone node)) new = new ≡ Some (Alone node)
IsWithoutBook None new = new ≡ None

-- The node before its first step, with or without a book.
abbrev pub AreNewSteps : {S : Type 0} → NodeText (Unit {0}) S → Steps S → Type 0
AreNewSteps node (Recorded book) = book ≡ record { node = node; opening = node.state; entries = []; filed = 0 }
AreNewSteps node (Alone alone) = alone ≡ node

-- What is told of an outcome that is entered in a book: the outcome; or that the book has it.
abbrev pub IsToldOf : Result (Reply (Unit {0})) StepFault → Told → Type 0
IsToldOf outcome (Copied told) = told ≡ outcome
IsToldOf outcome InBook = Unit {0}

-- The node has taken the step of a call, which is entered in the book behind the others, and its outcome is what is
-- told, or the book has it. A request is served at once, or waits for what the step begins.
pub record IsTakenIn {S : Type 0} (honest : Type 0) (may_find : FloorTable → Type 0) (have_risen : Type 0)
    (before after : BookView S) (seat : ℕ) (event : Event (Unit {0})) (told : Told) : Type 0 where
  pub entry : NodeEntry
  pub of_call : IsEntryOf seat event entry
  pub entries : after.entries ≡ before.entries ++ entry ∷ []
  pub opening : after.opening ≡ before.opening
  pub told_of : IsToldOf entry.outcome told
  pub step : TakesStep honest may_find have_risen before.node event entry.outcome after.node
  pub asks : IfOk entry.outcome (AnswersAsk event)

-- The last entry of the book is the one of the call, as the seat knows it.
pub record IsLastIn {S : Type 0} (book : BookView S) (old : SeatView) (event : Event (Unit {0})) (new : SeatView) :
    Type 0 where
  pub front : List NodeEntry
  pub entry : NodeEntry
  pub entries : book.entries ≡ front ++ entry ∷ []
  pub called : Called old event entry.outcome new
  pub asks : IfOk entry.outcome (AnswersAsk event)

-- What a call does to its seat and is told, where the book may have the outcome.
abbrev pub IsCalledIn : {S : Type 0} → BookView S → SeatView → Event (Unit {0}) → SeatView → Told → Type 0
IsCalledIn book old event new (Copied outcome) = Called old event outcome new × IfOk outcome (AnswersAsk event)
IsCalledIn book old event new InBook = IsLastIn book old event new

-- The outcome is the last entry's, if there is a book with an entry.
abbrev pub IsLastTold : {S : Type 0} → Option (Steps S) → Result (Reply (Unit {0})) StepFault → Type 0
IsLastTold (Some (Recorded book)) outcome = (front : List NodeEntry) (e : NodeEntry) → book.entries ≡ front ++ e ∷ [] →
    outcome ≡ e.outcome
IsLastTold (Some (Alone node)) outcome = Unit {0}
IsLastTold None outcome = Unit {0}
