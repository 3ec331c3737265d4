-- The book of a node's steps.
use Rattle.std.specs.Prelude.{◌≡◌, ◌⊎◌, ℕ, ◌+◌, ◌≤◌, List, [], ◌∷◌, ◌++◌, length, Option, Some, None, Result, Ok, Err, IfOk}
use Rattle.floor_rules.specs.Floors.{FloorTable}
use Rattle.values_tables.specs.declared.plain.Tables.{Tables}
use Rattle.node_rules.specs.declared.event.Event.{Event}
use Rattle.node_rules.specs.declared.reply.Reply.{Reply}
use Rattle.node_rules.specs.declared.reply.StepFault.{StepFault}
use Rattle.node_rules.specs.declared.state.NodeState.{NodeState}
use Rattle.node_rules.specs.State.{Setting, setting}
use Rattle.node_rules.specs.Relation.{Steps}
use Rattle.node_core.specs.View.{NodeText}
use Rattle.node_bytes.specs.Nodes.{TakesStep}
use Rattle.node_bytes.specs.Stepping.{AnswersAsk}
use Rattle.node_book.specs.declared.book.NodeEntry.{NodeEntry}
use Rattle.node_book.specs.declared.book.BookFault.{BookFault}
use Rattle.node_book.specs.declared.book.BookFault.TheVariants as faults

-- What contracts see of a book: the node, its state when the book was opened, the entries so far, and
-- how many of them are on pages that were filed.
pub record BookView (S : Type 0) : Type 0 where
  pub node : NodeText (Unit {0}) S
  pub opening : NodeState (Unit {0})
  pub entries : List NodeEntry
  pub filed : ℕ

-- From the first state the entries are steps of the node, one after another, each with its own
-- outcome, and they lead to the second.
abbrev pub Replays : Setting → NodeState (Unit {0}) → List NodeEntry → NodeState (Unit {0}) → Type 0
Replays g old [] new = new ≡ old
Replays g old (e ∷ es) new = (middle : NodeState (Unit {0})) × Steps g old e.event tt e.outcome middle
    × Replays g middle es new

-- The entries of a book lead from its opening state to the node's state.
abbrev pub IsReplayed : {S : Type 0} → BookView S → Type 0
IsReplayed book = Replays (setting book.node.roster book.node.id) book.opening book.entries book.node.state

-- The entries lead from the opening state to the node's state, and at most 4,096 are on the open page.
pub record IsBook (roster : Tables) (id : ℕ) (state opening : NodeState (Unit {0})) (entries : List NodeEntry) (filed : ℕ) :
    Type 0 where
  pub begun : filed ≤ length entries
  pub most : length entries ≤ filed + 4096
  pub replay : Replays (setting roster id) opening entries state

-- What the caller is told of an outcome: the same reply, unless it could not be copied and only the
-- entry has it, or the same fault. [Book 4]
abbrev pub IsToldOf : Result (Reply (Unit {0})) StepFault → Result (Reply (Unit {0})) BookFault → Type 0
IsToldOf (Ok reply) told = (told ≡ Ok reply) ⊎ (told ≡ Err faults.ReplyLost)
IsToldOf (Err fault) told = told ≡ Err (faults.Step fault)

-- The outcome is the last entry's; None where there is no entry.
pub record IsLastOutcome (entries : List NodeEntry) (last : Option (Result (Reply (Unit {0})) StepFault)) : Type 0 where
  pub none : entries ≡ [] → last ≡ None
  pub some : (front : List NodeEntry) (e : NodeEntry) → entries ≡ front ++ e ∷ [] → last ≡ Some e.outcome

-- One entry stands behind the others, with the outcome that is told. The node has taken that step,
-- and its store is as the step leaves it. A request is served at once, or waits for what the step
-- begins. [Book 1]
pub record IsApplied {S : Type 0} (honest : Type 0) (may_find : FloorTable → Type 0) (have_risen : Type 0)
    (before after : BookView S) (seat place : ℕ) (e : Event (Unit {0})) (told : Result (Reply (Unit {0})) BookFault) :
    Type 0 where
  pub outcome : Result (Reply (Unit {0})) StepFault
  pub entries : after.entries ≡ before.entries ++ record { seat = seat; place = place; event = e; outcome = outcome }
      ∷ []
  pub opening : after.opening ≡ before.opening
  pub filed : after.filed ≡ before.filed
  pub told_of : IsToldOf outcome told
  pub step : TakesStep honest may_find have_risen before.node e outcome after.node
  pub asks : IfOk outcome (AnswersAsk e)
