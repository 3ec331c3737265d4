-- What one event does if neither memory nor a floor store fails, as a function, and its outcome.
use Rattle.std.specs.Prelude.{◌≡◌, ℕ, zero, suc, ◌+◌, ◌-◌, nat_lt, List, [], ◌∷◌, length, Option, Some, None, Result, Ok, Err, if◌then◌else◌}
use Rattle.node_rules.specs.declared.event.Event.{Event}
use Rattle.node_rules.specs.declared.reply.Begin.{Begin}
use Rattle.node_rules.specs.declared.reply.Begin.TheVariants as begin
use Rattle.node_rules.specs.declared.reply.Reply.{Reply}
use Rattle.node_rules.specs.declared.reply.StepFault.{StepFault}
use Rattle.node_rules.specs.State.{Stepped, quiet, setting}
use Rattle.node_rules.specs.Step.{step}
use Rattle.purge_rules.specs.declared.calls.Status.{Status}
use Rattle.values_tables.specs.declared.plain.Tables.{Tables}
use Rattle.world_rules.specs.declared.event.WorldEvent.{WorldEvent}
use Rattle.world_rules.specs.declared.outcome.Outcome.{Outcome}
use Rattle.world_rules.specs.declared.outcome.ActorFault.{ActorFault}
use Rattle.world_rules.specs.declared.outcome.ActorFault.TheVariants as actor
use Rattle.world_rules.specs.declared.outcome.WorldFault.{WorldFault}
use Rattle.world_rules.specs.World.{World, node_at, reply_in, after_node}
use Rattle.world_rules.specs.Consequence.{Seen, Replied, Issued, NotIssued, Admitted, NotAdmitted, Reported, Consequence, NodeSteps, Ends, Refused, consequence}
use Rattle.world_rules.specs.Run.{Happens}

-- this many numbers after the first
abbrev pub numbers_after : ℕ → ℕ → List ℕ
numbers_after first zero = []
numbers_after first (suc count) = (first + 1) ∷ numbers_after (first + 1) count

-- the number of the item that was sent, if any: the new length of its list
abbrev pub new_item : ℕ → ℕ → Option ℕ
new_item before after = if nat_lt before after then Some after else None

-- what a node replied; the empty reply if no node stepped
abbrev pub reply_of : Seen → Reply ℕ
reply_of (Replied id outcome) = reply_in outcome
reply_of _ = quiet

-- the number of the purge that was issued, if any
abbrev pub purge_of : Seen → Option ℕ
purge_of (Issued number) = Some number
purge_of _ = None

-- the number of the admission, if there was one
abbrev pub admitted_of : Seen → Option ℕ
admitted_of (Admitted number) = Some number
admitted_of _ = None

-- the number and the status that the master reported, if it did
abbrev pub status_of : Seen → Option (ℕ × Status)
status_of (Reported number status) = Some (number, status)
status_of _ = None

-- the serial of the round that begins, if any
abbrev pub round_in : Option Begin → Option ℕ
round_in (Some (begin.Round serial)) = Some serial
round_in _ = None

-- the serial of the origin read that begins, if any
abbrev pub read_in : Option Begin → Option ℕ
read_in (Some (begin.Read serial ask)) = Some serial
read_in _ = None

-- the fault of a node's step, if it was refused
abbrev pub fault_in : Result (Reply ℕ) StepFault → Option ActorFault
fault_in (Ok reply) = None
fault_in (Err fault) = Some (actor.Step fault)

-- the fault of a node's step or of the master, if it refused
abbrev pub fault_of : Seen → Option ActorFault
fault_of (Replied id outcome) = fault_in outcome
fault_of (NotIssued fault) = Some (actor.Master fault)
fault_of (NotAdmitted fault) = Some (actor.Master fault)
fault_of _ = None

-- the outcome of what was seen, if these were sent: a response, datagrams and a request, by numbers
abbrev pub outcome_with : Seen → Option ℕ → List ℕ → Option ℕ → Outcome
outcome_with seen answer sent ask = record {
  serve = (reply_of seen).serve;
  answer = answer;
  purge = purge_of seen;
  admitted = admitted_of seen;
  status = status_of seen;
  round = round_in (reply_of seen).begin;
  sent = sent;
  ask = ask;
  read = read_in (reply_of seen).begin;
  fault = fault_of seen;
}

-- the outcome of what was seen, where the old world became the new
abbrev pub outcome_of : World → World → Seen → Outcome
outcome_of old new seen =
    outcome_with seen (new_item (length old.answers) (length new.answers))
    (numbers_after (length old.datagrams) (length new.datagrams - length old.datagrams))
    (new_item (length old.asks) (length new.asks))

-- an event is applied, or is refused: then it changes nothing and has no place
pub data Applied : Type 0 where
  Did : (outcome : Outcome) (world : World) → Applied
  DidNot : (fault : WorldFault) → Applied

-- applied, with its outcome
abbrev pub did : World → Seen → World → Applied
did old seen new = Did (outcome_of old new seen) new

-- applied as a step of a node
abbrev pub did_step : Tables → World → ℕ → Event ℕ → ℕ → Stepped ℕ → Applied
did_step roster w id e serial r = did w (Replied id r.outcome) (after_node roster w id e serial r.outcome r.state)

-- what an event leads to if nothing fails
abbrev pub by_consequence : Tables → ℕ → World → Consequence → Applied
by_consequence roster place w (NodeSteps id e serial) = did_step roster w id e serial
    (step (setting roster id) (node_at w.states id) e place)
by_consequence roster place w (Ends seen new) = did w seen new
by_consequence roster place w (Refused fault) = DidNot fault

-- one event, applied at this place
abbrev pub apply : Tables → ℕ → World → WorldEvent → Applied
apply roster place w event = by_consequence roster place w (consequence roster w event)

-- what was applied is one way in which the event may happen, and only an event that the world
-- refuses was refused
abbrev pub IsDone : Tables → ℕ → World → WorldEvent → Applied → Type 0
IsDone roster place w event (Did outcome new) = (seen : Seen) × Happens roster place w event seen new
    × (outcome ≡ outcome_of w new seen)
IsDone roster place w event (DidNot fault) = consequence roster w event ≡ Refused fault
