-- What a step serves can be written to a member. Ages are those of served_age, which is at most
-- 2147483648 (steps_answer_asks of world_rules); a bare status is 502, 503 or 504 (steps_are_lawful of
-- node_rules). And what waits after a step is told by its block.
use Rattle.std.proofs.Common.{◌≡◌, ℕ, ◌≤◌, min, Option, Some, None, Result, Ok, Err, refl, sym, subst, rules}
use Rattle.node_rules.specs.declared.state.NodeState.{NodeState}
use Rattle.node_rules.specs.declared.event.Event.{Event}
use Rattle.node_rules.specs.declared.event.Event.TheVariants as event
use Rattle.node_rules.specs.declared.reply.Served.{Served}
use Rattle.node_rules.specs.declared.reply.Served.TheVariants.{Copy, Status}
use Rattle.node_rules.specs.declared.reply.Serve.{Serve}
use Rattle.node_rules.specs.declared.reply.Begin.{Begin}
use Rattle.node_rules.specs.declared.reply.Reply.{Reply}
use Rattle.node_rules.specs.declared.reply.StepFault.{StepFault}
use Rattle.node_rules.specs.State.{Setting}
use Rattle.node_rules.specs.Relation.{Steps}
use Rattle.node_rules.specs.Effect.{IsBareStatus, IsBareInServe}
use Rattle.node_rules.proofs.Lawful.{steps_are_lawful}
use Rattle.world_rules.specs.World.{asked_now, waits_now}
use Rattle.world_rules.specs.Asked.{block_begun, IsServedRightly, IsRightlyIn}
use Rattle.world_rules.proofs.Asked.{steps_answer_asks}
use Rattle.hierarchy_world.specs.Posted.{IsWritten, IsWrittenIn, IsWrittenBy, waits_by}

-- what begins to wait, by the member's request that the event is
pub waits_here : (e : Event ℕ) (id serial : ℕ) (b : Option Begin) → waits_now id e serial b ≡ waits_by id (asked_now e serial) (block_begun b)
waits_here (event.Client ask now) id serial b = refl
waits_here (event.Datagram from m now) id serial b = refl
waits_here (event.PeerAsk asker ask now) id serial None = refl
waits_here (event.PeerAsk asker ask now) id serial (Some b) = refl
waits_here (event.PeerAnswer at peer key answer tag now) id serial b = refl
waits_here (event.OriginAnswer at key answer now) id serial b = refl
waits_here (event.ForeignAnswer at peer key answer tag now) id serial b = refl
waits_here (event.FetchFailed at now) id serial b = refl
waits_here (event.Expired at now) id serial b = refl

at_most : (n most : ℕ) → min n most ≤ most
at_most n most = search rules

written : (s : NodeState ℕ) (e : Event ℕ) (waiter asker : Option ℕ) (served : Served ℕ) → IsServedRightly s e waiter asker served → IsBareStatus served →
    IsWritten served
written s e waiter asker (Copy c age) right bare = subst (λ n. n ≤ 2147483648) (sym right.0) (at_most _ 2147483648)
written s e waiter asker (Status status) right bare = bare

written_in : (s : NodeState ℕ) (e : Event ℕ) (serve : Option (Serve ℕ)) → IsRightlyIn s e serve → IsBareInServe serve → IsWrittenIn serve
written_in s e None right bare = tt
written_in s e (Some serve) right bare = written s e serve.waiter serve.asker serve.served right bare

-- what a reply serves can be written
pub step_written : (g : Setting) (s : NodeState ℕ) (e : Event ℕ) (mark : ℕ) (reply : Reply ℕ) (next : NodeState ℕ) → Steps g s e mark (Ok reply) next →
    IsWrittenIn reply.serve
step_written g s e mark reply next steps =
    written_in s e reply.serve (steps_answer_asks g s mark e (Ok reply) next steps).serves (steps_are_lawful g s e mark (Ok reply) next steps).statuses

-- what an outcome serves can be written
pub outcome_written : (g : Setting) (s : NodeState ℕ) (e : Event ℕ) (mark : ℕ) (outcome : Result (Reply ℕ) StepFault) (next : NodeState ℕ) →
    Steps g s e mark outcome next → IsWrittenBy outcome
outcome_written g s e mark (Ok reply) next steps = step_written g s e mark reply next steps
outcome_written g s e mark (Err fault) next steps = tt
