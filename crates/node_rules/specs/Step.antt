-- One step of a node as a function: what it does where neither memory nor the floor store fails.
use Rattle.std.specs.Prelude.{Bool, true, false, Some, None}
use Rattle.node_rules.specs.declared.state.NodeState.{NodeState}
use Rattle.node_rules.specs.declared.event.Event.{Event}
use Rattle.node_rules.specs.declared.event.Event.TheVariants as event
use Rattle.node_rules.specs.declared.reply.StepFault.TheVariants.{Closed}
use Rattle.node_rules.specs.State.{Setting, Stepped, refuses}
use Rattle.node_rules.specs.Asks.{ask_comes}
use Rattle.node_rules.specs.Datagrams.{datagram}
use Rattle.node_rules.specs.Arrivals.{peer_answer, origin_answer, foreign_answer, fetch_failed, round_expired}

-- The step of an open node, by the event.
unfoldable pub open_step : {X : Type 0} → Setting → NodeState X → X → Event X → Stepped X
open_step g s mark (event.Client ask now) = ask_comes g s None ask now mark
open_step g s mark (event.Datagram from message now) = datagram g s from now mark message
open_step g s mark (event.PeerAsk asker ask now) = ask_comes g s (Some asker) ask now mark
open_step g s mark (event.PeerAnswer serial peer key answer tag now) =
    peer_answer g s serial peer key answer tag now mark
open_step g s mark (event.OriginAnswer serial key answer now) = origin_answer g s serial key answer now mark
open_step g s mark (event.ForeignAnswer serial peer key answer tag now) =
    foreign_answer g s serial peer key answer tag now mark
open_step g s mark (event.FetchFailed serial now) = fetch_failed g s serial now mark
open_step g s mark (event.Expired serial now) = round_expired g s serial now mark

-- The step of a node that is closed, or that is not. [Refusal 5]
unfoldable pub step_if : {X : Type 0} → Setting → NodeState X → Event X → X → Bool → Stepped X
step_if g s e mark true = refuses s Closed
step_if g s e mark false = open_step g s mark e

-- The step. A closed node answers Closed. An origin read that the step begins bears the mark.
unfoldable pub step : {X : Type 0} → Setting → NodeState X → Event X → X → Stepped X
step g s e mark = step_if g s e mark s.closed
