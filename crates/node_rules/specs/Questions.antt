-- Requests that a cache answers from what it holds (RFC 2187, section 2): a sibling makes it fetch
-- nothing.
use Rattle.std.specs.Prelude.{◌≡◌, Bool, true, false, Option, None, Result, Ok, Err}
use Rattle.icp_wire.specs.declared.message.IcpOp.{IcpOp}
use Rattle.icp_wire.specs.declared.message.IcpOp.TheVariants as op
use Rattle.htcp_wire.specs.declared.message.Content.{Content}
use Rattle.htcp_wire.specs.declared.message.Content.TheVariants as content
use Rattle.node_rules.specs.declared.message.Message.{Message}
use Rattle.node_rules.specs.declared.message.Message.TheVariants as message
use Rattle.node_rules.specs.declared.state.NodeState.{NodeState}
use Rattle.node_rules.specs.declared.event.Event.{Event}
use Rattle.node_rules.specs.declared.event.Event.TheVariants as event
use Rattle.node_rules.specs.declared.reply.Begin.{Begin}
use Rattle.node_rules.specs.declared.reply.Reply.{Reply}
use Rattle.node_rules.specs.declared.reply.StepFault.{StepFault}
use Rattle.roster.specs.Lookups.{names_sibling}
use Rattle.node_rules.specs.State.{Setting}

-- An ICP QUERY.
abbrev pub is_query : IcpOp → Bool
is_query op.Query = true
is_query _ = false

-- An HTCP TST request.
abbrev pub is_tst : Content → Bool
is_tst (content.TstAsk desired spec) = true
is_tst _ = false

-- A QUERY or a TST.
abbrev pub is_question : Message → Bool
is_question (message.Icp m) = is_query m.op
is_question (message.Htcp m) = is_tst m.content

-- A QUERY or a TST of anyone, or a request of a member whose entry names this node a sibling.
abbrev pub is_from_sibling : {X : Type 0} → Setting → Event X → Bool
is_from_sibling g (event.PeerAsk asker ask now) = names_sibling g.roster asker g.id
is_from_sibling g (event.Datagram from m now) = is_question m
is_from_sibling g _ = false

-- What an outcome begins.
abbrev pub begun : {X : Type 0} → Result (Reply X) StepFault → Option Begin
begun (Ok reply) = reply.begin
begun (Err fault) = None

-- No round and no fetch begins, and the pending requests stay the same.
pub record BeginsNothing {X : Type 0} (s : NodeState X) (outcome : Result (Reply X) StepFault) (next : NodeState X) :
    Type 0 where
  pub begun_none : begun outcome ≡ None
  pub pending_same : next.pending ≡ s.pending
