use Rattle.std.proofs.Common.{sym, ◌∙◌}
use Rattle.node_rules.specs.Datagrams.{datagram}
use Rattle.node_core.proofs.Outcomes.{without_fault_by}
use Rattle.node_core.proofs.node.Node.datagram.Goals as goal

pub returns-in-Htcp-clause-leads : goal.returns-in-Htcp-clause-leads
unfolding datagram
returns-in-Htcp-clause-leads g c key_of gives =
    rw (sym c.into_message.ensures.value ∙ c.in-Htcp.is) (c.htcp.ensures.leads key_of gives)

pub returns-in-Icp-clause-cause : goal.returns-in-Icp-clause-cause
returns-in-Icp-clause-cause g c = without_fault_by _ _ _ _ _ _ c.icp.ensures.leads
