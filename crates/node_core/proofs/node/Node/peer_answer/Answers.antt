use Rattle.std.proofs.Common.{◌≡◌, true, false, sym}
use Rattle.values_tables.specs.Ranges.{is_foreign_id}
use Rattle.node_rules.specs.Arrivals.{peer_answer}
use Rattle.node_core.proofs.node.Node.peer_answer.Goals as goal

pub returns-then-is_foreign-clause-leads : goal.returns-then-is_foreign-clause-leads
unfolding peer_answer
returns-then-is_foreign-clause-leads g c = λ key_of.
    let foreign : is_foreign_id c.args.peer ≡ true = sym c.if-is_foreign.ensures in
    rw foreign

pub returns-clause-leads : goal.returns-clause-leads
unfolding peer_answer
returns-clause-leads g c = λ key_of.
    let member : is_foreign_id c.args.peer ≡ false = sym c.if-is_foreign.ensures in
    rw member (rw (c.unwrap_or-stamp.ensures, c.stamp.ensures) at (c.peer_answer_to.ensures.leads key_of))
