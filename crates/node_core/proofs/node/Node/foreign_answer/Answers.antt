use Rattle.std.proofs.Common.{◌≡◌, true, false, sym}
use Rattle.values_tables.specs.Ranges.{is_foreign_id}
use Rattle.node_rules.specs.Arrivals.{foreign_answer}
use Rattle.node_core.proofs.node.Node.foreign_answer.Goals as goal

pub returns-then-not-is_foreign-clause-leads : goal.returns-then-not-is_foreign-clause-leads
unfolding foreign_answer
returns-then-not-is_foreign-clause-leads g c = λ key_of.
    let member : is_foreign_id c.args.peer ≡ false = sym c.if-not-is_foreign.ensures in
    rw member

pub returns-clause-leads : goal.returns-clause-leads
unfolding foreign_answer
returns-clause-leads g c = λ key_of.
    let foreign : is_foreign_id c.args.peer ≡ true = sym c.if-not-is_foreign.ensures in
    rw foreign (c.peer_answer_to.ensures.leads key_of)
