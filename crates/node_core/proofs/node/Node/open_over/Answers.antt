use Rattle.std.proofs.Common.{rules, false}
use Rattle.node_core.specs.View.{IsNode}
use Rattle.node_core.proofs.node.Node.open_over.Goals as goal

-- a node that has just opened keeps the invariant
pub invariant_of-result : goal.invariant_of-result
invariant_of-result g c =
    let node : IsNode c.args.roster c.args.id c.in_ok-copies.copies c.new.result 1 false = record {
      member = search rules;
      limits = search rules;
      block = record { first = search rules; last = search rules };
      none_waits = search rules;
    } in
    (node, search rules)
