use Rattle.std.proofs.Common.{◌≡◌, ◌-◌, suc, true, None, drop, nat_eq, sym, subst, arith}
use Rattle.run_rules.specs.First.{last_of}
use Rattle.run_check.proofs.Fitting.{same_node, last_at}
use Rattle.run_check.proofs.alone.last_of.Goals as goal

pub returns-then-last-node : goal.returns-then-last-node
returns-then-last-node c =
    let rs = c.args.records.now in
    let at = c.loop-at.at in
    let r = c.index-records-at.result in
    let here : at ≡ suc (at - 1) = omega arith in
    let same : nat_eq r.node c.args.node ≡ true = same_node r.node c.args.node c.if-last-node.true in
    sym (last_at c.args.node (at - 1) r rs (omega arith) c.index-records-at.is same
    (subst (λ n. last_of c.args.node (drop n rs) ≡ None) here c.loop-at.invariant))
