use Rattle.std.proofs.Common.{◌≤◌, ◌<◌, length, arith}
use Rattle.cluster_waiting.specs.Waiting.{waiting}
use Rattle.cluster_waiting.proofs.Ascending.{one_more}
use Rattle.cluster_waiting.proofs.rounds.Rounds.begin.Goals as goal

pub invariant_of-self-2 : goal.invariant_of-self-2
invariant_of-self-2 c =
    let old = c.self.inside.rounds.items in
    let few : length old < 65536 = omega (arith, c.if-len-ge-MOST_ROUNDS.false, c.len.ensures) in
    let late : c.self.inside.latest ≤ c.max-until.result = omega (arith, c.max-until.ensures) in
    rw c.in_ok-push_back.ensures.items (one_more old (waiting c.max-until.result c.args.serial) c.self.inside.latest c.self.invariant.0 c.self.invariant.1 late
    few)
