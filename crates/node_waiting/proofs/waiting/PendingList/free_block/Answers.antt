use Rattle.std.proofs.Common.{◌+◌, sym, subst}
use Rattle.node_waiting.proofs.Free.{Searching, begins, goes_on, found_here, none_found}
use Rattle.node_waiting.proofs.waiting.PendingList.free_block.Goals as goal

pub loop-init : goal.loop-init
loop-init g c = begins c.args.self.now c.args.from c.requires

pub returns-then-not-is_taken-clause-value : goal.returns-then-not-is_taken-clause-value
returns-then-not-is_taken-clause-value g c =
    found_here c.args.self.now c.args.from c.loop.block c.loop.counter c.len.result c.len.ensures.count c.if-len-ge-MOST_ASKS.false c.loop-test.true
    c.loop.invariant (sym c.if-not-is_taken.ensures.taken)

pub returns-then-not-is_taken-clause-block : goal.returns-then-not-is_taken-clause-block
returns-then-not-is_taken-clause-block g c = c.loop.invariant.is

pub loop-preserved : goal.loop-preserved
loop-preserved g c = subst (λ b. Searching c.args.self.now c.args.from b (c.loop.counter + 1)) (sym c.block_after-block.ensures.value)
    (goes_on c.args.self.now c.args.from c.loop.block c.loop.counter c.loop-test.true c.loop.invariant (sym c.if-not-is_taken.ensures.taken))

pub returns-clause-value : goal.returns-clause-value
returns-clause-value g c =
    none_found c.args.self.now c.args.from c.loop.block c.loop.counter c.len.result c.len.ensures.count c.if-len-ge-MOST_ASKS.false c.loop-test.false
    c.loop.invariant
