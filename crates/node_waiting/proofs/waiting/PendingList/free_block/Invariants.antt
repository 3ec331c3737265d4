use Rattle.node_waiting.proofs.Free.{Searching}
use Rattle.node_waiting.proofs.waiting.PendingList.free_block.Given as goal

-- the tries so far have found no free block
abbrev pub invariant-loop : goal.invariant-loop
invariant-loop g l = Searching l.self l.from l.block l.counter
