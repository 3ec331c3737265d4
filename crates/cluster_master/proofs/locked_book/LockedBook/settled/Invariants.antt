use Rattle.std.proofs.Common.{◌≡◌, take}
use Rattle.cluster_master.specs.Settled.{settled_in}
use Rattle.cluster_master.proofs.locked_book.LockedBook.settled.Given as goal

abbrev pub invariant-loop-purge : goal.invariant-loop-purge
invariant-loop-purge g l = l.numbers.items ≡ settled_in l.self.book.master.nodes l.self.book.master.state.purges
    (take l.purge-index l.self.book.master.state.purges.pending)
