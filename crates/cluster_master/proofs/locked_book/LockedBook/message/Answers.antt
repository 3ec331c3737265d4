use Rattle.cluster_master.proofs.Clears.{clear_told}
use Rattle.cluster_master.proofs.locked_book.LockedBook.message.Goals as goal

pub returns-clause-clear : goal.returns-clause-clear
returns-clause-clear g c = clear_told c.message.result c.self.inside.book.master.state.purges c.args.number c.message.ensures.value
