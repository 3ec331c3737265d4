use Rattle.run_network.proofs.Waiting.{forgotten}
use Rattle.run_network.proofs.waits.Waits.forget.Goals as goal

pub returns : goal.returns
returns c = forgotten c.args.self.now (record { nodes = c.remove.new.self }) c.args.node c.remove.ensures.updates.0
