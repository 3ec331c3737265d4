use Rattle.std.proofs.Common.{rules}
use Rattle.run_network.specs.Bags.{bag_of}
use Rattle.run_network.proofs.Finding.{numbered_on}
use Rattle.run_network.proofs.Sending.{acknowledgement}
use Rattle.run_network.proofs.letters.Letters.add_acknowledged.Goals as goal

pub returns-clause-acknowledged : goal.returns-clause-acknowledged
returns-clause-acknowledged c =
    numbered_on c.put.result (bag_of c.args.self.now.acknowledged) (bag_of c.put.new.self) (acknowledgement c.args.member c.args.code) c.from-number.result
    c.args.trans (search rules) c.put.ensures
