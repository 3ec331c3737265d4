use Rattle.std.proofs.Common.{sym}
use Rattle.world_rules.specs.World.{Datagram}
use Rattle.run_network.proofs.Sending.{to_master_on}
use Rattle.run_network.proofs.letters.Letters.tell_master.Goals as goal

pub returns-in-Some-Some : goal.returns-in-Some-Some
returns-in-Some-Some c =
    let d : Datagram = record { sender = c.args.sender; receiver = c.args.receiver; message = c.args.message.now } in
    to_master_on c.add_acknowledged.result c.args.roster.now d c.args.self.now c.add_acknowledged.new.self c.in-Some-Some.member c.in-Some-Some.trans
    c.in-Some-Some.code c.requires
    (sym c.in-Some-Some.ensures') (sym c.in-Some-Some.ensures) c.add_acknowledged.ensures.letters c.add_acknowledged.ensures.acknowledged
