use Rattle.std.proofs.Common.{sym, ap, ◌∙◌}
use Rattle.roster.specs.Lookups.{member_at}
use Rattle.node_rules.specs.Messages.{protocol_of as udp_of}
use Rattle.world_rules.specs.World.{Datagram}
use Rattle.run_network.proofs.Sending.{to_member_on}
use Rattle.run_network.proofs.letters.Letters.send.Goals as goal

pub returns-in-Some : goal.returns-in-Some
returns-in-Some c =
    let d : Datagram = record { sender = c.args.sender; receiver = c.args.receiver; message = c.args.message.now } in
    to_member_on c.add_letter.result c.args.roster.now d c.args.self.now c.add_letter.new.self c.in-Some.member (sym c.is_master.ensures ∙ c.if-is_master.false)
    (ap (member_at c.args.roster.now c.args.receiver) (ap udp_of (sym c.message-text.ensures.value) ∙ sym c.protocol.ensures) ∙ sym c.in-Some.ensures)
    c.add_letter.ensures.letters c.add_letter.ensures.acknowledged
