use Rattle.std.proofs.Common.{List, sym, ◌∙◌, ap}
use Rattle.node_rules.specs.Messages.{protocol_of}
use Rattle.node_rules.specs.Spelled.{decoded_by}
use Rattle.world_rules.specs.World.{Datagram, item}
use Rattle.world_rules.specs.Consequence.{delivered, octets_reach}
use Rattle.hierarchy_world.specs.Parts.{world_of}
use Rattle.hierarchy_world.proofs.Reaching.{taken_as, mail_comes}
use Rattle.hierarchy_world.proofs.parts.Parts.datagram.Goals as goal

pub returns : goal.returns
returns c =
    let old = c.args.self.now in
    let by = c.protocol-by.result in
    let octets = c.as_slice-2.result.now in
    taken_as old c.hear.new.self (octets_reach (world_of old) c.datagram.inside.sender c.in-Some-member_at.id (decoded_by by octets))
    (delivered old.roster (world_of old) (item old.datagrams.items c.args.number))
    c.hear.result
    (mail_comes old.roster (world_of old) (item old.datagrams.items c.args.number) c.in-Some.datagram.now c.datagram.inside.sender c.datagram.inside.receiver
    c.datagram.inside.message c.message-message.result.now
    by c.in-Some-member_at.id octets
    (c.in-Some.ensures ∙ ap (λ (l : List Datagram). item l c.args.number) c.as_slice.ensures.value) c.datagram.view_is c.message-message.ensures.value
    (sym c.is_master.ensures ∙ c.if-is_master.false) c.protocol-by.ensures
    c.in-Some-member_at.ensures (ap (decoded_by (protocol_of c.datagram.inside.message)) c.as_slice-2.ensures.value ∙ c.in_ok-octets.ensures.read))
    c.hear.ensures
