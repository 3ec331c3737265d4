use Rattle.std.proofs.Common.{None, refl, sym, subst, rules}
use Rattle.node_bytes.specs.Bytes.{SpellsBy, IsIcp, IsHtcp, HasFault}
use Rattle.node_bytes.proofs.Decoding.{event_is}
use Rattle.node_bytes.proofs.reading.event_of.Goals as goal
use Rattle.node_bytes.proofs.reading.event_of.Goals.{in-Icp+in-Ok, in-Htcp+in-Ok-read_htcp}

pub returns-clause-event : goal.returns-clause-event
returns-clause-event g c =
    let octets = c.args.octets.now in
    elim c.match-by.branch [
      | in-Icp+in-Ok w ↦ (
        c.match-by.message,
        subst (λ by. SpellsBy by octets c.match-by.message) (sym w.in-Icp.is)
            (subst (IsIcp octets) (sym w.message-is) w.in-Ok.ensures.ok),
        refl,
      )
      | in-Htcp+in-Ok-read_htcp w ↦ (
        c.match-by.message,
        subst (λ by. SpellsBy by octets c.match-by.message) (sym w.in-Htcp.is)
            (subst (IsHtcp octets) (sym w.message-is) w.in-Ok-read_htcp.ensures.ok),
        refl,
      )
    ]

pub returns-in-Err : goal.returns-in-Err
returns-in-Err g c =
    let fault : HasFault c.args.by c.args.octets.now = search rules in
    record { event = fault; decoded = event_is c.args.by c.args.from c.args.octets.now c.args.now None fault; memory = tt }

pub returns-in-Err-read_htcp : goal.returns-in-Err-read_htcp
returns-in-Err-read_htcp g c =
    let fault : HasFault c.args.by c.args.octets.now = search rules in
    record { event = fault; decoded = event_is c.args.by c.args.from c.args.octets.now c.args.now None fault; memory = tt }
