use Rattle.std.proofs.Common.{Some, arith, ap, sym, ◌∙◌}
use Rattle.node_bytes.proofs.Decoding.{icp_decoded}
use Rattle.node_bytes.proofs.reading.read_icp.Goals as goal

pub new-requires : goal.new-requires
new-requires c = record {
  octets = c.args.octets.now;
  are_octets = λ i. omega (arith, c.type_inv.octets i);
  spell = icp_decoded c.args.octets.now c.in-Ok.message c.in-Ok.ensures.spelled;
}

pub returns-in-Ok-clause-ok : goal.returns-in-Ok-clause-ok
returns-in-Ok-clause-ok c = (c.in-Ok.message, c.new.ensures, c.in-Ok.ensures.spelled)

pub returns-in-Ok-clause-decoded : goal.returns-in-Ok-clause-decoded
returns-in-Ok-clause-decoded c = icp_decoded c.args.octets.now c.in-Ok.message c.in-Ok.ensures.spelled ∙ ap Some (sym c.new.ensures)
