use Rattle.icp_wire.proofs.Zeros.{found_first}
use Rattle.icp_wire.proofs.reading.first_zero.Goals as goal

pub returns : goal.returns
returns c = found_first c.args.text.now c.memchr.result c.memchr.ensures
