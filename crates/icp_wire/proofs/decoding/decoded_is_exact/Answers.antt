use Rattle.icp_wire.proofs.Exactness.{decoded_exact}
use Rattle.icp_wire.proofs.decoding.decoded_is_exact.Goals as goal

pub returns : goal.returns
returns c = decoded_exact
