use Rattle.std.proofs.Common.{arith}
use Rattle.htcp_wire.proofs.Decided.{ok_is_spelled, spelled_is_ok, memory_is_last}
use Rattle.htcp_wire.proofs.reading.decode.Goals as goal

pub returns-clause-spelled : goal.returns-clause-spelled
returns-clause-spelled c = ok_is_spelled c.args.octets.now c.read.result (λ i. omega (arith, c.type_inv.octets i)) c.read.ensures.ok

pub returns-clause-read : goal.returns-clause-read
returns-clause-read c = spelled_is_ok c.args.octets.now c.read.result c.read.ensures.ok c.read.ensures.err

pub returns-clause-memory : goal.returns-clause-memory
returns-clause-memory c = memory_is_last c.args.octets.now c.read.result c.read.ensures.err
