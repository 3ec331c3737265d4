use Rattle.std.proofs.Common.{arith}
use Rattle.std.proofs.lemmas.Grind.{common_steps}
use Rattle.http_reading.proofs.Heads.{no_octet}
use Rattle.http_reading.proofs.answer_versions.from_empty_line.Goals as goal

pub returns-clause-value : goal.returns-clause-value
returns-clause-value c = no_octet c.loop-octet.rest.now c.args.text.now (grind (arith, common_steps)) c.loop-octet.invariant.found
