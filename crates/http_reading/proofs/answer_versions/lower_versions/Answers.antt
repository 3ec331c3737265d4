use Rattle.std.proofs.Common.{sym, ◌∙◌, arith}
use Rattle.http_reading.proofs.Heads.{no_head}
use Rattle.http_reading.proofs.answer_versions.lower_versions.Goals as goal

pub returns : goal.returns
returns c =
    sym (no_head c.loop-heads.heads c.loop-heads.start c.loop-heads.octets (omega (arith, c.loop-heads-test.false))) ∙ c.loop-heads.invariant.known
