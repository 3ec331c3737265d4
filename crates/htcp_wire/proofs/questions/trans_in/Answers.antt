use Rattle.std.proofs.Common.{◌∙◌}
use Rattle.htcp_wire.proofs.Readings.{trans_of}
use Rattle.htcp_wire.proofs.questions.trans_in.Goals as goal

pub returns-clause-spelled : goal.returns-clause-spelled
returns-clause-spelled c message spelled = c.trans.ensures ∙ trans_of c.args.octets.now message spelled
