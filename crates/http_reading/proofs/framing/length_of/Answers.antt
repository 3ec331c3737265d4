use Rattle.std.proofs.Common.{◌∙◌}
use Rattle.http_reading.proofs.Digits.{length_of-short}
use Rattle.http_reading.proofs.framing.length_of.Goals as goal

pub returns : goal.returns
returns c = c.number_up_to.ensures ∙ length_of-short c.args.value.now c.if-value-gt-MOST_DIGITS.false
