use Rattle.std.proofs.Common.{◌∙◌}
use Rattle.values_tables.specs.Ranges.{is_founding}
use Rattle.values_tables.proofs.Lists.{at_least_one}
use Rattle.values_tables.proofs.read.has_founding.Goals as goal

pub returns : goal.returns
returns c = c.any_founding.ensures ∙ at_least_one is_founding c.args.members.now
