use Rattle.std.proofs.Common.{◌∙◌}
use Rattle.values_tables.proofs.Lists.{has_only-keys}
use Rattle.values_tables.proofs.entries.has_only.Goals as goal

pub returns : goal.returns
returns c = c.are_keys.ensures ∙ has_only-keys _ c.args.table.now.entries
