use Rattle.std.proofs.Common.{◌∙◌}
use Rattle.roster.specs.Judged.{clashes}
use Rattle.roster.proofs.Addresses.{doubles_seen}
use Rattle.roster.proofs.judge.double_cache.Goals as goal

pub returns : goal.returns
returns c = c.first_double.ensures ∙ doubles_seen clashes c.args.caches.now
