use Rattle.http_lists.specs.declared.members.Quoting.TheVariants.{Outside}
use Rattle.http_lists.proofs.Grammar.{made, alone}
use Rattle.http_lists.proofs.laws.members_are_exact.Goals as goal

pub returns-clause-made : goal.returns-clause-made
returns-clause-made c = made Outside

pub returns-clause-alone : goal.returns-clause-alone
returns-clause-alone c = alone Outside
