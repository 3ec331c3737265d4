use Rattle.std.proofs.Common.{subst}
use Rattle.node_rules.specs.Texts.{IsAnswerable}
use Rattle.node_rules.specs.Spelled.{IsSpelled}
use Rattle.node_rules.proofs.Answerable.{spelled_answerable}
use Rattle.node_rules.proofs.message.Received.message.Goals as goal

pub returns-clause-value : goal.returns-clause-value
returns-clause-value c = c.self.view_is

pub returns-clause-spelled : goal.returns-clause-spelled
returns-clause-spelled c = subst IsSpelled c.self.view_is c.self.invariant

pub returns-clause-answerable : goal.returns-clause-answerable
returns-clause-answerable c = subst IsAnswerable c.self.view_is (spelled_answerable c.self.inside.message c.self.invariant)
