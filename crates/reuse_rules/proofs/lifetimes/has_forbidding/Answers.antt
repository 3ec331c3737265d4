use Rattle.std.proofs.Common.{rules, tests}
use Rattle.std.proofs.lemmas.Iterator.Consumers.{YieldsList-from_first}
use Rattle.std.proofs.lemmas.Iterator.Search.{any_from_yields_List}
use Rattle.reuse_rules.specs.Directives.{directive_text}
use Rattle.reuse_rules.specs.Left.{directives_left}
use Rattle.reuse_rules.specs.Lifetime.{forbids_storing}
use Rattle.reuse_rules.proofs.lifetimes.has_forbidding.Goals as goal

pub returns : goal.returns
returns c =
    any_from_yields_List forbids_storing c.any.new.self _ _ c.any.ensures.ran
    (YieldsList-from_first directive_text directives_left _ c.directives_of.ensures) (λ x b q k. search (rules, tests))
