use Rattle.std.proofs.Common.{rules, tests}
use Rattle.std.proofs.lemmas.Iterator.Consumers.{YieldsList-from_first}
use Rattle.std.proofs.lemmas.Iterator.Search.{find_from_yields_List}
use Rattle.reuse_rules.specs.Directives.{directive_text, is_called}
use Rattle.reuse_rules.specs.Left.{directives_left}
use Rattle.reuse_rules.proofs.lifetimes.first_called.Goals as goal

pub returns : goal.returns
returns c =
    find_from_yields_List (is_called c.args.name.now) c.find.new.self _ _ c.find.ensures.ran
    (YieldsList-from_first directive_text directives_left _ c.directives_of.ensures) (λ x b q k. search (rules, tests))
