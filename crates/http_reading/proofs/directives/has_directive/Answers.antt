use Rattle.std.proofs.Common.{rules, tests}
use Rattle.std.proofs.lemmas.Iterator.Consumers.{YieldsList-from_first}
use Rattle.std.proofs.lemmas.Iterator.Search.{any_from_yields_List}
use Rattle.http_reading.specs.Left.{values_left}
use Rattle.http_reading.specs.Directives.{has_member}
use Rattle.http_reading.proofs.directives.has_directive.Goals as goal

pub returns : goal.returns
returns c =
    any_from_yields_List (has_member c.args.name.now) c.any.new.self _ _ c.any.ensures.ran
    (YieldsList-from_first (λ value. value.now) values_left _ c.all_named.ensures) (λ x b q k. search (rules, tests))
