use Rattle.std.proofs.Common.{rules, tests}
use Rattle.std.proofs.lemmas.Iterator.Consumers.{YieldsList-from_first}
use Rattle.std.proofs.lemmas.Iterator.Search.{any_from_yields_List}
use Rattle.http_reading.specs.Left.{values_left}
use Rattle.http_reading.specs.Kept.{is_listed_in}
use Rattle.http_reading.proofs.kept.is_of_connection.Goals as goal

pub returns : goal.returns
returns c =
    any_from_yields_List (is_listed_in c.args.name.now) c.any.new.self _ _ c.any.ensures.ran
    (YieldsList-from_first (λ value. value.now) values_left _ c.all_named.ensures) (λ x b q k. search (rules, tests))
