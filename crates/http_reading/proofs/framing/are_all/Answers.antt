use Rattle.std.proofs.Common.{bytes_eq, refl, rules, tests}
use Rattle.std.proofs.lemmas.Iterator.Consumers.{YieldsList-from_first}
use Rattle.std.proofs.lemmas.Iterator.Search.{all_from_yields_List}
use Rattle.http_reading.specs.Left.{values_left}
use Rattle.http_reading.proofs.framing.are_all.Goals as goal

pub returns : goal.returns
returns c =
    all_from_yields_List (λ other. bytes_eq other c.args.same.now) c.all.new.self _ _ c.all.ensures.ran
    (YieldsList-from_first (λ value. value.now) values_left _ refl) (λ x b q k. search (rules, tests))
