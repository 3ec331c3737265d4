use Rattle.std.proofs.Common.{rules, tests}
use Rattle.std.proofs.lemmas.Iterator.Consumers.{YieldsList-from_first}
use Rattle.std.proofs.lemmas.Iterator.Search.{any_from_yields_List}
use Rattle.http_lists.specs.Left.{members_left}
use Rattle.http_reading.specs.Directives.{is_bare}
use Rattle.http_reading.proofs.directives.has_member.Goals as goal

pub returns : goal.returns
returns c =
    any_from_yields_List (is_bare c.args.name.now) c.any.new.self _ _ c.any.ensures.ran
    (YieldsList-from_first (λ member. member.now) members_left _ c.members_of.ensures) (λ x b q k. search (rules, tests))
