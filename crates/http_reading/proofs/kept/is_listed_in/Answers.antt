use Rattle.std.proofs.Common.{ℕ, List, rules, tests}
use Rattle.std.specs.Str.{str_eq_ignore_ascii_case}
use Rattle.std.proofs.lemmas.Iterator.Splits.{YieldsList-from_slice_split}
use Rattle.std.proofs.lemmas.Iterator.Search.{any_from_yields_List}
use Rattle.http_lists.specs.Blanks.{trim}
use Rattle.http_reading.specs.Kept.{is_comma}
use Rattle.http_reading.proofs.kept.is_listed_in.Goals as goal

pub returns : goal.returns
returns c =
    any_from_yields_List (λ (part : List ℕ). str_eq_ignore_ascii_case (trim part) c.args.name.now) c.any.new.self _ _ c.any.ensures.ran
    (YieldsList-from_slice_split _ is_comma c.args.value.now c.split.ensures.rest c.split.ensures.done c.split.ensures.closure
    (λ x b q k. search (rules, tests)))
    (λ x b q k. search (rules, tests))
