use Rattle.std.proofs.Common.{◌≡◌, true, ◌∙◌, get_or, rules}
use Rattle.std.proofs.lemmas.Bool.{and_from}
use Rattle.std.specs.Char.{is_ascii_digit}
use Rattle.std.proofs.lemmas.List.Folds.{list_all_more}
use Rattle.reuse_rules.proofs.Digits.{seconds_more}
use Rattle.reuse_rules.proofs.directive.seconds_of.Goals as goal

pub loop-octet-preserved : goal.loop-octet-preserved
loop-octet-preserved c =
    let text = c.args.text.now in
    let place = c.loop-octet.octet-index in
    let digit : is_ascii_digit (get_or text place 0) ≡ true = search rules in
    record {
      digits = list_all_more is_ascii_digit text place 0 c.loop-octet-test.true ∙ and_from _ _ c.loop-octet.invariant.digits digit;
      value = rw (c.min-seconds.ensures, c.from.ensures) (seconds_more text place c.loop-octet.seconds c.loop-octet-test.true digit
          c.loop-octet.invariant.value);
    }
