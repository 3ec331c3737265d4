use Rattle.std.proofs.Common.{◌≡◌, true, ◌∙◌, ◌^◌, ◌-◌, get_or, arith, rules}
use Rattle.std.proofs.lemmas.Bool.{and_from}
use Rattle.std.specs.Char.{is_ascii_digit}
use Rattle.std.proofs.lemmas.List.Folds.{list_all_more}
use Rattle.http_reading.proofs.Digits.{number_more}
use Rattle.http_reading.proofs.decimal.number_up_to.Goals as goal

pub loop-octet-preserved : goal.loop-octet-preserved
loop-octet-preserved c =
    let text = c.args.text.now in
    let place = c.loop-octet.octet-index in
    let digit : is_ascii_digit (get_or text place 0) ≡ true = search rules in
    record {
      digits = list_all_more is_ascii_digit text place 0 c.loop-octet-test.true ∙ and_from _ _ c.loop-octet.invariant.digits digit;
      value = rw (c.min-number.ensures, c.saturating_add.ensures, c.saturating_mul.ensures, c.from-digit.ensures)
          (number_more text place c.args.cap (2 ^ 64 - 1) c.loop-octet.number c.loop-octet-test.true (omega arith) digit c.loop-octet.invariant.value);
    }
