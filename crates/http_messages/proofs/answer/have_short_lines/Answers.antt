use Rattle.std.proofs.Common.{sym, arith, map}
use Rattle.http_messages.specs.Field.{field_text, lines_length}
use Rattle.std.proofs.lemmas.Bool.{lt-leb}
use Rattle.http_messages.proofs.FieldLemmas.{sum_more, sum_over}
use Rattle.http_messages.proofs.answer.have_short_lines.Goals as goal

pub returns-in-None : goal.returns-in-None
returns-in-None c =
    let over = sum_over c.args.fields.now c.loop-field.field-index c.loop-field-test.true c.field-item.result c.field-item.is in
    sym (lt-leb (lines_length (map field_text c.args.fields.now)) 16000 (omega (arith, over, c.in-None.ensures, c.loop-field.invariant)))

pub loop-field-preserved : goal.loop-field-preserved
loop-field-preserved c =
    omega (
      arith,
      sum_more c.args.fields.now c.loop-field.field-index c.loop-field-test.true c.field-item.result c.field-item.is,
      c.in-Some.ensures,
      c.loop-field.invariant,
    )
