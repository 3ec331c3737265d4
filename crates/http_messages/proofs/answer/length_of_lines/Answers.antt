use Rattle.std.proofs.Common.{arith}
use Rattle.http_messages.proofs.FieldLemmas.{sum_more, sum_over}
use Rattle.http_messages.proofs.answer.length_of_lines.Goals as goal

pub length_of_line-length-requires : goal.length_of_line-length-requires
length_of_line-length-requires c =
    let over = sum_over c.args.fields.now c.loop-field.field-index c.loop-field-test.true c.field-item.result c.field-item.is in
    omega (arith, over)

pub overflow_add-length : goal.overflow_add-length
overflow_add-length c =
    let over = sum_over c.args.fields.now c.loop-field.field-index c.loop-field-test.true c.field-item.result c.field-item.is in
    omega (arith, over)

pub loop-field-preserved : goal.loop-field-preserved
loop-field-preserved c =
    omega (arith, sum_more c.args.fields.now c.loop-field.field-index c.loop-field-test.true c.field-item.result c.field-item.is)
