use Rattle.std.proofs.Common.{◌+◌, subst}
use Rattle.values_plain.specs.Writing.{AppendsUpTo}
use Rattle.values_plain.proofs.Laws.{up_to_piece, up_to_fault}
use Rattle.http_messages.specs.Field.{field_text}
use Rattle.http_writing.specs.Answer.{kept_line}
use Rattle.http_writing.proofs.Fields.{lines_from, lines_from-next}
use Rattle.http_writing.proofs.answer.write_fields.Goals as goal

pub loop-field-preserved : goal.loop-field-preserved
loop-field-preserved g c =
    up_to_piece _ _ _ (lines_from c.args.fields.now 0) (kept_line (field_text c.field-item.result))
    (lines_from c.args.fields.now (c.loop-field.field-index + 1))
    (subst (AppendsUpTo _ _ (lines_from c.args.fields.now 0))
    (lines_from-next c.args.fields.now c.loop-field.field-index c.field-item.result c.loop-field-test.true c.field-item.is) c.loop-field.invariant)
    c.in-Ok.ensures.written

pub returns-in-Err-clause-written : goal.returns-in-Err-clause-written
returns-in-Err-clause-written g c =
    up_to_fault _ _ _ (lines_from c.args.fields.now 0) (kept_line (field_text c.field-item.result))
    (lines_from c.args.fields.now (c.loop-field.field-index + 1))
    (subst (AppendsUpTo _ _ (lines_from c.args.fields.now 0))
    (lines_from-next c.args.fields.now c.loop-field.field-index c.field-item.result c.loop-field-test.true c.field-item.is) c.loop-field.invariant)
    c.in-Err.ensures.written
