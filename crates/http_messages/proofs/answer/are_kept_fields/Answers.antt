use Rattle.std.proofs.Common.{sym, ◌∙◌}
use Rattle.http_messages.specs.Field.{is_kept_field}
use Rattle.http_messages.proofs.FieldLemmas.{all_more, all_fails}
use Rattle.http_messages.proofs.answer.are_kept_fields.Goals as goal

pub loop-field-preserved : goal.loop-field-preserved
loop-field-preserved c = all_more c.args.fields.now c.loop-field.field-index c.loop-field-test.true c.field-item.result c.field-item.is is_kept_field
    c.loop-field.invariant (sym c.is_kept_field.ensures ∙ c.if-not-is_kept_field.false)

pub returns-then-not-is_kept_field : goal.returns-then-not-is_kept_field
returns-then-not-is_kept_field c =
    sym (all_fails c.args.fields.now c.loop-field.field-index c.loop-field-test.true c.field-item.result c.field-item.is is_kept_field
    (sym c.is_kept_field.ensures ∙ c.if-not-is_kept_field.true))
