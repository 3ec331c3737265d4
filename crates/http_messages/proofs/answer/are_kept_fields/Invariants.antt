use Rattle.std.proofs.Common.{◌≡◌, true, take, map}
use Rattle.std.specs.List.{list_all}
use Rattle.http_messages.specs.Field.{field_text, is_kept_field}
use Rattle.http_messages.proofs.answer.are_kept_fields.Given as goal

abbrev pub invariant-loop-field : goal.invariant-loop-field
invariant-loop-field l = list_all is_kept_field (take l.field-index (map field_text l.fields)) ≡ true
