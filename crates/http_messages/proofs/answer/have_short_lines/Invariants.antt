use Rattle.std.proofs.Common.{◌≡◌, ◌+◌, take, map}
use Rattle.std.specs.Prelude.{sum_by}
use Rattle.http_messages.specs.Field.{field_text, line_length}
use Rattle.http_messages.proofs.answer.have_short_lines.Given as goal

abbrev pub invariant-loop-field : goal.invariant-loop-field
invariant-loop-field l = l.room + sum_by line_length (take l.field-index (map field_text l.fields)) ≡ 16000
