use Rattle.std.proofs.Common.{◌≡◌, take, map}
use Rattle.http_messages.specs.Field.{field_text, lines_length}
use Rattle.http_messages.proofs.answer.length_of_lines.Given as goal

abbrev pub invariant-loop-field : goal.invariant-loop-field
invariant-loop-field l = l.length ≡ lines_length (take l.field-index (map field_text l.fields))
