use Rattle.std.proofs.Common.{◌≡◌}
use Rattle.http_messages.specs.Field.{are_few_fields}
use Rattle.http_reading.specs.Fields.{fields_of}
use Rattle.http_reading.specs.Kept.{kept, options_of}
use Rattle.http_reading.proofs.Keeping.{kept_from, have_room}
use Rattle.http_reading.proofs.kept.are_few_kept.Given as goal

abbrev pub invariant-loop-header : goal.invariant-loop-header
invariant-loop-header l =
    have_room l.room.fields l.room.octets (kept_from (options_of (fields_of l.window l.headers)) l.window l.headers l.header-index)
    ≡ are_few_fields (kept (fields_of l.window l.headers))
