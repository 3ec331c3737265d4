use Rattle.http_reading.specs.Fields.{fields_of}
use Rattle.http_reading.specs.Kept.{hides_judging, kept_by, options_of}
use Rattle.http_reading.proofs.Keeping.{marks_room}
use Rattle.http_reading.proofs.kept.are_few_kept.Goals as goal

pub loop-header-init : goal.loop-header-init
loop-header-init c =
    let fields = fields_of c.args.window.now c.args.headers.now in
    rw (c.behind_marks-room.ensures.fields, c.behind_marks-room.ensures.octets)
    (marks_room (hides_judging (options_of fields)) (kept_by (options_of fields) fields))
