use Rattle.std.proofs.Common.{take, ◌+◌, sym, ◌∙◌, arith, rules}
use Rattle.run_rules.specs.Notes.{places_in}
use Rattle.run_notes.specs.Held.{track_of}
use Rattle.run_notes.proofs.Falling.{fallen_more, fallen_same, fallen_by}
use Rattle.run_notes.proofs.falls.fall_in.Goals as goal
use Rattle.run_notes.proofs.falls.fall_in.Goals.{in-Some, in_default}

pub loop-note-preserved : goal.loop-note-preserved
loop-note-preserved c =
    let places = places_in (track_of (take (c.loop-note.note-index + 1) c.args.track.now)) in
    elim c.match-place.branch [
      | in-Some w ↦ fallen_by places _ _ _ _ w.next-is (w.fall-is ∙ w.fall_with-fall.ensures)
          (fallen_more c.args.track.now c.loop-note.note-index c.note-item.result w.in-Some.place c.loop-note.next c.loop-note.fall (omega arith) c.note-item.is
          (sym c.place.ensures ∙ w.in-Some.is) c.loop-note.invariant)
      | in_default w ↦ fallen_by places _ _ _ _ w.next-is w.fall-is
          (fallen_same c.args.track.now c.loop-note.note-index c.note-item.result c.loop-note.next c.loop-note.fall (omega arith) c.note-item.is (search rules)
          c.loop-note.invariant)
    ]
