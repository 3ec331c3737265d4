use Rattle.std.proofs.Common.{take}
use Rattle.run_rules.specs.Notes.{places_in}
use Rattle.run_notes.specs.Held.{track_of}
use Rattle.run_notes.proofs.Falling.{Fallen}
use Rattle.run_notes.proofs.falls.fall_in.Given as goal

abbrev pub invariant-loop-note : goal.invariant-loop-note
invariant-loop-note l = Fallen (places_in (track_of (take l.note-index l.track))) l.next l.fall
