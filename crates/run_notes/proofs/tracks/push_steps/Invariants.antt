use Rattle.std.proofs.Common.{◌≡◌, ◌++◌, drop}
use Rattle.run_rules.specs.Notes.{steps_of, is_closed_before}
use Rattle.run_notes.specs.Held.{track_of}
use Rattle.run_notes.proofs.tracks.push_steps.Given as goal

abbrev pub invariant-loop-at : goal.invariant-loop-at
invariant-loop-at l =
    (l.is_closed ≡ is_closed_before (drop l.at l.entries) l.is_closing)
    × (track_of l.track.items ≡ steps_of l.node l.is_closing l.kept (drop l.at l.entries) ++ track_of l.initial.track.items)
