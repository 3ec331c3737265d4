use Rattle.std.proofs.Common.{◌≡◌, drop, filter}
use Rattle.std.specs.Prelude.{option_map}
use Rattle.run_rules.specs.Notes.{notes_of_all, is_of}
use Rattle.run_notes.specs.Held.{track_of}
use Rattle.run_notes.proofs.Building.{KeptBy}
use Rattle.run_notes.proofs.tracks.node_track.Given as goal

abbrev pub invariant-loop-at : goal.invariant-loop-at
invariant-loop-at l =
    KeptBy (filter (is_of l.node) (drop l.at l.records)) (option_map (λ f. f.now) l.later)
    × (track_of l.track.items ≡ notes_of_all (filter (is_of l.node) (drop l.at l.records)))
