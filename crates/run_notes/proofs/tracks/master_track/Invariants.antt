use Rattle.std.proofs.Common.{◌≡◌, drop}
use Rattle.run_rules.specs.Notes.{calls_of, is_shut_before}
use Rattle.run_notes.specs.Held.{track_of}
use Rattle.run_notes.proofs.tracks.master_track.Given as goal

abbrev pub invariant-loop-at : goal.invariant-loop-at
invariant-loop-at l = (l.is_closed ≡ is_shut_before (drop l.at l.entries)) × (track_of l.track.items ≡ calls_of (drop l.at l.entries))
