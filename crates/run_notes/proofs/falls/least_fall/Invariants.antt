use Rattle.std.proofs.Common.{◌≡◌, take}
use Rattle.run_rules.specs.Notes.{least_fall}
use Rattle.run_notes.specs.Held.{tracks_in}
use Rattle.run_notes.proofs.falls.least_fall.Given as goal

abbrev pub invariant-loop-track : goal.invariant-loop-track
invariant-loop-track l = l.fall ≡ least_fall (tracks_in (take l.track-index l.tracks))
