use Rattle.std.proofs.Common.{◌≡◌, drop}
use Rattle.run_rules.specs.Notes.{nodes_in}
use Rattle.run_notes.proofs.tracks.nodes_in.Given as goal

abbrev pub invariant-loop-at : goal.invariant-loop-at
invariant-loop-at l = l.nodes.items ≡ nodes_in (drop l.at l.records)
