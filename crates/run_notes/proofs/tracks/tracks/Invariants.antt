use Rattle.std.proofs.Common.{◌≡◌, take, map, filter}
use Rattle.run_rules.specs.Notes.{notes_of_all, is_of, nodes_in}
use Rattle.run_notes.specs.Held.{tracks_in}
use Rattle.run_notes.proofs.tracks.tracks.Given as goal

abbrev pub invariant-loop-node : goal.invariant-loop-node
invariant-loop-node l = tracks_in l.tracks.items ≡ map (λ id. notes_of_all (filter (is_of id) l.fn.records)) (take l.node-index (nodes_in l.fn.records))
