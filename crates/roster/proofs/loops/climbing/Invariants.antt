use Rattle.std.proofs.Common.{◌≡◌, filter, take}
use Rattle.roster.specs.Among.{climbs}
use Rattle.roster.proofs.loops.climbing.Given as goal

abbrev pub invariant-loop-id : goal.invariant-loop-id
invariant-loop-id l = l.kept.items ≡ filter (climbs l.tables l.ids) (take l.id-index l.ids)
