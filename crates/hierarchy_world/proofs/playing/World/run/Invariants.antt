use Rattle.std.proofs.Common.{◌≡◌, ◌+◌, false, All, length}
use Rattle.hierarchy_world.specs.View.{TellsNoLack}
use Rattle.hierarchy_world.specs.Runs.{IsRunSoFar}
use Rattle.hierarchy_world.proofs.playing.World.run.Given as goal

abbrev pub invariant-loop-event : goal.invariant-loop-event
invariant-loop-event l =
    (l.world.roster ≡ l.roster) × (l.world.place ≡ 1 + length l.yielded) × (l.world.spoilt ≡ false) × All TellsNoLack l.outcomes.items
    × IsRunSoFar l.roster l.yielded l.world.world l.outcomes.items
