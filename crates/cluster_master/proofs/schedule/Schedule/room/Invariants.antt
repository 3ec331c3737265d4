use Rattle.std.proofs.Common.{◌≤◌}
use Rattle.cluster_master.proofs.schedule.Schedule.room.Given as goal

abbrev pub invariant-loop-number : goal.invariant-loop-number
invariant-loop-number l = l.room ≤ 256
