use Rattle.std.proofs.Common.{length}
use Rattle.run_check.proofs.board.+is_any_astray.Given as goal

abbrev pub decreases-is_any_astray : goal.decreases-is_any_astray
decreases-is_any_astray l = length l.posts.now
