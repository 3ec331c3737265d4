use Rattle.std.proofs.Common.{◌≡◌, ℕ, List, ◌++◌, length}
use Rattle.std.specs.Prelude.{codes, decimal}
use Rattle.cluster_console.specs.Played.{MembersTell}
use Rattle.cluster_console.proofs.play.Player.tell_members.Given as goal

-- the members up to this id are told of
abbrev pub invariant-loop-place : goal.invariant-loop-place
invariant-loop-place g l = (lines : List ℕ) × MembersTell l.fn.self.roster.now l.fn.purges l.place lines
    × (l.text.items ≡ l.fn.text.items ++ (codes "members " ++ decimal (length l.fn.self.roster.now.members) ++ lines))
