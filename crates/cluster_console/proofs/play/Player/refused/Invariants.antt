use Rattle.std.proofs.Common.{◌≡◌, ℕ, List, ◌++◌, length}
use Rattle.std.specs.Prelude.{codes, decimal}
use Rattle.cluster_console.specs.Played.{CountsTell}
use Rattle.cluster_console.proofs.play.Player.refused.Given as goal

-- the members up to this id are told of
abbrev pub invariant-loop-told : goal.invariant-loop-told
invariant-loop-told g l = (lines : List ℕ) × CountsTell l.fn.self.roster.now l.told lines
    × (l.text.items ≡ l.fn.text.items ++ (codes "refused " ++ decimal (length l.fn.self.roster.now.members) ++ lines))
