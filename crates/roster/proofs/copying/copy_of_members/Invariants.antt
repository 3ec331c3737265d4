use Rattle.std.proofs.Common.{◌≡◌, take}
use Rattle.roster.proofs.copying.copy_of_members.Given as goal

abbrev pub invariant-loop-member : goal.invariant-loop-member
invariant-loop-member l = l.copy.items ≡ take l.member-index l.fn.members
