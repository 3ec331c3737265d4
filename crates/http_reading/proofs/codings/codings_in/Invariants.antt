use Rattle.std.proofs.Common.{◌≡◌}
use Rattle.http_lists.specs.Left.{members_left}
use Rattle.http_lists.specs.Members.{members}
use Rattle.http_reading.specs.Framing.{both, codings_of, named_by}
use Rattle.http_reading.proofs.codings.codings_in.Given as goal

abbrev pub invariant-loop-member : goal.invariant-loop-member
invariant-loop-member l = both l.named (named_by (codings_of (members_left l.left))) ≡ named_by (codings_of (members l.value))
