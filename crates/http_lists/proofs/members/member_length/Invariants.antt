use Rattle.http_lists.proofs.Cuts.{IsCutTo}
use Rattle.http_lists.proofs.members.member_length.Given as goal

abbrev pub invariant-loop-index : goal.invariant-loop-index
invariant-loop-index l = IsCutTo l.text l.index l.quoting
