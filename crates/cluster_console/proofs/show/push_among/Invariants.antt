use Rattle.std.proofs.Common.{◌≡◌, ◌++◌}
use Rattle.purge_rules.specs.Members.{is_among}
use Rattle.cluster_console.specs.Shown.{ids_shown}
use Rattle.cluster_console.proofs.show.push_among.Given as goal

abbrev pub invariant-loop-place : goal.invariant-loop-place
invariant-loop-place l = l.text.items ≡ l.fn.text.items ++ ids_shown (λ id. is_among id l.fn.members) l.place
