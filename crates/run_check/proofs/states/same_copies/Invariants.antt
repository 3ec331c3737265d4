use Rattle.std.proofs.Common.{◌≡◌, ℕ, ◌<◌, get_or}
use Rattle.object_store.specs.declared.copy.WebCopy.{WebCopy}
use Rattle.run_check.proofs.states.same_copies.Given as goal

abbrev pub invariant-loop-at : goal.invariant-loop-at
invariant-loop-at l = (k : ℕ) (d : WebCopy (Unit {0})) → k < l.at → get_or l.one k d ≡ get_or l.other k d
