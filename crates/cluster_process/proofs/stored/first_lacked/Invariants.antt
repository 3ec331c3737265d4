use Rattle.std.proofs.Common.{◌≡◌, ℕ, ◌<◌, ◌≤◌, false}
use Rattle.cluster_process.specs.Stored.{has_acknowledged}
use Rattle.cluster_process.proofs.stored.first_lacked.Given as goal

-- no number above the greatest and up to this one is acknowledged
abbrev pub invariant-loop-before : goal.invariant-loop-before
invariant-loop-before l = (number : ℕ) → l.fn.greatest < number → number ≤ l.before → number ≤ l.fn.given.last →
    has_acknowledged l.fn.nodes l.fn.given l.fn.id number ≡ false
