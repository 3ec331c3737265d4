use Rattle.std.proofs.Common.{ℕ, rules, tests}
use Rattle.std.proofs.lemmas.Slice.Eq.{slice_eq-Decides}
use Rattle.run_check.proofs.ledger.same_due.Goals as goal

pub returns : goal.returns
returns c = slice_eq-Decides (λ (a b : ℕ × ℕ). search (rules, tests)) c.args.one.now c.args.other.now c.eq.result c.eq.ensures
