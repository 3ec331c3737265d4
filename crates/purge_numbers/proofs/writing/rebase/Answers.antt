-- The commit holds no rows and the new base. A failure is that of a statement in the transaction,
-- or of the commit.
use Rattle.std.proofs.Common.{refl, rules, subst}
use Rattle.sqlite.specs.State.{State}
use Rattle.sqlite.specs.Held.{state}
use Rattle.floor_rules.specs.Floors.{base_only}
use Rattle.purge_numbers.specs.Put.{FailsInside, Rebases}
use Rattle.purge_numbers.specs.Store.{IsNode}
use Rattle.purge_numbers.specs.Writing.{Commits}
use Rattle.purge_numbers.proofs.CommitLemmas.{commits, err_then, fails_inside, fails_at_commit}
use Rattle.purge_numbers.proofs.writing.rebase.Goals as goal

pub returns-in_err-replace-clause-failed : goal.returns-in_err-replace-clause-failed
returns-in_err-replace-clause-failed g c = err_then c.from_residual.result c.in_err-replace.field-0.0 _ c.from_residual.ensures.1 (λ clean ready.
    fails_inside g.S.Store c.args.conn.now c.replace.new.tx.conn.now c.drop-tx.new.self.0 c.conn-1.given.0 _ c.args.number c.in_err-replace.field-0.0
    c.drop-tx.ensures.survives (search rules) (λ was.
    subst (λ h. FailsInside g.S.Store h c.replace.new.tx.conn.now c.args.number c.in_err-replace.field-0.0) c.transaction-tx.ensures.begun
    (c.in_err-replace.ensures.failed was (rw c.transaction-tx.ensures.begun refl))) clean)

pub returns-clause-made : goal.returns-clause-made
returns-clause-made g c = commits (state g.S.Store c.replace.new.tx.conn.now) (state g.S.Store c.commit.new.self.0) _ _ c.commit.result
    (λ (s : State). IsNode (state g.S.Store c.args.conn.now).now → Commits (base_only c.args.number) s)
    c.commit.ensures.ok c.commit.ensures.survives (λ clean done node.
    (_, (c.in_ok-replace.ensures.made clean (rw c.transaction-tx.ensures.begun refl) (rw c.transaction-tx.ensures.begun node)).1, done)) (search rules)

pub returns-clause-failed : goal.returns-clause-failed
returns-clause-failed g c = fails_at_commit g.S.Store c.args.conn.now c.replace.new.tx.conn.now c.commit.new.self.0 c.conn-2-1.given.0 _
    c.args.number _ c.commit.result
    c.commit.ensures.survives (search rules) c.commit.ensures.err (λ clean.
    subst (λ h. Rebases g.S.Store h c.replace.new.tx.conn.now c.args.number) c.transaction-tx.ensures.begun
    (c.in_ok-replace.ensures.ran clean (rw c.transaction-tx.ensures.begun refl)))
