use Rattle.std.proofs.Common.{◌≡◌, refl, rules, sym, subst, ◌∙◌}
use Rattle.sqlite.specs.State.{State, Survives}
use Rattle.sqlite.specs.Held.{state}
use Rattle.purge_numbers.specs.Making.{IsFormOne, IsMade, IsBaseless}
use Rattle.purge_numbers.specs.Tables.{floors_in}
use Rattle.purge_numbers.proofs.CommitLemmas.{commits, commits_alone, floors_kept}
use Rattle.purge_numbers.proofs.making.bring_over.Goals as goal

pub returns-clause-made : goal.returns-clause-made
returns-clause-made g c = commits (state g.S.Store c.add_base.new.tx.conn.now) (state g.S.Store c.commit.new.self.0) _ _ c.commit.result
    (λ (s : State). IsFormOne (state g.S.Store c.args.conn.now).now → IsMade ((state g.S.Store c.args.conn.now).now.trees 1) s)
    c.commit.ensures.ok c.commit.ensures.survives (λ clean done one.
    let it = (c.in_ok-add_base.ensures.made clean _ _ one.1 (rw c.transaction-tx.ensures.begun refl)
    (rw c.transaction-tx.ensures.begun (one.0, refl, refl))).1 in record {
      is_open = done.is_open;
      autocommit = done.autocommit;
      committed = done.committed ∙ sym done.now;
      baseless = subst (IsBaseless ((state g.S.Store c.args.conn.now).now.trees 1)) (sym done.now) it;
    }) (search rules)

pub returns-clause-survives : goal.returns-clause-survives
returns-clause-survives g c = commits_alone g.S.Store c.args.conn.now (state g.S.Store c.add_base.new.tx.conn.now) (state g.S.Store c.commit.new.self.0) _
    (λ trees. IsFormOne (state g.S.Store c.args.conn.now).now → floors_in trees ≡ floors_in (state g.S.Store c.args.conn.now).now.trees)
    (subst (λ h. Survives (state g.S.Store h) (state g.S.Store c.add_base.new.tx.conn.now) (λ _. ⊥)) c.transaction-tx.ensures.begun c.add_base.ensures.survives)
    c.commit.ensures.survives (λ clean one.
    let old = state g.S.Store c.args.conn.now in
    let it = (c.in_ok-add_base.ensures.made clean (old.now.trees 0) (old.now.trees 1) one.1 (rw c.transaction-tx.ensures.begun refl)
    (rw c.transaction-tx.ensures.begun (one.0, refl, refl))).1 in floors_kept old.now.trees (state g.S.Store c.add_base.new.tx.conn.now).now one.1 it)
    (search rules)
