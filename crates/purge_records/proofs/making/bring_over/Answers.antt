use Rattle.std.proofs.Common.{◌≡◌, refl, rules, sym, subst, ◌∙◌}
use Rattle.sqlite.specs.State.{State, Survives}
use Rattle.sqlite.specs.Held.{state}
use Rattle.purge_records.specs.Making.{IsFormOne, IsMade, IsUnadmitted}
use Rattle.purge_records.specs.Tables.{purges_in}
use Rattle.purge_records.proofs.CallLemmas.{commits, commits_alone}
use Rattle.purge_records.proofs.WriteLemmas.{brought_over}
use Rattle.purge_records.proofs.making.bring_over.Goals as goal

pub returns-clause-made : goal.returns-clause-made
returns-clause-made g c = commits (state g.S.Store c.add_admitted.new.tx.conn.now) (state g.S.Store c.commit.new.self.0) _ _ c.commit.result
    (λ (s : State). IsFormOne (state g.S.Store c.args.conn.now).now → IsMade (IsUnadmitted (state g.S.Store c.args.conn.now).now.trees) s)
    c.commit.ensures.ok c.commit.ensures.survives (λ clean done one.
    let rows = (state g.S.Store c.args.conn.now).now.trees in
    let it = (c.in_ok-add_admitted.ensures.made clean rows one.1 (rw c.transaction-tx.ensures.begun refl)
    (rw c.transaction-tx.ensures.begun (one.0, refl, (refl, refl, refl)))).1 in record {
      is_open = done.is_open;
      autocommit = done.autocommit;
      committed = done.committed ∙ sym done.now;
      made = subst (IsUnadmitted rows) (sym done.now) it;
    }) (search rules)

pub returns-clause-survives : goal.returns-clause-survives
returns-clause-survives g c = commits_alone g.S.Store c.args.conn.now (state g.S.Store c.add_admitted.new.tx.conn.now) (state g.S.Store c.commit.new.self.0) _
    (λ trees. IsFormOne (state g.S.Store c.args.conn.now).now → purges_in trees ≡ purges_in (state g.S.Store c.args.conn.now).now.trees)
    (subst (λ h. Survives (state g.S.Store h) (state g.S.Store c.add_admitted.new.tx.conn.now) (λ _. ⊥)) c.transaction-tx.ensures.begun
    c.add_admitted.ensures.survives)
    c.commit.ensures.survives (λ clean one.
    let rows = (state g.S.Store c.args.conn.now).now.trees in
    let it = (c.in_ok-add_admitted.ensures.made clean rows one.1 (rw c.transaction-tx.ensures.begun refl)
    (rw c.transaction-tx.ensures.begun (one.0, refl, (refl, refl, refl)))).1 in
    brought_over rows (state g.S.Store c.add_admitted.new.tx.conn.now).now one.1 it)
    (search rules)
