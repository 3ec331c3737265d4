use Rattle.std.proofs.Common.{refl, rules}
use Rattle.sqlite.specs.State.{State}
use Rattle.sqlite.specs.Held.{state}
use Rattle.purge_rules.specs.Purges.{PurgeList, with_done}
use Rattle.purge_records.specs.Writing.{Holds, Commits}
use Rattle.purge_records.proofs.CallLemmas.{commits}
use Rattle.purge_records.proofs.writing.end_number.Goals as goal

pub returns-clause-made : goal.returns-clause-made
returns-clause-made g c = commits (state g.S.Store c.end.new.tx.conn.now) (state g.S.Store c.commit.new.self.0) _ _ c.commit.result
    (λ (s : State). (before : PurgeList) → Holds before (state g.S.Store c.args.conn.now).now → Commits (with_done before c.args.number) s)
    c.commit.ensures.ok c.commit.ensures.survives (λ clean done before holds.
    (_, (c.in_ok-end.ensures.made clean before (rw c.transaction-tx.ensures.begun refl) (rw c.transaction-tx.ensures.begun holds)).1, done)) (search rules)
