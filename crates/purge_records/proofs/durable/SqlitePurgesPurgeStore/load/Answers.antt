use Rattle.purge_records.proofs.durable.SqlitePurgesPurgeStore.load.Goals as goal

pub returns-then-not-self-clause-left : goal.returns-then-not-self-clause-left
returns-then-not-self-clause-left g c = rw (← c.self.view_is) (λ found may. may)

pub returns-clause-left : goal.returns-clause-left
returns-clause-left g c = rw (← c.self.view_is) (λ found may. may)

pub returns-in_err-copy-clause-left : goal.returns-in_err-copy-clause-left
returns-in_err-copy-clause-left g c = rw (← c.self.view_is) (λ found may. may)
