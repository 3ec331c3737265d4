use Rattle.purge_records.proofs.durable.SqlitePurgesPurgeStore.admit.Goals as goal

pub returns-in-Err-StoreFault-clause-crash : goal.returns-in-Err-StoreFault-clause-crash
returns-in-Err-StoreFault-clause-crash g c clean usable found may = rw (← c.self.view_is) (c.admit.ensures.crash clean found may)

pub returns-in-Err-clause-crash : goal.returns-in-Err-clause-crash
returns-in-Err-clause-crash g c clean usable found may = rw (← c.self.view_is) (c.admit.ensures.crash clean found may)

pub returns-then-not-self-clause-left : goal.returns-then-not-self-clause-left
returns-then-not-self-clause-left g c = rw (← c.self.view_is) (λ off found may. may)
