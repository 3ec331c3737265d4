use Rattle.purge_numbers.proofs.writing.write.Goals as goal

pub returns-in_err-put-in-Row-clause-crash : goal.returns-in_err-put-in-Row-clause-crash
returns-in_err-put-in-Row-clause-crash g c clean floors may = rw c.in-Row.is (c.put.ensures.crash clean floors may)
