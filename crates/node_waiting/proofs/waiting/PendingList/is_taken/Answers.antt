use Rattle.std.proofs.Common.{sym}
use Rattle.node_waiting.proofs.Free.{absent_free, place_taken}
use Rattle.node_waiting.proofs.waiting.PendingList.is_taken.Goals as goal

pub returns-in-Some-clause-taken : goal.returns-in-Some-clause-taken
returns-in-Some-clause-taken g c = sym (place_taken c.args.self.now c.args.block c.in-Some.field-0 c.in-Some.ensures.place)

pub returns-in-None-clause-taken : goal.returns-in-None-clause-taken
returns-in-None-clause-taken g c = sym (absent_free c.args.self.now c.args.block c.in-None.ensures.place)
