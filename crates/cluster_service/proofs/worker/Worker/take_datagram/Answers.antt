use Rattle.std.proofs.Common.{Err, refl}
use Rattle.cluster_service.proofs.worker.Worker.take_datagram.Goals as goal

pub returns-in-Err : goal.returns-in-Err
returns-in-Err g c = (c.seconds-now.result, Err c.in-Err.fault, rw c.note.ensures c.in-Err.ensures, refl)
