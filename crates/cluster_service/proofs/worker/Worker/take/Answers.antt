use Rattle.cluster_service.proofs.worker.Worker.take.Goals as goal

pub returns-in-Datagram : goal.returns-in-Datagram
returns-in-Datagram g c = rw (c.in-Datagram.is, ← c.as_slice.ensures.value) c.take_message.ensures
