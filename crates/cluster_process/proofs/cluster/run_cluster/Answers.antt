use denote.Param.Send.{sendable}
use Rattle.cluster_process.proofs.Sending.{node_send, master_send}
use Rattle.cluster_process.proofs.cluster.run_cluster.Goals as goal

pub start-requires-send-S : goal.start-requires-send-S
start-requires-send-S g c κs = search (sendable, master_send)

pub run_nodes-ended-requires-send-F : goal.run_nodes-ended-requires-send-F
run_nodes-ended-requires-send-F g c κs = search (sendable, node_send)

pub stop-requires-send-S : goal.stop-requires-send-S
stop-requires-send-S g c κs = search (sendable, master_send)
