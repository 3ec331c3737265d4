-- The names of faults.
use Rattle.std.specs.Prelude.{ℕ, List, codes}
use Rattle.node_core.specs.Names.{open_fault_name}
use Rattle.cluster_sockets.specs.Names.{loop_fault_name}
use Rattle.node_workers.specs.declared.fault.StartFault.{StartFault}
use Rattle.node_workers.specs.declared.fault.StartFault.TheVariants as start
use Rattle.node_workers.specs.declared.fault.Unready.{Unready}
use Rattle.node_workers.specs.declared.fault.Unready.TheVariants as unready
use Rattle.node_workers.specs.declared.fault.StopFault.{StopFault}
use Rattle.node_workers.specs.declared.fault.StopFault.TheVariants as stop

-- the name of a fault of a start: that of the fault inside, where there is one
abbrev pub start_fault_name : StartFault → List ℕ
start_fault_name (start.Open fault) = open_fault_name fault
start_fault_name (start.Loop fault) = loop_fault_name fault
start_fault_name start.NoThread = codes "NoThread"
start_fault_name start.NoMemory = codes "NoMemory"

-- the fault of a start by why an opened node does not run
abbrev pub start_fault_of : Unready → StartFault
start_fault_of (unready.Loop fault) = start.Loop fault
start_fault_of unready.NoThread = start.NoThread
start_fault_of unready.NoMemory = start.NoMemory

-- the name of a fault of a stop: that of its variant
abbrev pub stop_fault_name : StopFault → List ℕ
stop_fault_name stop.Ended = codes "Ended"
stop_fault_name stop.NoMemory = codes "NoMemory"
