-- The names of faults.
use Rattle.std.specs.Prelude.{ℕ, List, codes}
use Rattle.cluster_sockets.specs.declared.fault.LoopFault.{LoopFault}
use Rattle.cluster_sockets.specs.declared.fault.LoopFault.TheVariants.{Io, NoMemory}

-- the name of a fault: that of its variant
abbrev pub loop_fault_name : LoopFault → List ℕ
loop_fault_name Io = codes "Io"
loop_fault_name NoMemory = codes "NoMemory"
