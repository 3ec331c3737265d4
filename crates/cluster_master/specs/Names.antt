-- The names of faults.
use Rattle.std.specs.Prelude.{◌≡◌, ℕ, List, codes}
use Rattle.cluster_master.specs.declared.fault.MasterStartFault.{MasterStartFault}
use Rattle.cluster_master.specs.declared.fault.MasterStartFault.TheVariants.{Port, Io, NoMemory}

-- the name of a fault: that of its variant, and Io for a port
abbrev pub start_fault_name : MasterStartFault → List ℕ
start_fault_name (Port port) = codes "Io"
start_fault_name Io = codes "Io"
start_fault_name NoMemory = codes "NoMemory"

-- where a port is named, it is this one
abbrev pub IsAtPort : ℕ → MasterStartFault → Type 0
IsAtPort port (Port named) = named ≡ port
IsAtPort port Io = Unit {0}
IsAtPort port NoMemory = Unit {0}
