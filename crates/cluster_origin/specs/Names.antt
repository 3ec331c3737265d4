-- The names of faults.
use Rattle.std.specs.Prelude.{◌≡◌, ℕ, List, codes}
use Rattle.cluster_origin.specs.declared.fault.OriginFault.{OriginFault}
use Rattle.cluster_origin.specs.declared.fault.OriginFault.TheVariants.{Port, Io, NoMemory}

-- the name of a fault, as scripts print it: that of its variant, and Io for a port
abbrev pub origin_fault_name : OriginFault → List ℕ
origin_fault_name (Port port) = codes "Io"
origin_fault_name Io = codes "Io"
origin_fault_name NoMemory = codes "NoMemory"

-- where a port is named, it is this one
abbrev pub IsAtPort : ℕ → OriginFault → Type 0
IsAtPort port (Port named) = named ≡ port
IsAtPort port Io = Unit {0}
IsAtPort port NoMemory = Unit {0}
