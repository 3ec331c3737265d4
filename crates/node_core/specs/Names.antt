-- The names of faults, as scripts print them.
use Rattle.std.specs.Prelude.{ℕ, List, codes}
use Rattle.floor_rules.specs.Fault.{floor_fault_name}
use Rattle.node_core.specs.declared.opening.OpenFault.{OpenFault}
use Rattle.node_core.specs.declared.opening.OpenFault.TheVariants.{NoSuchNode, Floors, NoMemory}
use Rattle.node_core.specs.declared.placing.PlaceFault.{PlaceFault}
use Rattle.node_core.specs.declared.placing.PlaceFault.TheVariants as place

-- The name of a fault of opening; that of the store's fault, if the store did not load.
abbrev pub open_fault_name : OpenFault → List ℕ
open_fault_name NoSuchNode = codes "NoSuchNode"
open_fault_name (Floors fault) = floor_fault_name fault
open_fault_name NoMemory = codes "NoMemory"

-- The name of a fault of placing.
abbrev pub place_fault_name : PlaceFault → List ℕ
place_fault_name place.Closed = codes "Closed"
place_fault_name place.NoMemory = codes "NoMemory"
