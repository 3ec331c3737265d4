-- The faults of a store of floors.
use Rattle.std.specs.Prelude.{List, ℕ, codes}
use Rattle.floor_rules.specs.declared.fault.FloorFault.{FloorFault}
use Rattle.floor_rules.specs.declared.fault.FloorFault.TheVariants.{StoreFault, BadTable, NoMemory}

-- the name of a fault, as scripts print it
abbrev pub floor_fault_name : FloorFault → List ℕ
floor_fault_name StoreFault = codes "StoreFault"
floor_fault_name BadTable = codes "BadTable"
floor_fault_name NoMemory = codes "NoMemory"
