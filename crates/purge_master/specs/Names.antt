-- The faults of an open: their names, as scripts print them, and the faults of a store that they
-- come from.
use Rattle.std.specs.Prelude.{ℕ, List, codes}
use Rattle.purge_rules.specs.declared.fault.PurgeFault.{PurgeFault}
use Rattle.purge_rules.specs.declared.fault.PurgeFault.TheVariants as purge
use Rattle.purge_master.specs.declared.opening.MasterOpenFault.{MasterOpenFault}
use Rattle.purge_master.specs.declared.opening.MasterOpenFault.TheVariants as opening

-- the name of a fault
abbrev pub open_fault_name : MasterOpenFault → List ℕ
open_fault_name opening.StoreFault = codes "StoreFault"
open_fault_name opening.BadTable = codes "BadTable"
open_fault_name opening.NoMemory = codes "NoMemory"

-- the fault of an open whose store returned this one
abbrev pub open_fault_of : PurgeFault → MasterOpenFault
open_fault_of purge.StoreFault = opening.StoreFault
open_fault_of purge.BadTable = opening.BadTable
open_fault_of purge.NoMemory = opening.NoMemory
