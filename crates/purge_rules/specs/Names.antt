-- The names of the faults, as scripts print them.
use Rattle.std.specs.Prelude.{ℕ, List, codes}
use Rattle.purge_rules.specs.declared.fault.PurgeFault.{PurgeFault}
use Rattle.purge_rules.specs.declared.fault.PurgeFault.TheVariants as purge
use Rattle.purge_rules.specs.declared.fault.MasterFault.{MasterFault}
use Rattle.purge_rules.specs.declared.fault.MasterFault.TheVariants as master

-- the name of a fault of the store
abbrev pub purge_fault_name : PurgeFault → List ℕ
purge_fault_name purge.StoreFault = codes "StoreFault"
purge_fault_name purge.BadTable = codes "BadTable"
purge_fault_name purge.NoMemory = codes "NoMemory"

-- the name of a fault of the master
abbrev pub master_fault_name : MasterFault → List ℕ
master_fault_name master.Closed = codes "Closed"
master_fault_name master.ShiftFull = codes "ShiftFull"
master_fault_name master.NumbersSpent = codes "NumbersSpent"
master_fault_name master.TooManyPending = codes "TooManyPending"
master_fault_name master.StoreFault = codes "StoreFault"
master_fault_name master.NoMemory = codes "NoMemory"
master_fault_name master.NotJoining = codes "NotJoining"
