-- The names of faults.
use Rattle.std.specs.Prelude.{ℕ, List, codes}
use Rattle.cluster_waiting.specs.declared.fault.TableFault.{TableFault}
use Rattle.cluster_waiting.specs.declared.fault.TableFault.TheVariants.{Taken, Full, NoMemory}

-- the name of a fault: that of its variant
abbrev pub table_fault_name : TableFault → List ℕ
table_fault_name Taken = codes "Taken"
table_fault_name Full = codes "Full"
table_fault_name NoMemory = codes "NoMemory"
