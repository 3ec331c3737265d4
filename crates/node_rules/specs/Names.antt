-- The names of a step's faults.
use Rattle.std.specs.Prelude.{List, ℕ, codes}
use Rattle.node_rules.specs.declared.reply.StepFault.{StepFault}
use Rattle.node_rules.specs.declared.reply.StepFault.TheVariants.{Closed, UnknownSerial, Busy, StoreFault, NoMemory}

-- A fault's name, as scripts print it.
abbrev pub step_fault_name : StepFault → List ℕ
step_fault_name Closed = codes "Closed"
step_fault_name UnknownSerial = codes "UnknownSerial"
step_fault_name Busy = codes "Busy"
step_fault_name StoreFault = codes "StoreFault"
step_fault_name NoMemory = codes "NoMemory"
