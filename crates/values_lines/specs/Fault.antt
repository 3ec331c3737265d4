-- The names of the faults of a run.
use Rattle.std.specs.Prelude.{ℕ, List, codes}
use Rattle.values_lines.specs.declared.fault.RunFault.{RunFault}
use Rattle.values_lines.specs.declared.fault.RunFault.TheVariants.{Io, TooManyTurns, LineTooLong, NoMemory, NoFirstNode}

-- the name of a fault, as the program prints it [Command 2]
abbrev pub run_fault_name : RunFault → List ℕ
run_fault_name Io = codes "Io"
run_fault_name TooManyTurns = codes "TooManyTurns"
run_fault_name LineTooLong = codes "LineTooLong"
run_fault_name NoMemory = codes "NoMemory"
run_fault_name NoFirstNode = codes "NoFirstNode"
