use Rattle.std.proofs.Common.{◌≡◌, take}
use Rattle.run_network.specs.Prints.{written_to}
use Rattle.run_network.proofs.Printing.{each}
use Rattle.run_network.proofs.prints.write_fields.Given as goal

abbrev pub invariant-loop-field : goal.invariant-loop-field
invariant-loop-field l = l.hasher ≡ written_to l.initial.hasher (each (take l.field-index l.fields))
