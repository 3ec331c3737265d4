use Rattle.htcp_wire.specs.Numbers.{line_name, value_in}
use Rattle.std.specs.Prelude.{option_copied, option_to_list}
use Rattle.htcp_wire.proofs.Lines.{KeepsLines}
use Rattle.htcp_wire.proofs.numbers.number_in.Given as goal

abbrev pub invariant-loop-end : goal.invariant-loop-end
invariant-loop-end l = KeepsLines (value_in (line_name l.fn.kind)) l.text l.start l.end (option_to_list (option_copied l.found))
