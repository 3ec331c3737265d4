use Rattle.cli_world.proofs.Long.{long_lines_are_bad}
use Rattle.cli_world.proofs.line.line_of.Goals as goal

pub returns-in-len6-up : goal.returns-in-len6-up
returns-in-len6-up c = long_lines_are_bad c.args.words.now c.in-len6-up.len_at_least
