use Rattle.cluster_console.proofs.Long.{short_lines_are_bad, long_lines_are_bad}
use Rattle.cluster_console.proofs.line.line_of.Goals as goal

pub returns-in-empty : goal.returns-in-empty
returns-in-empty c = short_lines_are_bad c.args.words.now c.in-empty.len_below

pub returns-in-len4-up : goal.returns-in-len4-up
returns-in-len4-up c = long_lines_are_bad c.args.words.now c.in-len4-up.len_at_least
