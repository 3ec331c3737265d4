use Rattle.std.proofs.Common.{Some}
use Rattle.node_seats.specs.Beginning.{beginning_of}
use Rattle.node_workers.proofs.node.run_node.Given as goal

abbrev pub ghosts-run_named-Q-Run : goal.ghosts-run_named-Q-Run
ghosts-run_named-Q-Run g a = record { book = a.steps.seen.book }

abbrev pub ghosts-run_named-J-Run : goal.ghosts-run_named-J-Run
ghosts-run_named-J-Run g a = record { book = a.history.seen.book }

abbrev pub ghosts-run_named-J-NodeRun : goal.ghosts-run_named-J-NodeRun
ghosts-run_named-J-NodeRun g a = record { beginning = Some (beginning_of a.start.node) }
