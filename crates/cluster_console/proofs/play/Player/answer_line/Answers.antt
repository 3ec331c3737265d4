use Rattle.std.specs.Prelude.{codes}
use Rattle.cluster_console.proofs.Answering.{says_no_memory}
use Rattle.cluster_console.proofs.play.Player.answer_line.Goals as goal

pub returns-in-Err-clause-answered : goal.returns-in-Err-clause-answered
returns-in-Err-clause-answered g c short = (
  codes "NoMemory",
  (
    says_no_memory c.args.self.now.roster.now (g.C.Checker.gathered c.tell_line.new.self.checker) c.args.line.now short,
    c.in-Err.ensures.goes_on,
  ),
  c.write_answer-in-Err.ensures,
)
