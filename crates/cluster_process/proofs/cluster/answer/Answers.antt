use Rattle.cluster_console.specs.declared.play.Ended.TheVariants as ended
use Rattle.cluster_console.specs.Answering.{HasAnswered}
use Rattle.cluster_process.specs.Kept.{gathered_in, gathered_at_first}
use Rattle.cluster_process.proofs.cluster.answer.Goals as goal

pub returns-in-Answered : goal.returns-in-Answered
returns-in-Answered g c =
    let gathered = gathered_in c.answer_lines-judge.result.0.memory.kept in
    let answered : HasAnswered c.args.common.now.roster.now (gathered_at_first c.args.common.now.history) (g.I.Read.remaining c.args.input)
    (g.O.Write.contents c.args.output.now) (g.O.Write.contents c.answer_lines-judge.new.output) ended.Answered gathered =
    rw (c.new-3.ensures, c.in-Answered.is) at c.answer_lines-judge.ensures in
    (gathered, ended.Answered, tt, answered, c.into_kept.ensures)

pub returns-in-NoLine : goal.returns-in-NoLine
returns-in-NoLine g c =
    let gathered = gathered_in c.answer_lines-judge.result.0.memory.kept in
    let answered : HasAnswered c.args.common.now.roster.now (gathered_at_first c.args.common.now.history) (g.I.Read.remaining c.args.input)
    (g.O.Write.contents c.args.output.now) (g.O.Write.contents c.answer_lines-judge.new.output) ended.NoLine gathered =
    rw (c.new-3.ensures, c.in-NoLine.is) at c.answer_lines-judge.ensures in
    (gathered, ended.NoLine, tt, answered, c.into_kept-in-NoLine.ensures)
