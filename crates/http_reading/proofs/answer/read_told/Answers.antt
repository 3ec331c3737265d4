use Rattle.http_reading.specs.AnswerHead.{told_text}
use Rattle.http_reading.proofs.AnswerLemmas.{told_read}
use Rattle.http_reading.proofs.answer.read_told.Goals as goal

pub returns-in-Ok : goal.returns-in-Ok
returns-in-Ok g c =
    let reads = rw c.in-Ok.is at c.read_body.ensures in
    told_read (told_text c.args.told) (g.R.Read.remaining c.args.reader.now) (g.R.Read.remaining c.read_body.new.reader) c.args.intake c.args.start
    c.in-Ok.body c.answer_of.result reads c.answer_of.ensures.ok c.answer_of.ensures.err
