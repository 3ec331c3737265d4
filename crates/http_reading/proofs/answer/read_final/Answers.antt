use Rattle.std.proofs.Common.{◌+◌, Ok, Err, inl, inr}
use Rattle.http_reading.specs.AnswerHead.{told_text}
use Rattle.http_reading.proofs.AnswerLemmas.{head_says, refused, rest_read}
use Rattle.http_reading.proofs.answer.read_final.Goals as goal

pub returns-in-Ok : goal.returns-in-Ok
returns-in-Ok g c = λ passes.
    let says = rw c.window.ensures.value at c.in-Ok.ensures.says in
    rest_read (g.R.Read.remaining c.args.reader.now) (g.R.Read.remaining c.read_told.new.reader) c.args.intake c.args.start (c.args.start + c.args.head.len)
    (told_text c.in-Ok.told) c.read_told.result
    (head_says c.args.intake.octets c.args.start c.args.headers.now c.args.head (Ok (told_text c.in-Ok.told)) c.requires.few c.requires.room
    c.requires.head c.requires.last c.requires.inside says passes) c.read_told.ensures

pub returns-in-Err : goal.returns-in-Err
returns-in-Err g c = λ passes.
    let says = rw c.window.ensures.value at c.in-Err.ensures.says in
    refused (g.R.Read.remaining c.args.reader.now) c.args.intake c.args.start (c.args.start + c.args.head.len) c.in-Err.fault c.window.ensures.few
    (elim says [
      | inl same ↦ inl same
      | inr is ↦ inr (head_says c.args.intake.octets c.args.start c.args.headers.now c.args.head (Err c.in-Err.fault) c.requires.few c.requires.room
          c.requires.head c.requires.last c.requires.inside is passes)
    ])
