-- One lemma of `proofs/BodyLemmas` for each kind of body.
use Rattle.http_reading.proofs.BodyLemmas.{length_read, end_read, chunks_read, chunks_stop}
use Rattle.http_reading.proofs.body.read_framed.Goals as goal

pub returns-in-Length : goal.returns-in-Length
returns-in-Length g c =
    rw c.in-Length.is
    (length_read (g.R.Read.remaining c.args.reader.now) (g.R.Read.remaining c.read_body_of.new.reader) c.args.intake c.args.start c.in-Length.length
    c.read_body_of.result c.held.result c.read_body_of.ensures.body c.read_body_of.ensures.short c.read_body_of.ensures.cut c.held.ensures)

pub returns-in-ToEnd : goal.returns-in-ToEnd
returns-in-ToEnd g c =
    rw c.in-ToEnd.is
    (end_read (g.R.Read.remaining c.args.reader.now) (g.R.Read.remaining c.read_to_end.new.reader) c.args.intake c.args.start c.read_to_end.result
    c.held-in-ToEnd.result c.read_to_end.ensures.body c.read_to_end.ensures.stopped c.held-in-ToEnd.ensures)

pub returns-in-Ok : goal.returns-in-Ok
returns-in-Ok g c =
    rw c.in-Chunked.is
    (chunks_read (g.R.Read.remaining c.args.reader.now) (g.R.Read.remaining c.read_chunked_body.new.reader) c.args.intake c.read_chunked_body.new.self
    c.args.start c.in-Ok._end c.in-Ok.octets c.held-in-Ok.result c.in-Ok.ensures.taken c.in-Ok.ensures.few c.in-Ok.ensures.body c.in-Ok.ensures.short
    c.held-in-Ok.ensures)

pub returns : goal.returns
returns g c =
    rw c.in-Chunked.is
    (chunks_stop (g.R.Read.remaining c.args.reader.now) (g.R.Read.remaining c.read_chunked_body.new.reader) c.args.intake c.read_chunked_body.new.self
    c.args.start c.in-Err.fault c.in-Err.ensures.taken c.in-Err.ensures.last c.in-Err.ensures.stopped)
