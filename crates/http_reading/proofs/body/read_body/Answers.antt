use Rattle.http_reading.proofs.BodyLemmas.{no_body}
use Rattle.http_reading.proofs.body.read_body.Goals as goal

pub returns-in-None : goal.returns-in-None
returns-in-None g c =
    rw c.in-None.is (no_body (g.R.Read.remaining c.args.reader.now) c.args.intake c.args.start c.empty.result c.requires.few c.empty.ensures)
