-- The chunks that were read stay where they are while the trailer is read after them
-- (`holds_grown`).
use Rattle.std.proofs.Common.{arith, inr}
use Rattle.http_intake.proofs.ReadingLemmas.{takes_then}
use Rattle.http_intake.proofs.ChunkLemmas.{holds_grown}
use Rattle.http_intake.proofs.intake.Intake.read_chunked_body.Goals as goal

pub returns-in-Ok-read_trailer-clause-taken : goal.returns-in-Ok-read_trailer-clause-taken
returns-in-Ok-read_trailer-clause-taken g c =
    takes_then (g.R.Read.remaining c.args.reader.now) (g.R.Read.remaining c.read_chunks.new.reader) (g.R.Read.remaining c.read_trailer.new.reader)
    c.args.self.now c.read_chunks.new.self c.read_trailer.new.self c.in-Ok.ensures.taken c.in-Ok-read_trailer.ensures.taken

pub returns-in-Ok-read_trailer-clause-body : goal.returns-in-Ok-read_trailer-clause-body
returns-in-Ok-read_trailer-clause-body g c =
    let taken = c.in-Ok-read_trailer.ensures.taken in
    record {
      trailer = c.in-Ok.found.1;
      chunks = holds_grown c.read_chunks.new.self.octets c.read_trailer.new.self.octets taken.0 c.args.start c.in-Ok.found.1 c.in-Ok.found.0.items taken.1
          c.in-Ok.ensures.chunks;
      section = c.in-Ok-read_trailer.ensures.section;
    }

pub returns-in-Err-read_trailer-clause-taken : goal.returns-in-Err-read_trailer-clause-taken
returns-in-Err-read_trailer-clause-taken g c =
    takes_then (g.R.Read.remaining c.args.reader.now) (g.R.Read.remaining c.read_chunks.new.reader) (g.R.Read.remaining c.read_trailer.new.reader)
    c.args.self.now c.read_chunks.new.self c.read_trailer.new.self c.in-Ok.ensures.taken c.in-Err-read_trailer.ensures.taken

pub returns-in-Err-read_trailer-clause-stopped : goal.returns-in-Err-read_trailer-clause-stopped
returns-in-Err-read_trailer-clause-stopped g c =
    let taken = c.in-Err-read_trailer.ensures.taken in
    inr (
      c.in-Ok.found.1,
      c.in-Ok.found.0.items,
      holds_grown c.read_chunks.new.self.octets c.read_trailer.new.self.octets taken.0 c.args.start c.in-Ok.found.1 c.in-Ok.found.0.items
          taken.1 c.in-Ok.ensures.chunks,
      omega (arith, c.in-Ok.ensures.short, c.in-Ok.found.0.ok.0),
      c.in-Err-read_trailer.ensures.stopped,
    )
