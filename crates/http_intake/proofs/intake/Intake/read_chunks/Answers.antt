-- The loop holds that the octets up to `at` are chunks and `body` is their octets; a read only
-- adds octets after them.
use Rattle.std.proofs.Common.{length, drop, Err, sym, arith, ap, subst}
use Rattle.http_intake.specs.Chunks.{AddsChunk, IsOpenChunk, ChunksUpTo, RefusesStep}
use Rattle.http_intake.specs.Reading.{Held}
use Rattle.http_intake.proofs.ReadingLemmas.{takes_then}
use Rattle.http_intake.proofs.ChunkLemmas.{chunks_more, read_stops, refused_stops}
use Rattle.http_intake.proofs.intake.Intake.read_chunks.Goals as goal

pub chunks-preserved-in-Ok-Chunk : goal.chunks-preserved-in-Ok-Chunk
chunks-preserved-in-Ok-Chunk g c =
    let step = rw c.in-Ok-Chunk.field-0-is at c.in-Ok-Chunk.ensures in
    let adds = subst (λ octets. AddsChunk octets c.chunks.at c.in-Ok-Chunk.next c.chunks.body.items c.take_chunk.new.body.items) c.octets.ensures.value
    step.step in
    record {
      taken = c.chunks.invariant.taken;
      within = omega (arith, adds.within);
      short = step.short;
      so_far = chunks_more c.chunks.self.octets c.args.start c.chunks.at c.in-Ok-Chunk.next c.chunks.body.items
          c.take_chunk.new.body.items c.chunks.invariant.so_far
          adds;
    }

pub returns-in-Err-read_more-clause-taken : goal.returns-in-Err-read_more-clause-taken
returns-in-Err-read_more-clause-taken g c =
    takes_then (g.R.Read.remaining c.args.reader.now) (g.R.Read.remaining c.chunks.reader) (g.R.Read.remaining c.read_more.new.reader) c.args.self.now
    c.chunks.self c.read_more.new.self
    c.chunks.invariant.taken c.in-Err-read_more.ensures.taken

pub returns-in-Err-read_more-clause-stopped : goal.returns-in-Err-read_more-clause-stopped
returns-in-Err-read_more-clause-stopped g c =
    let step = rw c.in-Ok-More.field-0-is at c.in-Ok-More.ensures in
    let read = c.in-Err-read_more.ensures in
    let opened = subst (λ octets. IsOpenChunk (drop c.chunks.at octets) (length c.chunks.body.items)) c.octets.ensures.value step.step.1 in
    record {
      at = c.chunks.at;
      body = c.chunks.body.items;
      chunks = subst (λ (held : Held). ChunksUpTo held.octets c.args.start c.chunks.at c.chunks.body.items) (sym read.kept) c.chunks.invariant.so_far;
      short = omega (arith, c.chunks.body.ok.0);
      why = read_stops (g.R.Read.remaining c.read_more.new.reader) c.read_more.new.self.calls (drop c.chunks.at c.read_more.new.self.octets)
          (length c.chunks.body.items)
          c.in-Err-read_more.fault
          read.faults (subst (λ (held : Held). IsOpenChunk (drop c.chunks.at held.octets) (length c.chunks.body.items)) (sym read.kept) opened)
          (λ e. read.ended (ap Err e))
          (λ e. read.spent (ap Err e));
    }

pub returns-in-Err-clause-stopped : goal.returns-in-Err-clause-stopped
returns-in-Err-clause-stopped g c =
    let refused = c.in-Err.ensures.refused in
    let here = subst (λ octets. RefusesStep (drop c.chunks.at octets) c.chunks.body.len c.in-Err.fault) c.octets.ensures.value refused in
    record {
      at = c.chunks.at;
      body = c.chunks.body.items;
      chunks = c.chunks.invariant.so_far;
      short = omega (arith, c.chunks.body.ok.0);
      why = refused_stops (g.R.Read.remaining c.chunks.reader) c.chunks.self.calls (drop c.chunks.at c.chunks.self.octets)
          (length c.chunks.body.items) c.in-Err.fault
          (subst (λ len. RefusesStep (drop c.chunks.at c.chunks.self.octets) len c.in-Err.fault) c.chunks.body.ok.0 here);
    }
