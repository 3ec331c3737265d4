use Rattle.http_intake.proofs.ChunkLemmas.{chunk_stands}
use Rattle.http_intake.proofs.chunks.take_chunk.Goals as goal

pub returns-in-Ok-clause-step : goal.returns-in-Ok-clause-step
returns-in-Ok-clause-step c =
    let line = rw c.in-Ok-Complete.field-0-is at c.in-Ok-Complete.ensures in
    chunk_stands c.args.octets.now c.args.at c.in-Ok-Complete.line.0 c.in-Ok-Complete.line.1 c.split_at.result.1.now c.split_at-2.result.1.now
    c.split_at-3.result.0.now c.split_at-3.result.1.now c.args.body.now.items c.extend_from_slice.new.self.items c.requires.at
    c.split_at.ensures.back c.split_at-2.ensures.back c.split_at-3.ensures.front c.split_at-3.ensures.back line.line
    line.short c.if-size-eq0.false c.if-after_line-size.false c.if-behind-ne13.false c.if-behind-ne10.false c.in-Ok.ensures.items
