use Rattle.std.proofs.Common.{◌-◌, ◌+◌, ◌*◌, ◌≤◌, length, vec_len}
use Rattle.http_intake.specs.Chunks.{ChunksUpTo}
use Rattle.http_intake.specs.Reading.{Takes}
use Rattle.http_intake.proofs.intake.Intake.read_chunks.Given as goal

abbrev pub invariant-chunks : goal.invariant-chunks
invariant-chunks g l = record {
  taken : Takes (g.R.Read.remaining l.fn.reader) (g.R.Read.remaining l.reader) l.fn.self l.self;
  within : l.at ≤ length l.self.octets;
  short : vec_len l.body ≤ 65536;
  so_far : ChunksUpTo l.self.octets l.fn.start l.at l.body.items;
}

-- a read counts more than the octets that there may be, and a chunk at least one
abbrev pub decreases-chunks : goal.decreases-chunks
decreases-chunks g l = (286720000 - length l.self.octets) * 300000000 + (length l.self.octets - l.at)
