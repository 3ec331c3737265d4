use Rattle.std.proofs.Common.{◌+◌, ◌≤◌, ◌-◌, max, length}
use Rattle.http_intake.specs.Reading.{Takes}
use Rattle.http_intake.proofs.intake.Intake.read_until_due.Given as goal

abbrev pub invariant-pieces : goal.invariant-pieces
invariant-pieces g l = record {
  taken : Takes (g.R.Read.remaining l.fn.reader) (g.R.Read.remaining l.reader) l.fn.self l.self;
  grown : length l.fn.self.octets ≤ length l.self.octets;
  few : length l.self.octets ≤ max (length l.fn.self.octets) (l.fn.start + 16384);
}

abbrev pub decreases-pieces : goal.decreases-pieces
decreases-pieces g l = 286720000 - length l.self.octets
