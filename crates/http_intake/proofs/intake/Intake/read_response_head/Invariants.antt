use Rattle.std.proofs.Common.{◌≡◌, ◌+◌, ◌≤◌, ◌-◌, max, length}
use Rattle.http_intake.specs.Reading.{Takes}
use Rattle.http_intake.proofs.intake.Intake.read_response_head.Given as goal

abbrev pub invariant-parses : goal.invariant-parses
invariant-parses g l = record {
  taken : Takes (g.R.Read.remaining l.fn.reader) (g.R.Read.remaining l.reader) l.fn.self l.self;
  start : l.start ≤ length l.self.octets;
  few : length l.self.octets ≤ max (length l.fn.self.octets) (l.start + 20480);
  room : length l.headers ≡ 64;
}

abbrev pub decreases-parses : goal.decreases-parses
decreases-parses g l = 286720000 - length l.self.octets
