use Rattle.std.proofs.Common.{◌+◌, ◌*◌, ◌-◌, ◌≤◌, length, vec_len, drop}
use Rattle.http_intake.specs.Reading.{Grows}
use Rattle.http_intake.proofs.intake.Intake.read_to_end.Given as goal

abbrev pub invariant-pieces : goal.invariant-pieces
invariant-pieces g l = record {
  taken : Grows (g.R.Read.remaining l.fn.reader) (g.R.Read.remaining l.reader) (drop l.fn.start l.fn.self.octets) l.body.items;
  few_turns : l.turns ≤ 70000;
  counted : l.turns + length l.fn.self.octets ≤ l.fn.self.calls + (l.fn.start + vec_len l.body);
  most : l.fn.start + vec_len l.body + 65536 * l.fn.self.calls ≤ length l.fn.self.octets + 65536 * l.turns;
}

abbrev pub decreases-pieces : goal.decreases-pieces
decreases-pieces g l = 70000 - l.turns
