use Rattle.std.proofs.Common.{◌+◌, ◌*◌, ◌-◌, ◌≤◌, length, take}
use Rattle.http_intake.specs.Reading.{Grows}
use Rattle.http_intake.proofs.fill.fill.Given as goal

abbrev pub invariant-calls : goal.invariant-calls
invariant-calls g l = record {
  forward : l.fn.from ≤ l.at;
  within : l.at ≤ length l.buffer;
  taken : Grows (g.R.Read.remaining l.fn.reader) (g.R.Read.remaining l.reader) (take l.fn.from l.fn.buffer) (take l.at l.buffer);
  few_turns : l.turns ≤ 70000;
  counted : l.turns + l.fn.from ≤ l.fn.turns + l.at;
  most : l.at + 65536 * l.fn.turns ≤ l.fn.from + 65536 * l.turns;
  small : length l.buffer ≤ 65536;
}

abbrev pub decreases-calls : goal.decreases-calls
decreases-calls g l = length l.buffer - l.at
