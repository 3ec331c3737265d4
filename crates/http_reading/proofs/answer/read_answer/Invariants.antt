use Rattle.std.proofs.Common.{◌≡◌, ◌≤◌, ◌-◌, length}
use Rattle.http_intake.specs.Reading.{nothing_held, Takes}
use Rattle.http_intake.specs.Heads.{most_fields}
use Rattle.http_reading.specs.Answers.{PassesInterim, most_interim}
use Rattle.http_reading.proofs.answer.read_answer.Given as goal

-- what was read so far begins with interim heads
abbrev pub invariant-heads : goal.invariant-heads
invariant-heads g l = record {
  passes : PassesInterim l.intake.octets l.start;
  few : l.start ≤ most_interim;
  taken : Takes (g.R.Read.remaining l.fn.reader) (g.R.Read.remaining l.reader) nothing_held l.intake;
  room : length l.headers ≡ most_fields;
}

abbrev pub decreases-heads : goal.decreases-heads
decreases-heads g l = 286720000 - l.start
