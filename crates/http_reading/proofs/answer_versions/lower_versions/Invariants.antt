use Rattle.std.proofs.Common.{◌≡◌, ◌≤◌, length}
use Rattle.http_reading.specs.AnswerVersions.{as_known, known_from}
use Rattle.http_reading.proofs.answer_versions.lower_versions.Given as goal

abbrev pub invariant-loop-heads : goal.invariant-loop-heads
invariant-loop-heads l = record {
  known : known_from l.heads l.start l.octets ≡ as_known l.fn.octets;
  start : l.start ≤ length l.octets;
}

abbrev pub decreases-loop-heads : goal.decreases-loop-heads
decreases-loop-heads l = l.heads
