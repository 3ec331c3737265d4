use Rattle.std.proofs.Common.{◌≡◌, ◌≤◌, length}
use Rattle.http_reading.specs.AnswerVersions.{from_empty_line}
use Rattle.http_reading.proofs.answer_versions.from_empty_line.Given as goal

abbrev pub invariant-loop-octet : goal.invariant-loop-octet
invariant-loop-octet l = record {
  found : from_empty_line l.rest ≡ from_empty_line l.text;
  within : length l.rest ≤ length l.text;
}

abbrev pub decreases-loop-octet : goal.decreases-loop-octet
decreases-loop-octet l = length l.rest
