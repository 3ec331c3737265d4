use Rattle.std.proofs.Common.{◌≡◌, length}
use Rattle.http_reading.specs.Uri.{is_written}
use Rattle.http_reading.proofs.uri.is_written.Given as goal

abbrev pub invariant-loop-octet : goal.invariant-loop-octet
invariant-loop-octet l = is_written l.others l.rest ≡ is_written l.others l.text

abbrev pub decreases-loop-octet : goal.decreases-loop-octet
decreases-loop-octet l = length l.rest
