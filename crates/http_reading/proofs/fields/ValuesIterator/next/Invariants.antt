use Rattle.std.proofs.Common.{◌≡◌, length}
use Rattle.http_reading.specs.Left.{values_left}
use Rattle.http_reading.proofs.fields.ValuesIterator.next.Given as goal

abbrev pub invariant-loop-header : goal.invariant-loop-header
invariant-loop-header l = values_left l.self ≡ values_left l.fn.self

abbrev pub decreases-loop-header : goal.decreases-loop-header
decreases-loop-header l = length l.self.headers.now
