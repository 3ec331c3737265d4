use Rattle.std.proofs.Common.{◌≡◌}
use Rattle.http_reading.specs.Left.{values_left}
use Rattle.http_reading.specs.Framing.{both, codings, named_by}
use Rattle.http_reading.proofs.codings.codings_left.Given as goal

abbrev pub invariant-loop-value : goal.invariant-loop-value
invariant-loop-value l = both l.named (named_by (codings (values_left l.values))) ≡ named_by (codings (values_left l.fn.values))
