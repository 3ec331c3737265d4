use Rattle.std.proofs.Common.{length}
use Rattle.node_copies.proofs.parts.+fields.Given as goal

abbrev pub decreases-same_fields : goal.decreases-same_fields
decreases-same_fields l = length l.one.now
