use Rattle.std.proofs.Common.{◌≡◌, length}
use Rattle.reuse_rules.specs.Left.{directives_left}
use Rattle.reuse_rules.proofs.directive.Directives.text_left.Given as goal

abbrev pub invariant-loop-field : goal.invariant-loop-field
invariant-loop-field l = directives_left l.self ≡ directives_left l.fn.self

abbrev pub decreases-loop-field : goal.decreases-loop-field
decreases-loop-field l = length l.self.fields.now
