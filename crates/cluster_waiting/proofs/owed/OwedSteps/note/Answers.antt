use Rattle.std.proofs.Common.{rules, ◌≡◌, ◌∷◌, [], false, length-append, arith}
use Rattle.cluster_waiting.specs.Owed.{has_serial}
use Rattle.cluster_waiting.proofs.Apart.{apart_push}
use Rattle.cluster_waiting.proofs.owed.OwedSteps.note.Goals as goal

pub invariant_of-self : goal.invariant_of-self
invariant_of-self c =
    let owed = c.self.inside.steps.items in
    let none : has_serial owed c.args.step.serial ≡ false = search rules in
    rw c.push_reserved.ensures.items (
      apart_push owed c.args.step c.self.invariant.0 none,
      omega (arith, c.if-len-ge-MOST_OWED.false, c.len.ensures, length-append owed (c.args.step ∷ [])),
      omega (arith, c.self.invariant.2, c.push_reserved.ensures.capacity),
    )
