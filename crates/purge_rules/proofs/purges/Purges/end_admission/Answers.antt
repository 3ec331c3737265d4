use Rattle.purge_rules.proofs.Changing.{numbered_ended}
use Rattle.purge_rules.proofs.purges.Purges.end_admission.Goals as goal

pub invariant_of-self : goal.invariant_of-self
invariant_of-self c =
    rw c.end_in.ensures
    (numbered_ended record { last = c.self.inside.last; pending = c.self.inside.pending.items; admissions = c.self.inside.admissions.items } c.args.number
    c.self.invariant)
