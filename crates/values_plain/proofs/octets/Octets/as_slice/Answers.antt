use Rattle.std.proofs.Common.{rules}
use Rattle.values_plain.proofs.octets.Octets.as_slice.Goals as goal

pub returns-clause-octets : goal.returns-clause-octets
returns-clause-octets c = λ i. rw (← c.self.view_is, ← c.deref-octets.ensures.value) (search rules)
