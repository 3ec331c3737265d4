use Rattle.std.proofs.Common.{◌∙◌, ap}
use Rattle.object_store.specs.Listed.{copy_of}
use Rattle.object_store.proofs.Entries.{found_in}
use Rattle.object_store.proofs.store.Store.peek.Goals as goal

pub returns : goal.returns
returns g c =
    c.peek.ensures ∙ found_in c.args.key.now c.self.inside.cache.entries c.self.invariant.1.keyed
    ∙ ap (λ held. copy_of c.args.key.now held.copies) c.self.view_is
