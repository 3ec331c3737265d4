-- Promoting an entry is moving its copy to the front, which keeps the store and its count.
use Rattle.std.proofs.Common.{◌≡◌, ap, ◌∙◌, is_some}
use Rattle.object_store.specs.Listed.{copy_of, to_front}
use Rattle.object_store.specs.Cached.{copies_in}
use Rattle.object_store.proofs.Entries.{found_in, front_of, cached_front}
use Rattle.object_store.proofs.Places.{counted_to_front}
use Rattle.object_store.proofs.store.Store.bring.Goals as goal

pub invariant_of-self : goal.invariant_of-self
invariant_of-self g c =
    let held = c.self.inside in
    let moved : copies_in c.promote.new.self ≡ to_front c.args.key.now (copies_in held.cache) =
    ap copies_in c.promote.ensures.entries ∙ front_of c.args.key.now held.cache.entries c.self.invariant.1.keyed c.self.invariant.0.is_store.one_each in (
      rw moved (counted_to_front held.limit_count held.limit_bytes c.args.key.now (copies_in held.cache) held.octets c.self.invariant.0),
      rw c.promote.ensures.entries (cached_front _ held.cache c.self.invariant.1),
    )

pub returns-clause-answer : goal.returns-clause-answer
returns-clause-answer g c =
    c.promote.ensures.value ∙ ap is_some (found_in c.args.key.now c.self.inside.cache.entries c.self.invariant.1.keyed)
    ∙ ap (λ held. is_some (copy_of c.args.key.now held.copies)) c.self.view_is

pub returns-clause-moved : goal.returns-clause-moved
returns-clause-moved g c =
    let held = c.self.inside in
    let moved : copies_in c.promote.new.self ≡ to_front c.args.key.now (copies_in held.cache) =
    ap copies_in c.promote.ensures.entries ∙ front_of c.args.key.now held.cache.entries c.self.invariant.1.keyed c.self.invariant.0.is_store.one_each in
    rw (← c.self.view_is) (rw moved)
