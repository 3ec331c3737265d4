-- What `put_first` and `make_room` leave is what fits of the new list, which is a store again.
use Rattle.std.proofs.Common.{◌≡◌, ◌∷◌, ap, subst, sym, ◌∙◌}
use Rattle.object_store.specs.declared.store.Put.TheVariants.{Stored}
use Rattle.object_store.specs.Listed.{without, fitting}
use Rattle.object_store.specs.Cached.{copies_in}
use Rattle.object_store.proofs.Stores.{IsStoreOf, store_put}
use Rattle.object_store.proofs.store.Store.put_fitting.Goals as goal

pub invariant_of-self-2 : goal.invariant_of-self-2
invariant_of-self-2 g c =
    let held = c.self.inside in
    let most = held.limit_count in
    let limit = held.limit_bytes in
    let after = copies_in c.make_room-self-inside.new.cache in
    let fitted : after ≡ fitting most limit (c.args.copy ∷ without c.args.copy.key (copies_in held.cache)) =
    c.make_room-self-inside.ensures.copies ∙ ap (fitting most limit) c.in-Ok.ensures.copies in (
      record {
        is_store = subst (IsStoreOf most limit) (sym fitted) (store_put most limit c.args.copy (copies_in held.cache) Stored c.self.invariant.0.is_store);
        counted = c.make_room-self-inside.ensures.octets;
        some = c.self.invariant.0.some;
      },
      c.make_room-self-inside.ensures.cached,
    )
