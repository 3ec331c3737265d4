-- The copy that the map gives back is the copy of the key; its octets go out of the count
-- (`counted_out`).
use Rattle.std.proofs.Common.{◌≡◌, Some, None, is_some, ap, sym, ◌∙◌, arith}
use Rattle.object_store.specs.Listed.{copy_of, without}
use Rattle.object_store.specs.Cached.{copies_in}
use Rattle.object_store.proofs.Entries.{found_in, out_of, cached_out}
use Rattle.object_store.proofs.Places.{counted_out, none_out, octets_out}
use Rattle.object_store.proofs.store.Store.remove.Goals as goal

pub overflow_sub-self : goal.overflow_sub-self
overflow_sub-self g c =
    let held = c.self.inside in
    let found : copy_of c.args.key.now (copies_in held.cache) ≡ Some c.in-Some.copy = sym (found_in c.args.key.now held.cache.entries c.self.invariant.1.keyed)
    ∙ sym c.in-Some.ensures.value in
    let out = octets_out c.args.key.now (copies_in held.cache) c.in-Some.copy c.self.invariant.0.is_store.one_each found in
    omega (arith, out, c.self.invariant.0.counted, c.size.ensures.value)

pub invariant_of-self : goal.invariant_of-self
invariant_of-self g c =
    let held = c.self.inside in
    let found : copy_of c.args.key.now (copies_in held.cache) ≡ Some c.in-Some.copy = sym (found_in c.args.key.now held.cache.entries c.self.invariant.1.keyed)
    ∙ sym c.in-Some.ensures.value in
    let gone : copies_in c.pop.new.self ≡ without c.args.key.now (copies_in held.cache) =
    ap copies_in c.pop.ensures.entries ∙ out_of c.args.key.now held.cache.entries c.self.invariant.1.keyed c.self.invariant.0.is_store.one_each in (
      rw gone (counted_out held.limit_count held.limit_bytes c.args.key.now (copies_in held.cache) held.octets c.in-Some.copy c.size.result found
          c.size.ensures.value c.self.invariant.0),
      rw c.pop.ensures.entries (cached_out _ held.cache c.self.invariant.1),
    )

pub invariant_of-self-in-None : goal.invariant_of-self-in-None
invariant_of-self-in-None g c =
    let held = c.self.inside in
    let none : copy_of c.args.key.now (copies_in held.cache) ≡ None = sym (found_in c.args.key.now held.cache.entries c.self.invariant.1.keyed)
    ∙ sym c.in-None.ensures.value in
    let gone : copies_in c.pop.new.self ≡ copies_in held.cache =
    ap copies_in c.pop.ensures.entries ∙ out_of c.args.key.now held.cache.entries c.self.invariant.1.keyed c.self.invariant.0.is_store.one_each
    ∙ none_out c.args.key.now (copies_in held.cache) none in (
      rw gone c.self.invariant.0,
      rw c.pop.ensures.entries (cached_out _ held.cache c.self.invariant.1),
    )

pub returns-in-Some-clause-answer : goal.returns-in-Some-clause-answer
returns-in-Some-clause-answer g c =
    ap is_some c.in-Some.ensures.value ∙ ap is_some (found_in c.args.key.now c.self.inside.cache.entries c.self.invariant.1.keyed)
    ∙ ap (λ held. is_some (copy_of c.args.key.now held.copies)) c.self.view_is

pub returns-in-Some-clause-removed : goal.returns-in-Some-clause-removed
returns-in-Some-clause-removed g c =
    let held = c.self.inside in
    let gone : copies_in c.pop.new.self ≡ without c.args.key.now (copies_in held.cache) =
    ap copies_in c.pop.ensures.entries ∙ out_of c.args.key.now held.cache.entries c.self.invariant.1.keyed c.self.invariant.0.is_store.one_each in
    rw (← c.self.view_is) (rw gone)

pub returns-in-None-clause-answer : goal.returns-in-None-clause-answer
returns-in-None-clause-answer g c =
    ap is_some c.in-None.ensures.value ∙ ap is_some (found_in c.args.key.now c.self.inside.cache.entries c.self.invariant.1.keyed)
    ∙ ap (λ held. is_some (copy_of c.args.key.now held.copies)) c.self.view_is

pub returns-in-None-clause-removed : goal.returns-in-None-clause-removed
returns-in-None-clause-removed g c =
    let held = c.self.inside in
    let gone : copies_in c.pop.new.self ≡ without c.args.key.now (copies_in held.cache) =
    ap copies_in c.pop.ensures.entries ∙ out_of c.args.key.now held.cache.entries c.self.invariant.1.keyed c.self.invariant.0.is_store.one_each in
    rw (← c.self.view_is) (rw gone)
