-- The keys collected are those of the copies with a lesser stamp, so dropping each leaves the
-- others (`without_passing`).
use Rattle.std.proofs.Common.{◌≡◌, arith, ap, ◌∙◌, not, nat_lt, filter, length, count_by}
use Rattle.std.proofs.lemmas.List.{length-map}
use Rattle.std.proofs.lemmas.List.Sums.{length-filter}
use Rattle.object_store.specs.declared.copy.WebCopy.{WebCopy}
use Rattle.object_store.specs.Listed.{octets, without_all_below}
use Rattle.object_store.specs.Cached.{copies_in, without_each}
use Rattle.object_store.proofs.Entries.{without_passing}
use Rattle.object_store.proofs.Stores.{store_filtered}
use Rattle.object_store.proofs.store.Store.clear_all_below.Goals as goal

pub invariant_of-self : goal.invariant_of-self
invariant_of-self g c =
    let held = c.self.inside in
    let copies = copies_in held.cache in
    let left : copies_in c.drop_each-self-inside.new.cache ≡ without_all_below c.args.stamp copies =
    c.drop_each-self-inside.ensures.copies ∙ ap (λ keys. without_each keys copies) (c.deref.ensures.value ∙ c.in_ok-keys.ensures)
    ∙ without_passing (λ copy. nat_lt copy.stamp c.args.stamp) copies c.self.invariant.0.is_store.one_each in (
      rw left record {
        is_store = store_filtered held.limit_count held.limit_bytes (λ copy. not (nat_lt copy.stamp c.args.stamp)) copies c.self.invariant.0.is_store;
        counted = c.drop_each-self-inside.ensures.octets ∙ ap octets left;
        some = c.self.invariant.0.some;
      },
      c.drop_each-self-inside.ensures.cached,
    )

pub returns-clause-count : goal.returns-clause-count
returns-clause-count g c =
    let counted : length c.in_ok-keys.keys.items ≡ count_by (λ copy. nat_lt copy.stamp c.args.stamp) c.args.self.now.copies =
    ap length c.in_ok-keys.ensures
    ∙ length-map (filter (λ copy. nat_lt copy.stamp c.args.stamp) (copies_in c.self.inside.cache)) (λ (copy : WebCopy _). copy.key)
    ∙ length-filter (λ copy. nat_lt copy.stamp c.args.stamp) (copies_in c.self.inside.cache)
    ∙ ap (λ held. count_by (λ copy. nat_lt copy.stamp c.args.stamp) held.copies) c.self.view_is in
    omega (arith, counted, c.len.ensures, c.in_ok-keys.keys.ok)

pub returns-clause-ok : goal.returns-clause-ok
returns-clause-ok g c =
    let copies = copies_in c.self.inside.cache in
    let left : copies_in c.drop_each-self-inside.new.cache ≡ without_all_below c.args.stamp copies =
    c.drop_each-self-inside.ensures.copies ∙ ap (λ keys. without_each keys copies) (c.deref.ensures.value ∙ c.in_ok-keys.ensures)
    ∙ without_passing (λ copy. nat_lt copy.stamp c.args.stamp) copies c.self.invariant.0.is_store.one_each in
    rw (← c.self.view_is) (rw left)
