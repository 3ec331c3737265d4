-- The map gives back the old copy of the key, if there was one; what it had counted goes out of
-- the sum (`octets_out`).
use Rattle.std.proofs.Common.{◌≡◌, ◌≤◌, ◌-◌, Some, None, length, ap, sym, ◌∙◌, arith}
use Rattle.std.specs.Prelude.{bytes_eq}
use Rattle.std.specs.Map.{values_of}
use Rattle.lru.specs.LruCache.{put_entries}
use Rattle.object_store.specs.Listed.{copy_of, octets}
use Rattle.object_store.specs.Cached.{copies_in}
use Rattle.object_store.proofs.Entries.{found_in, put_in, cached_put}
use Rattle.object_store.proofs.Places.{none_out, octets_out}
use Rattle.object_store.proofs.cached.put_first.Goals as goal

pub overflow_sub-result : goal.overflow_sub-result
overflow_sub-result g c =
    let copies = copies_in c.args.cache.now in
    let found : copy_of c.args.copy.key copies ≡ Some c.in-Some.old =
    sym (found_in c.args.copy.key c.args.cache.now.entries c.requires.cached.keyed) ∙ sym (rw c.in-Ok.ensures at c.in-Ok-put.ensures.old) ∙ c.in-Some.is in
    omega (arith, octets_out c.args.copy.key copies c.in-Some.old c.requires.one_each found, c.requires.octets, c.size.ensures.value)

pub returns-in-None-clause-copies : goal.returns-in-None-clause-copies
returns-in-None-clause-copies g c =
    let cache = c.args.cache.now in
    let room : length cache.entries ≤ cache.cap - 1 = omega (arith, c.len-count.ensures.fits, c.len-count.ensures.len, c.requires.cached.cap) in
    ap copies_in c.in-Ok-put.ensures.entries ∙ ap (λ k. values_of (put_entries bytes_eq cache k c.args.copy)) c.in-Ok.ensures
    ∙ put_in cache c.args.copy room c.requires.cached.keyed c.requires.one_each

pub returns-in-None-clause-octets : goal.returns-in-None-clause-octets
returns-in-None-clause-octets g c =
    let copies = copies_in c.args.cache.now in
    let none : copy_of c.args.copy.key copies ≡ None =
    sym (found_in c.args.copy.key c.args.cache.now.entries c.requires.cached.keyed) ∙ sym (rw c.in-Ok.ensures at c.in-Ok-put.ensures.old) ∙ c.in-None.is in
    c.requires.octets ∙ ap octets (sym (none_out c.args.copy.key copies none))

pub returns-in-None-clause-cached : goal.returns-in-None-clause-cached
returns-in-None-clause-cached g c =
    rw (c.in-Ok-put.ensures.entries, c.in-Ok.ensures) (cached_put c.args.cache.now c.args.copy c.requires.cached)

pub returns-in-Some-clause-copies : goal.returns-in-Some-clause-copies
returns-in-Some-clause-copies g c =
    let cache = c.args.cache.now in
    let room : length cache.entries ≤ cache.cap - 1 = omega (arith, c.len-count.ensures.fits, c.len-count.ensures.len, c.requires.cached.cap) in
    ap copies_in c.in-Ok-put.ensures.entries ∙ ap (λ k. values_of (put_entries bytes_eq cache k c.args.copy)) c.in-Ok.ensures
    ∙ put_in cache c.args.copy room c.requires.cached.keyed c.requires.one_each

pub returns-in-Some-clause-octets : goal.returns-in-Some-clause-octets
returns-in-Some-clause-octets g c =
    let copies = copies_in c.args.cache.now in
    let found : copy_of c.args.copy.key copies ≡ Some c.in-Some.old =
    sym (found_in c.args.copy.key c.args.cache.now.entries c.requires.cached.keyed) ∙ sym (rw c.in-Ok.ensures at c.in-Ok-put.ensures.old) ∙ c.in-Some.is in
    omega (arith, octets_out c.args.copy.key copies c.in-Some.old c.requires.one_each found, c.requires.octets, c.size.ensures.value)

pub returns-in-Some-clause-cached : goal.returns-in-Some-clause-cached
returns-in-Some-clause-cached g c =
    rw (c.in-Ok-put.ensures.entries, c.in-Ok.ensures) (cached_put c.args.cache.now c.args.copy c.requires.cached)
