-- The loop holds that what is left fits as far as all of it (`last_over`): the last copy of a list
-- that does not fit is not among those that fit.
use Rattle.std.proofs.Common.{◌≡◌, ◌<◌, ◌++◌, ◌∷◌, [], ◌⊎◌, inl, inr, length, sym, ap, ◌∙◌, arith}
use Rattle.std.proofs.lemmas.Map.Entries.{length-values_of}
use Rattle.object_store.specs.Listed.{fitting, octets}
use Rattle.object_store.specs.Cached.{copies_in}
use Rattle.object_store.proofs.Entries.{last_out, cached_take}
use Rattle.object_store.proofs.Places.{last_over, all_fit, octets_push}
use Rattle.object_store.proofs.cached.make_room.Goals.{then-len-count, else-len-count+then-left-bytes}
use Rattle.object_store.proofs.cached.make_room.Goals as goal

pub overflow_sub-left : goal.overflow_sub-left
overflow_sub-left g c =
    let split = last_out c.loop-cache.cache.entries _ c.in-Some.ensures.value in
    let rest = copies_in c.pop_lru.new.self in
    omega (
      arith,
      octets_push rest c.in-Some.last,
      ap octets (split ∙ ap (λ cs. cs ++ c.in-Some.last ∷ []) (sym (ap copies_in c.pop_lru.ensures.entries))),
      c.loop-cache.invariant.counted,
      c.size.ensures.value,
    )

pub loop-cache-preserved : goal.loop-cache-preserved
loop-cache-preserved g c =
    let rest = copies_in c.pop_lru.new.self in
    let last = c.in-Some.last in
    let split : copies_in c.loop-cache.cache ≡ rest ++ last ∷ [] =
    last_out c.loop-cache.cache.entries _ c.in-Some.ensures.value ∙ ap (λ cs. cs ++ last ∷ []) (sym (ap copies_in c.pop_lru.ensures.entries)) in
    let many = length-values_of c.loop-cache.cache.entries in
    let over : (c.args.count < length (rest ++ last ∷ [])) ⊎ (c.args.bytes < octets (rest ++ last ∷ [])) =
    rw (← split) (elim c.if-len-count.branch [
      | then-len-count w ↦ inl (omega (arith, w.if-len-count.true, many, c.len.ensures.len))
      | else-len-count+then-left-bytes w ↦ inr (omega (arith, w.if-left-bytes.true, c.loop-cache.invariant.counted))
    ]) in record {
      fits = sym (last_over c.args.count c.args.bytes rest last over) ∙ ap (fitting c.args.count c.args.bytes) (sym split) ∙ c.loop-cache.invariant.fits;
      counted = omega (arith, octets_push rest last, ap octets split, c.loop-cache.invariant.counted, c.size.ensures.value);
      cached = rw c.pop_lru.ensures.entries (cached_take _ c.loop-cache.cache c.loop-cache.invariant.cached);
    }

pub returns-clause-copies : goal.returns-clause-copies
returns-clause-copies g c =
    let many = length-values_of c.loop-cache.cache.entries in
    sym (all_fit c.args.count c.args.bytes (copies_in c.loop-cache.cache) (omega (arith, many, c.len.ensures.len))
    (omega (arith, c.loop-cache.invariant.counted))) ∙ c.loop-cache.invariant.fits
