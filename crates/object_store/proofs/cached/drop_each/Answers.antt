-- The loop holds that the keys still to come leave of the rest what all keys leave of all copies,
-- and that the octets of the rest are counted. A copy that is popped is in the sum, so the
-- subtraction does not overflow.
use Rattle.std.proofs.Common.{◌≡◌, Some, ap, sym, subst, ◌∙◌, arith}
use Rattle.object_store.specs.Listed.{copy_of, without, octets, OneEach}
use Rattle.object_store.specs.Cached.{copies_in}
use Rattle.object_store.proofs.Entries.{found_in, out_of, cached_out, without_next}
use Rattle.object_store.proofs.Places.{none_out, octets_out}
use Rattle.object_store.proofs.Stores.{one_each_filtered}
use Rattle.object_store.proofs.cached.drop_each.Goals.{in-Some, in_default}
use Rattle.object_store.proofs.cached.drop_each.Goals as goal

pub overflow_sub-left : goal.overflow_sub-left
overflow_sub-left g c =
    let inv = c.loop-key.invariant in
    let copies = copies_in c.loop-key.cache in
    let key = c.key-item.result in
    let found : copy_of key copies ≡ Some c.in-Some.copy = sym (found_in key c.loop-key.cache.entries inv.cached.keyed) ∙ sym c.in-Some.ensures.value in
    omega (arith, octets_out key copies c.in-Some.copy inv.one_each found, inv.counted, c.size-left.ensures.value)

-- One key is taken out: the copies without it are left, and their octets are those before less those of its copy.
pub loop-key-preserved : goal.loop-key-preserved
loop-key-preserved g c =
    let inv = c.loop-key.invariant in
    let copies = copies_in c.loop-key.cache in
    let key = c.key-item.result in
    let gone : copies_in c.pop.new.self ≡ without key copies = ap copies_in c.pop.ensures.entries
    ∙ out_of key c.loop-key.cache.entries inv.cached.keyed inv.one_each in
    let found = found_in key c.loop-key.cache.entries inv.cached.keyed in record {
      rest = rw gone (without_next c.args.keys.now c.loop-key.key-index key copies (omega arith) c.key-item.is ∙ inv.rest);
      counted = elim c.match-pop.branch [
        | in-Some w ↦ omega (
          arith,
          w.left-is,
          octets_out key copies w.in-Some.copy inv.one_each (sym found ∙ sym w.in-Some.ensures.value),
          ap octets gone,
          inv.counted,
          w.size-left.ensures.value,
        )
        | in_default w ↦ w.left-is ∙ inv.counted ∙ ap octets (sym (gone ∙ none_out key copies (sym found ∙ sym w.in_default.ensures.value)))
      ];
      one_each = subst OneEach (sym gone) (one_each_filtered _ copies inv.one_each);
      cached = rw c.pop.ensures.entries (cached_out _ c.loop-key.cache inv.cached);
    }
