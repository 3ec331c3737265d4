-- The copy of the key goes exactly if its stamp is less (`cleared`).
use Rattle.std.proofs.Common.{◌≡◌, true, false, cond, ap, sym, ◌∙◌, rules}
use Rattle.object_store.specs.Listed.{without, copy_of, OneEach}
use Rattle.object_store.specs.Held.{is_older_than, with_copies}
use Rattle.object_store.proofs.Places.{cleared}
use Rattle.object_store.proofs.store.Store.clear_below.Goals as goal

pub returns-then-holds_older-clause-removed : goal.returns-then-holds_older-clause-removed
returns-then-holds_older-clause-removed g c =
    let copies = c.args.self.now.copies in
    let key = c.args.key.now in
    let one : OneEach copies = rw (← c.self.view_is) c.self.invariant.0.is_store.one_each in
    let older : is_older_than c.args.stamp (copy_of key copies) ≡ true = grind rules in
    c.remove.ensures.removed
    ∙ ap (with_copies c.args.self.now) (sym (cleared key c.args.stamp copies one ∙ ap (λ b. cond b (without key copies) copies) older))

pub returns-else-holds_older-clause-removed : goal.returns-else-holds_older-clause-removed
returns-else-holds_older-clause-removed g c =
    let copies = c.args.self.now.copies in
    let key = c.args.key.now in
    let one : OneEach copies = rw (← c.self.view_is) c.self.invariant.0.is_store.one_each in
    let older : is_older_than c.args.stamp (copy_of key copies) ≡ false = grind rules in
    ap (with_copies c.args.self.now) (sym (cleared key c.args.stamp copies one ∙ ap (λ b. cond b (without key copies) copies) older))
