use Rattle.std.proofs.Common.{◌++◌, ◌∷◌, [], inr, ap, ◌∙◌, arith, rules}
use Rattle.node_book.specs.declared.book.NodeEntry.{NodeEntry}
use Rattle.node_book.proofs.Replaying.{book_more, is_applied}
use Rattle.node_book.proofs.book.NodeBook.apply.Goals as goal

pub invariant_of-self : goal.invariant_of-self
invariant_of-self g c =
    let few = c.in-Ok.ensures.room.0 in
    let entry : NodeEntry = c.stepped-entry.result.0 in
    book_more c.self.inside.node c.stepped-entry.new.node c.self.inside.opening c.self.inside.entries.items c.push_reserved.new.self.items entry
    c.args.event c.self.inside.filed
    c.self.invariant (omega arith) (c.push_reserved.ensures.items ∙ ap (λ l. l ++ entry ∷ []) c.room_for.ensures.same)
    (ap (λ (e : NodeEntry). e.event) c.stepped-entry.ensures.entry)
    c.stepped-entry.ensures.takes.same c.stepped-entry.ensures.takes.steps

pub returns-in-Ok-clause-applied : goal.returns-in-Ok-clause-applied
returns-in-Ok-clause-applied g c few =
    inr (is_applied c.stepped-entry.result.0 (search rules) c.stepped-entry.ensures.entry (search rules) (search rules)
    c.stepped-entry.ensures.told (search rules) c.stepped-entry.ensures.asks)
