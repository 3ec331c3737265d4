-- The last mark, or one mark more: the two cases of Counting.
use Rattle.std.proofs.Common.{◌≡◌, Some, None, true, false, sym, ◌∙◌, ap}
use Rattle.purge_rules.specs.Members.{with_id, are_among}
use Rattle.purge_rules.specs.Purges.{marks_at}
use Rattle.run_check.proofs.Counting.{counted_done, counted_mark}
use Rattle.run_check.proofs.ledger.Ledger.count.Goals as goal

pub returns-then-are_in-clause-counted : goal.returns-then-are_in-clause-counted
returns-then-are_in-clause-counted c =
    let own = c.args.self.now in
    let marked = c.in_ok-marked.marked in
    let found : marks_at own.purges c.args.number ≡ Some marked = sym c.marks.ensures ∙ c.in_ok-marked.was in
    let test : are_among c.args.needs (with_id c.args.member marked) ≡ true = ap (are_among c.args.needs) (sym c.insert.ensures) ∙ sym c.are_in.ensures
    ∙ c.if-are_in.true in
    ap (λ purges. record { purges = purges; done = Some c.args.number }) c.finish.ensures
    ∙ counted_done c.args.needs own.purges c.args.member c.args.number marked found test

pub returns-else-are_in-clause-counted : goal.returns-else-are_in-clause-counted
returns-else-are_in-clause-counted c =
    let own = c.args.self.now in
    let marked = c.in_ok-marked.marked in
    let found : marks_at own.purges c.args.number ≡ Some marked = sym c.marks.ensures ∙ c.in_ok-marked.was in
    let test : are_among c.args.needs (with_id c.args.member marked) ≡ false = ap (are_among c.args.needs) (sym c.insert.ensures) ∙ sym c.are_in.ensures
    ∙ c.if-are_in.false in
    ap (λ purges. record { purges = purges; done = None }) c.mark.ensures
    ∙ counted_mark c.args.needs own.purges c.args.member c.args.number marked found test
