use Rattle.std.proofs.Common.{sym, ◌∙◌}
use Rattle.http_lists.proofs.Cuts.{IsCutTo-start, IsCutTo-more, cut_at_comma, cut_nowhere}
use Rattle.http_lists.proofs.members.member_length.Goals as goal

pub loop-index-init : goal.loop-index-init
loop-index-init c = IsCutTo-start c.args.text.now

pub returns-then-ends_member-clause-cut : goal.returns-then-ends_member-clause-cut
returns-then-ends_member-clause-cut c =
    cut_at_comma c.args.text.now c.loop-index.index c.loop-index.quoting c.loop-index-test.true (sym c.ends_member.ensures ∙ c.if-ends_member.true)
    c.loop-index.invariant

pub loop-index-preserved : goal.loop-index-preserved
loop-index-preserved c =
    rw c.after-quoting.ensures
    (IsCutTo-more c.args.text.now c.loop-index.index c.loop-index.quoting c.loop-index-test.true (sym c.ends_member.ensures ∙ c.if-ends_member.false)
    c.loop-index.invariant)

pub returns-clause-cut : goal.returns-clause-cut
returns-clause-cut c = cut_nowhere c.args.text.now c.loop-index.index c.loop-index.quoting c.loop-index-test.false c.loop-index.invariant
