-- Each way through the loop is one case of Held: a doubled place, a note without a flaw, a flaw, a record that closes at
-- place 0, and the end.
use Rattle.std.proofs.Common.{sym, ◌∙◌, ap, subst}
use Rattle.std.proofs.lemmas.Bool.{false≢true}
use Rattle.run_rules.specs.First.{IsFirstOn}
use Rattle.run_notes.specs.Held.{note_of, ordered_of, order_in}
use Rattle.run_check.specs.Boards.{board_of, IsJudged}
use Rattle.run_check.specs.First.{named, verdict_of}
use Rattle.run_check.proofs.Held.{Stands, begins_held, moves_held, stays_held, double_held, flawed_held, ends_held}
use Rattle.run_check.proofs.check.check_run.Goals as goal

pub loop-ordered-init : goal.loop-ordered-init
loop-ordered-init c =
    begins_held c.args.roster.now c.args.records.now c.args.entries.now c.new-board.result c.has_flawed_alone-is_flawed.result (order_in c.in_ok-notes.notes)
    c.new-board.ensures.board c.new-board.ensures.holds c.in_ok-notes.ensures c.has_flawed_alone-is_flawed.ensures

pub returns-in-Some-double : goal.returns-in-Some-double
returns-in-Some-double c =
    subst (IsFirstOn c.args.roster.now c.args.records.now c.args.entries.now) (sym c.named.ensures)
    (double_held c.args.roster.now c.args.records.now c.args.entries.now c.loop-ordered.is_flawed c.loop-ordered.board (order_in c.loop-ordered.notes)
    (ordered_of c.in-Some.ordered) (order_in c.take.new.self) c.in-Some.ensures c.loop-ordered.invariant c.in-Some-double.place c.in-Some-double.is)

pub returns-then-not-closes_at_zero : goal.returns-then-not-closes_at_zero
returns-then-not-closes_at_zero c =
    let roster = c.args.roster.now in
    let old = c.loop-ordered.board in
    let note = note_of c.in-Some.ordered.note in
    let cause = c.in-Some-2.cause in
    let is = c.named-then-not-closes_at_zero.ensures
    ∙ ap (λ p. verdict_of (named c.loop-ordered.is_flawed (record { place = p; cause = cause }))) c.place_of.ensures in
    subst (IsFirstOn roster c.args.records.now c.args.entries.now) (sym is)
    (flawed_held roster c.args.records.now c.args.entries.now c.loop-ordered.is_flawed old (order_in c.loop-ordered.notes) (ordered_of c.in-Some.ordered)
    (order_in c.take.new.self) c.in-Some.ensures c.loop-ordered.invariant c.judge.new.self cause c.in_default-double.is
    (λ closes. false≢true (sym c.if-not-closes_at_zero.true ∙ c.closes_at_zero.ensures.1 closes))
    (λ sent board. subst (IsJudged roster (board_of old sent) note c.judge.new.self) c.in-Some-2.is (c.in_ok-cause.ensures sent board)))

pub loop-ordered-preserved-in-Some-2 : goal.loop-ordered-preserved-in-Some-2
loop-ordered-preserved-in-Some-2 c =
    let roster = c.args.roster.now in
    let old = c.loop-ordered.board in
    let note = note_of c.in-Some.ordered.note in
    stays_held roster c.args.records.now c.args.entries.now c.loop-ordered.is_flawed old (order_in c.loop-ordered.notes) (ordered_of c.in-Some.ordered)
    (order_in c.take.new.self) c.in-Some.ensures c.loop-ordered.invariant c.judge.new.self c.in-Some-2.cause c.in_default-double.is
    (c.closes_at_zero.ensures.0 c.if-not-closes_at_zero.false)
    (λ sent board. subst (IsJudged roster (board_of old sent) note c.judge.new.self) c.in-Some-2.is (c.in_ok-cause.ensures sent board))

pub loop-ordered-preserved : goal.loop-ordered-preserved
loop-ordered-preserved c =
    let roster = c.args.roster.now in
    let old = c.loop-ordered.board in
    let note = note_of c.in-Some.ordered.note in
    moves_held roster c.args.records.now c.args.entries.now c.loop-ordered.is_flawed old (order_in c.loop-ordered.notes) (ordered_of c.in-Some.ordered)
    (order_in c.take.new.self) c.in-Some.ensures c.loop-ordered.invariant c.judge.new.self c.in_default-double.is
    (λ sent board. subst (IsJudged roster (board_of old sent) note c.judge.new.self) c.in_default-2.is (c.in_ok-cause.ensures sent board))

pub returns : goal.returns
returns c =
    let stands = subst (λ b. Stands c.args.roster.now c.args.records.now c.args.entries.now b c.loop-ordered.board (order_in c.loop-ordered.notes))
    c.if-is_flawed.false c.loop-ordered.invariant in
    ends_held c.args.roster.now c.args.records.now c.args.entries.now c.loop-ordered.board (order_in c.loop-ordered.notes) c.ending.result
    c.in_default.ensures c.ending.ensures stands
