use Rattle.std.proofs.Common.{◌≡◌, ◌∙◌, false, refl, sym, subst, arith}
use Rattle.cluster_console.specs.Answering.{Answering, is_over}
use Rattle.cluster_console.proofs.Answering.{answering_begins, answered_taken, answered_some}
use Rattle.cluster_console.proofs.play.Player.answer_all.Goals as goal

pub lines-init : goal.lines-init
lines-init g c = record {
  room = c.requires;
  roster = refl;
  on = answering_begins c.args.self.now.roster.now (g.C.Checker.gathered c.args.self.now.checker) (g.I.Read.remaining c.args.input.now)
      (g.O.Write.contents c.args.output.now);
}

pub returns-in-Err : goal.returns-in-Err
returns-in-Err g c =
    answered_some c.args.self.now.roster.now c.lines.is_whole c.lines.is_first (g.C.Checker.gathered c.args.self.now.checker)
    (g.C.Checker.gathered c.lines.self.checker) (g.I.Read.remaining c.args.input.now) (g.I.Read.remaining c.lines.input)
    (g.O.Write.contents c.args.output.now) (g.O.Write.contents c.lines.output) c.lines.invariant.on

pub lines-preserved : goal.lines-preserved
lines-preserved g c =
    let roster = c.args.self.now.roster.now in
    let before = g.C.Checker.gathered c.args.self.now.checker in
    let next = g.C.Checker.gathered c.answer_taken-written.new.self.checker in
    let input = g.I.Read.remaining c.args.input.now in
    let after = g.I.Read.remaining c.next_line.new.input in
    let old = g.O.Write.contents c.args.output.now in
    let new = g.O.Write.contents c.answer_taken-written.new.output in
    let line = c.next_line.new.line.items in
    let other : is_over c.in-Ok.taken line ≡ false = rw c.as_slice.ensures.value at (sym c.is_over.ensures ∙ c.if-is_over.false) in
    record {
      room = omega (arith, c.next_line.ensures.capacity, c.lines.invariant.room);
      roster = c.answer_taken-written.ensures.roster ∙ c.lines.invariant.roster;
      on = subst (λ whole. Answering roster whole false before next input after old new) (sym c.both-is_whole.ensures)
          (answered_taken roster c.in-Ok.taken c.lines.is_whole c.answer_taken-written.result c.lines.is_first before
          (g.C.Checker.gathered c.lines.self.checker) next input (g.I.Read.remaining c.lines.input) after line old (g.O.Write.contents c.lines.output) new
          c.lines.invariant.on c.in-Ok.ensures.taken other
          (rw (c.lines.invariant.roster, c.as_slice-in-lines.ensures.value) at c.answer_taken-written.ensures.answered));
    }
