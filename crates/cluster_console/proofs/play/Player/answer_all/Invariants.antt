use Rattle.std.proofs.Common.{◌≡◌, ◌≤◌}
use Rattle.std.specs.Prelude.{vec_capacity}
use Rattle.cluster_console.specs.Answering.{Answering}
use Rattle.cluster_console.proofs.play.Player.answer_all.Given as goal

-- the lines that were taken are answered, and the place for a line has not changed
abbrev pub invariant-lines : goal.invariant-lines
invariant-lines g l = record {
  room : 140001 ≤ vec_capacity l.line;
  roster : l.self.roster.now ≡ l.fn.self.roster.now;
  on : Answering l.fn.self.roster.now l.is_whole l.is_first (g.C.Checker.gathered l.fn.self.checker) (g.C.Checker.gathered l.self.checker)
      (g.I.Read.remaining l.fn.input) (g.I.Read.remaining l.input) (g.O.Write.contents l.fn.output) (g.O.Write.contents l.output);
}
