use Rattle.std.proofs.Common.{drop, option_map}
use Rattle.values_lines.specs.Reading.{IsCounted, most_left}
use Rattle.values_lines.specs.Playing.{Playing}
use Rattle.values_lines.proofs.script.play_before.Given as goal

abbrev pub invariant-lines : goal.invariant-lines
invariant-lines g l = record {
  playing : Playing g.S.Script.answers (option_map (λ text. text.now) l.fn.last) l.fn.script l.script (g.R.Read.remaining l.fn.reader)
      (drop l.source.next l.source.held.items) (g.R.Read.remaining l.reader) (g.W.Write.contents l.fn.writer) (g.W.Write.contents l.writer) l.text.items;
  counted : IsCounted 0 (g.R.Read.remaining l.fn.reader) l.source.turns (g.R.Read.remaining l.reader);
}

abbrev pub decreases-lines : goal.decreases-lines
decreases-lines g l = most_left l.source.turns (drop l.source.next l.source.held.items)
