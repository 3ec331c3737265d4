use Rattle.std.proofs.Common.{◌-◌, ◌≤◌, drop}
use Rattle.values_lines.specs.Reading.{Takes, IsCounted, most_left}
use Rattle.values_lines.proofs.lines.LineReader.next_line.Given as goal

-- what is held grew by what was read, and no more is left than at first
abbrev pub invariant-pieces : goal.invariant-pieces
invariant-pieces g l = record {
  taken : Takes (drop l.initial.self.next l.initial.self.held.items) (g.R.Read.remaining l.initial.reader) (drop l.self.next l.self.held.items)
      (g.R.Read.remaining l.reader);
  counted : IsCounted l.initial.self.turns (g.R.Read.remaining l.initial.reader) l.self.turns (g.R.Read.remaining l.reader);
  fewer : most_left l.self.turns (drop l.self.next l.self.held.items) ≤ most_left l.initial.self.turns (drop l.initial.self.next l.initial.self.held.items);
}

abbrev pub decreases-pieces : goal.decreases-pieces
decreases-pieces g l = 70000 - l.self.turns
