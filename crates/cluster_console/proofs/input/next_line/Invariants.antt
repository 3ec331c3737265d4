use Rattle.std.proofs.Common.{◌≡◌}
use Rattle.std.specs.Prelude.{vec_capacity}
use Rattle.cluster_console.specs.Taking.{Taking}
use Rattle.cluster_console.proofs.input.next_line.Given as goal

-- the octets that were read are a front of the line, and the place for them has not changed
abbrev pub invariant-octets : goal.invariant-octets
invariant-octets g l = record {
  capacity : vec_capacity l.line ≡ vec_capacity l.fn.line;
  taking : Taking (g.I.Read.remaining l.fn.input) (g.I.Read.remaining l.input) l.line.items;
}
