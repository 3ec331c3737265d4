use Rattle.std.specs.Io.KnownBytes.{Keeps}
use Rattle.cluster_console.proofs.input.next_octet.Given as goal

-- nothing was taken yet
abbrev pub invariant-reads : goal.invariant-reads
invariant-reads g l = Keeps (g.I.Read.remaining l.fn.input) (g.I.Read.remaining l.input)
