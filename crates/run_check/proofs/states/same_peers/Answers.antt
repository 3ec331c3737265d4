use Rattle.std.proofs.Common.{rules, tests}
use Rattle.std.proofs.lemmas.Slice.Eq.{slice_eq-Decides}
use Rattle.values_tables.specs.declared.plain.Peer.{Peer}
use Rattle.run_check.proofs.states.same_peers.Goals as goal

pub returns : goal.returns
returns c = slice_eq-Decides (λ (a b : Peer). search (rules, tests)) c.args.one.now c.args.other.now c.eq.result c.eq.ensures
