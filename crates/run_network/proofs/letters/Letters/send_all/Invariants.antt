use Rattle.std.proofs.Common.{map, take}
use Rattle.world_rules.specs.World.{datagram_from}
use Rattle.run_network.proofs.Clears.{Held}
use Rattle.run_network.proofs.letters.Letters.send_all.Given as goal

abbrev pub invariant-loop-one : goal.invariant-loop-one
invariant-loop-one l = Held l.roster l.initial.self l.self (map (datagram_from l.cache) (take l.one-index l.outgoing))
