use Rattle.std.proofs.Common.{flat_map, take}
use Rattle.purge_rules.specs.Members.{possible_ids}
use Rattle.world_rules.specs.Consequence.{clear_if}
use Rattle.run_network.proofs.Clears.{Held}
use Rattle.run_network.proofs.letters.Letters.clear_all.Given as goal

abbrev pub invariant-loop-id : goal.invariant-loop-id
invariant-loop-id l = Held l.roster l.initial.self l.self (flat_map (clear_if l.roster l.needed l.number l.key) (take l.id-index possible_ids))
