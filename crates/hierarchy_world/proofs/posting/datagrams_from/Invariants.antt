use Rattle.std.proofs.Common.{◌≡◌, map, take}
use Rattle.world_rules.specs.World.{datagram_from}
use Rattle.hierarchy_world.proofs.posting.datagrams_from.Given as goal

abbrev pub invariant-loop-outgoing : goal.invariant-loop-outgoing
invariant-loop-outgoing l = l.made.items ≡ map (datagram_from l.fn.cache) (take l.outgoing-index l.fn.sent)
