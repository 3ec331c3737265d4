use Rattle.std.proofs.Common.{◌≡◌, map, take}
use Rattle.node_bytes.specs.Turns.{packet_of}
use Rattle.node_bytes.proofs.turns.any_packets_of.Given as goal

abbrev pub invariant-loop-sent : goal.invariant-loop-sent
invariant-loop-sent l = l.packets.items ≡ map packet_of (take l.sent-index l.fn.messages)
