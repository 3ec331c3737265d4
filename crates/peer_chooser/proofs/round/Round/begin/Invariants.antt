use Rattle.std.proofs.Common.{◌≡◌, ◌≤◌, length, take, filter}
use Rattle.peer_chooser.specs.Round.{may_ask}
use Rattle.peer_chooser.proofs.round.Round.begin.Given as goal

abbrev pub invariant-loop-peer : goal.invariant-loop-peer
invariant-loop-peer l = record {
  few : l.asked_count ≤ l.peer-index;
  whole : length l.asked ≡ 23;
  same : take l.asked_count l.asked ≡ filter (may_ask l.floor) (take l.peer-index l.peers);
}
