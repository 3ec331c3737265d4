use Rattle.std.proofs.Common.{◌≡◌, ◌++◌, length, take}
use Rattle.std.specs.Prelude.{codes, decimal}
use Rattle.cluster_console.specs.Shown.{all_shown, peer_line}
use Rattle.cluster_console.proofs.show.push_peers.Given as goal

abbrev pub invariant-loop-peer : goal.invariant-loop-peer
invariant-loop-peer l =
    l.text.items ≡ l.fn.text.items ++ (codes "peers " ++ decimal (length l.fn.dead) ++ all_shown peer_line (take l.peer-index l.fn.dead))
