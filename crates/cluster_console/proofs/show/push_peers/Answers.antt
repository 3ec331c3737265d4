use Rattle.std.proofs.Common.{◌+◌, ◌++◌, length, add-one, rules}
use Rattle.std.specs.Prelude.{codes, decimal}
use Rattle.cluster_console.specs.Shown.{peer_line}
use Rattle.cluster_console.proofs.Rows.{rows_more}
use Rattle.cluster_console.proofs.show.push_peers.Goals as goal

pub loop-peer-preserved : goal.loop-peer-preserved
loop-peer-preserved c =
    rows_more peer_line c.args.dead.now c.loop-peer.peer-index (c.loop-peer.peer-index + 1) _ c.args.text.now.items
    (codes "peers " ++ decimal (length c.args.dead.now)) c.loop-peer.text.items c.push_peer.new.text.items (add-one c.loop-peer.peer-index)
    c.loop-peer-test.true (search rules) c.loop-peer.invariant c.in_ok-push_peer.ensures
