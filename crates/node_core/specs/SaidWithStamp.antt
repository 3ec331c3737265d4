-- What an answer to a round says, where a member's word and a foreign cache's may differ.
use Rattle.std.specs.Prelude.{if◌then◌else◌}
use Rattle.values_tables.specs.Ranges.{is_foreign_id}
use Rattle.values_tables.specs.declared.plain.Peer.{Peer}
use Rattle.peer_chooser.specs.declared.said.Said.{Said}
use Rattle.node_core.specs.declared.questions.SaidWithStamp.{SaidWithStamp}

-- What it says if this peer sent it.
abbrev pub said_by : SaidWithStamp → Peer → Said
said_by h p = if is_foreign_id p.id then h.foreign else h.member
