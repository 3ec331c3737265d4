use Rattle.std.proofs.Common.{◌∙◌}
use Rattle.roster.proofs.judge.unknown_peer.Goals as goal

pub returns : goal.returns
returns c = c.unknown_peer_of.ensures ∙ rw (c.requires, c.as_slice.ensures)
