-- The peers that a node asks, and how they answer.
use Rattle.std.specs.Prelude.{ℕ, Bool, false, ◌+◌, ◌==◌, nat_le, List, Option, Some, None, option_map, unwrap_or, set, slice_get, if◌then◌else◌}
use Rattle.values_plain.specs.declared.address.Address.{Address}
use Rattle.values_plain.specs.declared.address.Udp.{Udp}
use Rattle.cluster_waiting.specs.declared.peers.AskedPeer.{AskedPeer}

-- a round waits, and for no peer
abbrev pub waits_for_none : Option ℕ → Bool
waits_for_none None = false
waits_for_none (Some peers) = peers == 0

-- the peer has left 20 questions running unanswered
abbrev pub is_dead : AskedPeer → Bool
is_dead p = nat_le 20 p.unanswered

-- a peer that has left nothing unanswered
abbrev pub fresh : ℕ → Udp → Address → AskedPeer
fresh id by at = record { id = id; by = by; at = at; unanswered = 0; since = 0 }

-- one question more that it left unanswered; from the twentieth on it is thought dead
abbrev pub missed : ℕ → AskedPeer → AskedPeer
missed now p = if is_dead p then p else record p { unanswered = p.unanswered + 1; since = now }

-- it is thought dead at once
abbrev pub failed : ℕ → AskedPeer → AskedPeer
failed now p = if is_dead p then p else record p { unanswered = 20; since = now }

-- it has answered
abbrev pub answered : AskedPeer → AskedPeer
answered p = record p { unanswered = 0 }

-- the peers, one of which is changed
abbrev pub with_one : List AskedPeer → ℕ → Option AskedPeer → List AskedPeer
with_one peers place None = peers
with_one peers place (Some p) = set peers place p

-- the peers, where the one at a place is changed so
abbrev pub changed : (AskedPeer → AskedPeer) → List AskedPeer → ℕ → List AskedPeer
changed change peers place = with_one peers place (option_map change (slice_get peers place))

-- the peer at a place is thought dead
abbrev pub is_dead_at : List AskedPeer → ℕ → Bool
is_dead_at peers place = unwrap_or (option_map is_dead (slice_get peers place)) false
