-- A round of queries to a member's peers (RFC 2187, section 5): who is asked, and whose answers
-- count.
use Rattle.std.specs.Prelude.{ℕ, Bool, true, false, not, ◌||◌, ◌==◌, List, [], ◌∷◌, ◌++◌, filter, find, Option, Some, None, if◌then◌else◌}
use Rattle.std.specs.List.{list_any}
use Rattle.values_tables.specs.Ranges.{is_foreign_id}
use Rattle.values_tables.specs.declared.plain.Peer.{Peer}
use Rattle.peer_chooser.specs.declared.said.Said.{Said}
use Rattle.peer_chooser.specs.declared.said.FirstAnswer.{FirstAnswer}

-- What contracts see of a round: the peers asked, their first answers in order of arrival, and
-- whether the time for answers is over.
pub record RoundText : Type 0 where
  pub asked : List Peer
  pub answers : List FirstAnswer
  pub expired : Bool

-- A peer may be asked at this floor. A foreign cache takes part in no purge, so it is asked only
-- about what was never purged. [Round 1]
abbrev pub may_ask : ℕ → Peer → Bool
may_ask floor p = (floor == 0) || not (is_foreign_id p.id)

-- A round starts: it asks those of these peers that may be asked, and nobody has answered.
abbrev pub started : List Peer → ℕ → RoundText
started peers floor = record { asked = filter (may_ask floor) peers; answers = []; expired = false }

-- The peer of this id has answered.
abbrev pub has_answered : List FirstAnswer → ℕ → Bool
has_answered answers id = list_any (λ t. t.peer.id == id) answers

-- The peer of this id, if it was asked and has not answered.
abbrev pub awaited : RoundText → ℕ → Option Peer
awaited r id = if has_answered r.answers id then None else find (λ p. p.id == id) r.asked

-- The round with an answer behind the others, if there is a peer that gave it.
abbrev pub with_answer : RoundText → Said → Option Peer → RoundText
with_answer r said None = r
with_answer r said (Some p) = record r { answers = r.answers ++ record { peer = p; said = said } ∷ [] }

-- A peer's first answer counts, even if it comes late. No other answer changes anything. [Round 2]
abbrev pub answered : RoundText → ℕ → Said → RoundText
answered r id said = with_answer r said (awaited r id)

-- The time for answers is over.
abbrev pub ended : RoundText → RoundText
ended r = record r { expired = true }
