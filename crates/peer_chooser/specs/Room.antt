-- Why a round's array of answers is long enough.
use Rattle.std.specs.Prelude.{◌≡◌, ℕ, ◌+◌, ◌≤◌, not, List, length, count_by, take}
use Rattle.values_tables.specs.declared.plain.Peer.{Peer}
use Rattle.peer_chooser.specs.declared.said.FirstAnswer.{FirstAnswer}
use Rattle.peer_chooser.specs.Round.{has_answered}

-- How many of these peers have not answered.
abbrev pub awaited_count : List Peer → List FirstAnswer → ℕ
awaited_count asked answers = count_by (λ p. not (has_answered answers p.id)) asked

-- At most 23 peers are asked, and there are 23 places for answers. The places used, and the peers
-- that have not answered, are together no more than the peers asked.
pub record HasRoom (asked : List Peer) (asked_count : ℕ) (answers : List FirstAnswer) (answer_count : ℕ) : Type 0 where
  pub few : asked_count ≤ 23
  pub places : length answers ≡ 23
  pub room : answer_count + awaited_count (take asked_count asked) (take answer_count answers) ≤ asked_count
