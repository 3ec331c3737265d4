-- A pending request can go on: each fetch that it may still begin has a serial in its block. It
-- begins at most one fetch for each answer to its round and three origin reads, 26 in all; a block
-- has serials for 31 fetches.
use Rattle.std.specs.Prelude.{ℕ, ◌+◌, ◌≤◌, Bool, false, not, ◌&&◌, ◌==◌, List, [], length, count_by, Option, Some, None}
use Rattle.std.specs.List.{list_any}
use Rattle.peer_chooser.specs.declared.said.FirstAnswer.{FirstAnswer}
use Rattle.peer_chooser.specs.Round.{RoundText}
use Rattle.node_rules.specs.declared.state.Fetch.{Fetch}
use Rattle.node_rules.specs.declared.state.Fetch.TheVariants.{Nowhere, AtPeer, AtOrigin}
use Rattle.node_rules.specs.declared.state.Pending.{Pending}

-- The answers to its round; none without a round.
abbrev pub answers_of : Option RoundText → List FirstAnswer
answers_of None = []
answers_of (Some r) = r.answers

-- The present fetch is from the peer of this id.
abbrev pub is_asked_now : {X : Type 0} → ℕ → Fetch X → Bool
is_asked_now id Nowhere = false
is_asked_now id (AtPeer peer asked) = peer == id
is_asked_now id (AtOrigin stamp asked mark) = false

-- The answer is of a peer that was not tried, and that the present fetch is not from.
abbrev pub is_untried : {X : Type 0} → List ℕ → Fetch X → FirstAnswer → Bool
is_untried tried fetch t = not (list_any (λ id. id == t.peer.id) tried) && not (is_asked_now t.peer.id fetch)

-- How many answers may still be followed.
abbrev pub untried_count : {X : Type 0} → Pending X → ℕ
untried_count p = count_by (is_untried p.tried p.fetch) (answers_of p.round)

-- At most three reads and at most 23 answers. The fetches begun, and the answers that may still be
-- followed, are together no more than the reads and the answers.
pub record CanGoOn {X : Type 0} (p : Pending X) : Type 0 where
  pub few_reads : p.reads ≤ 3
  pub few_answers : length (answers_of p.round) ≤ 23
  pub serials : p.fetches + untried_count p ≤ p.reads + length (answers_of p.round)
