-- What holds of every choice.
use Rattle.std.specs.Prelude.{◌≡◌, ◌≢◌, ◌⊎◌, ℕ, Bool, true, List, Contains}
use Rattle.values_tables.specs.Roles.{is_sibling, is_parent}
use Rattle.peer_chooser.specs.declared.said.FirstAnswer.{FirstAnswer}
use Rattle.peer_chooser.specs.declared.said.Source.TheVariants as source
use Rattle.peer_chooser.specs.Round.{RoundText, ended}
use Rattle.peer_chooser.specs.Choice.{choice, is_open, is_hit, is_miss}

-- The request goes to a peer that answered, may be asked at the floor and was not tried. The peer
-- has a copy that may be new enough, or it is a parent without a copy. The request bears
-- `only-if-cached` exactly if the peer is a sibling.
pub record FollowsAnswer (r : RoundText) (floor : ℕ) (tried : List ℕ) (id : ℕ) (only_if_cached : Bool) : Type 0 where
  pub answer : FirstAnswer
  pub answered : Contains r.answers answer
  pub peer : answer.peer.id ≡ id
  pub sibling : is_sibling answer.peer.role ≡ only_if_cached
  pub untried : is_open floor tried answer.peer ≡ true
  pub useful : (is_hit floor answer.said ≡ true) ⊎ ((is_parent answer.peer.role ≡ true) × (is_miss answer.said ≡ true))

-- Every choice of a peer follows its answer.
abbrev pub EachChoiceFollows : Type 0
EachChoiceFollows =
    (r : RoundText) (floor : ℕ) (tried : List ℕ) (id : ℕ) (only_if_cached : Bool)
    → choice r floor tried ≡ source.Peer id only_if_cached → FollowsAnswer r floor tried id only_if_cached

-- Once the time for answers is over, the choice is not to wait.
abbrev pub NoneWaitsInTheEnd : Type 0
NoneWaitsInTheEnd = (r : RoundText) (floor : ℕ) (tried : List ℕ) → choice (ended r) floor tried ≢ source.Wait
