-- What the rules of an arrival come to: by the place of the request, its present fetch, the floor
-- and the status, each rule is what the code does there.
use Rattle.std.proofs.Common.{◌≡◌, ◌≢◌, ◌∙◌, ℕ, ◌<◌, ◌≤◌, ◌==◌, nat_le, true, false, List, [], ◌∷◌, ◌++◌, Option, Some, None, slice_get, refl, ap, sym, arith}
use Rattle.std.proofs.Common.{rules}
use Rattle.std.proofs.lemmas.Bool.Decides.{nat_tests}
use Rattle.std.proofs.lemmas.Grind.{common_steps}
use Rattle.std.proofs.lemmas.Option.{same_Some}
use Rattle.http_messages.specs.Answer.{AnswerText}
use Rattle.floor_rules.specs.Floors.{floor}
use Rattle.peer_chooser.specs.Round.{RoundText, ended as ended_round}
use Rattle.reuse_rules.specs.Lifetime.{lifetime}
use Rattle.node_rules.specs.declared.state.Pending.{Pending}
use Rattle.node_rules.specs.declared.state.NodeState.{NodeState}
use Rattle.node_rules.specs.declared.reply.Served.TheVariants.{Copy}
use Rattle.node_rules.specs.declared.state.Fetch.{Fetch}
use Rattle.node_rules.specs.declared.state.Fetch.TheVariants.{Nowhere, AtPeer, AtOrigin}
use Rattle.node_rules.specs.State.{Setting, replies, quiet, serving, with_copies, with_pending, changing, ended, served_age, is_idle}
use Rattle.node_rules.specs.Fetching.{go_on, give_up}
use Rattle.node_rules.specs.Arrivals.{unknown, new_copy, stored, use_answer, try_on, is_gateway_fault, peer_gave, from_peer, peer_answer_to, origin_gave}
use Rattle.node_rules.specs.Arrivals.{from_origin, origin_answer_to, fails, failure_of, not_fetching, with_round, round_moves, expires, expiry_of}
use Rattle.node_waiting.specs.CanGoOn.{CanGoOn}

-- a response becomes a copy, which is stored before its request ends
pub uses : {X : Type 0} (g : Setting) (s after : NodeState X) (p q : Pending X) (place : ℕ) (key : List ℕ) (stamp asked : ℕ) (life : Option ℕ)
    (answer : AnswerText) (tag : X) (now : ℕ) → slice_get s.pending place ≡ Some p → slice_get after.pending place ≡ Some q → key ≡ p.ask.key →
    life ≡ lifetime answer g.roster.limits.default_lifetime → after ≡ with_copies s
    (stored g.roster.limits (new_copy key stamp asked life answer tag) life s.copies) → use_answer g s p stamp asked answer tag now ≡ replies
    (with_pending after (ended q.block after.pending))
    (serving (Some q.block) q.asker (Copy (new_copy key stamp asked life answer tag) (served_age (new_copy key stamp asked life answer tag) now)))
unfolding use_answer
uses {X} g s after p q place key stamp asked life answer tag now there later of_it by then_stored =
    let same : q ≡ p = same_Some q p (sym later ∙ ap (λ (r : NodeState X). slice_get r.pending place) then_stored ∙ there) in
    rw (same, then_stored, of_it, by)

-- a request can go on after its peer counts as tried, or its read has ended
pub can_try_on : {X : Type 0} (p : Pending X) (peer asked : ℕ) → CanGoOn p → p.fetch ≡ AtPeer peer asked → CanGoOn (not_fetching p (p.tried ++ peer ∷ []))
can_try_on p peer asked go at = grind (arith, common_steps)

pub can_read_on : {X : Type 0} (p : Pending X) (stamp asked : ℕ) (mark : X) → CanGoOn p → p.fetch ≡ AtOrigin stamp asked mark → CanGoOn (not_fetching p p.tried)
can_read_on p stamp asked mark go at = search rules

-- a request that is not fetching goes on with its round; another one only keeps the round
module _ {X : Type 0} (g : Setting) (s : NodeState X) (p : Pending X) (now : ℕ) (mark : X) where
  pub moves_on : is_idle p.fetch ≡ true → round_moves g s p now mark ≡ go_on g s p now mark
  unfolding round_moves
  moves_on idle = rw idle

  pub only_keeps : is_idle p.fetch ≡ false → round_moves g s p now mark ≡ replies (changing s p) quiet
  unfolding round_moves
  only_keeps fetches = rw fetches

-- a peer's response is used, or the peer counts as tried
module _ {X : Type 0} (g : Setting) (s : NodeState X) (p : Pending X) (peer asked stamp : ℕ) (answer : AnswerText) (tag : X) (now : ℕ) (mark : X) where
  pub peer_is_used : floor s.floors p.ask.key ≤ stamp → is_gateway_fault answer.status ≡ false →
      peer_gave g s p peer asked stamp answer tag now mark ≡ use_answer g s p stamp asked answer tag now
  unfolding peer_gave
  peer_is_used reaches good =
      let test : nat_le (floor s.floors p.ask.key) stamp ≡ true = grind (arith, nat_tests) in
      rw (test, good)

  pub peer_is_below : stamp < floor s.floors p.ask.key → peer_gave g s p peer asked stamp answer tag now mark ≡ try_on g s p peer now mark
  unfolding peer_gave
  peer_is_below below =
      let test : nat_le (floor s.floors p.ask.key) stamp ≡ false = grind (arith, nat_tests) in
      rw test

  pub peer_is_faulty : floor s.floors p.ask.key ≤ stamp → is_gateway_fault answer.status ≡ true →
      peer_gave g s p peer asked stamp answer tag now mark ≡ try_on g s p peer now mark
  unfolding peer_gave
  peer_is_faulty reaches fault =
      let test : nat_le (floor s.floors p.ask.key) stamp ≡ true = grind (arith, nat_tests) in
      rw (test, fault)

-- an origin's response is used, or the request goes on
module _ {X : Type 0} (g : Setting) (s : NodeState X) (p : Pending X) (stamp asked : ℕ) (read_mark : X) (answer : AnswerText) (now : ℕ) (mark : X) where
  pub origin_is_used : floor s.floors p.ask.key ≤ stamp → origin_gave g s p stamp asked read_mark answer now mark ≡ use_answer g s p stamp asked answer
      read_mark now
  unfolding origin_gave
  origin_is_used reaches =
      let test : nat_le (floor s.floors p.ask.key) stamp ≡ true = grind (arith, nat_tests) in
      rw test

  pub origin_is_below : stamp < floor s.floors p.ask.key → origin_gave g s p stamp asked read_mark answer now mark ≡ go_on g s (not_fetching p p.tried) now mark
  unfolding origin_gave
  origin_is_below below =
      let test : nat_le (floor s.floors p.ask.key) stamp ≡ false = grind (arith, nat_tests) in
      rw test

-- a peer's response comes to the request that is fetched from it
module _ {X : Type 0} (g : Setting) (s : NodeState X) (peer stamp : ℕ) (answer : AnswerText) (tag : X) (now : ℕ) (mark : X) (found : Option (Pending X)) where
  pub none_awaits : None ≡ found → peer_answer_to g s peer stamp answer tag now mark found ≡ unknown s
  unfolding peer_answer_to
  none_awaits none = rw (← none)

  pub awaits_peer : (p : Pending X) (asked : ℕ) → found ≡ Some p → p.fetch ≡ AtPeer peer asked →
      peer_answer_to g s peer stamp answer tag now mark found ≡ peer_gave g s p peer asked stamp answer tag now mark
  unfolding peer_answer_to from_peer
  awaits_peer p asked is fetch =
      let same : (peer == peer) ≡ true = grind (arith, nat_tests) in
      rw (is, fetch, same)

  from_another : (p : Pending X) (fetch : Fetch X) → ((asked : ℕ) → fetch ≢ AtPeer peer asked) →
      from_peer g s p peer stamp answer tag now mark fetch ≡ unknown s
  unfolding from_peer
  from_another p (AtPeer at asked) other =
      let differs : (at == peer) ≡ false = let differ : at ≢ peer = λ e. other asked (ap (λ a. AtPeer a asked) e) in grind (arith, nat_tests) in
      rw differs
  from_another p (AtOrigin stamp asked mark) other = refl
  from_another p Nowhere other = refl

  pub awaits_another : (p : Pending X) → found ≡ Some p → ((asked : ℕ) → p.fetch ≢ AtPeer peer asked) →
      peer_answer_to g s peer stamp answer tag now mark found ≡ unknown s
  unfolding peer_answer_to
  awaits_another p is other = rw is (from_another p p.fetch other)

-- an origin's response comes to the request that reads it
module _ {X : Type 0} (g : Setting) (s : NodeState X) (answer : AnswerText) (now : ℕ) (mark : X) (found : Option (Pending X)) where
  pub none_reads : None ≡ found → origin_answer_to g s answer now mark found ≡ unknown s
  unfolding origin_answer_to
  none_reads none = rw (← none)

  pub reads_origin : (p : Pending X) (stamp asked : ℕ) (read_mark : X) → found ≡ Some p → p.fetch ≡ AtOrigin stamp asked read_mark →
      origin_answer_to g s answer now mark found ≡ origin_gave g s p stamp asked read_mark answer now mark
  unfolding origin_answer_to from_origin
  reads_origin p stamp asked read_mark is fetch = rw (is, fetch)

  from_no_read : (p : Pending X) (fetch : Fetch X) → ((stamp asked : ℕ) (read_mark : X) → fetch ≢ AtOrigin stamp asked read_mark) →
      from_origin g s p answer now mark fetch ≡ unknown s
  unfolding from_origin
  from_no_read p (AtPeer peer asked) other = refl
  from_no_read p (AtOrigin stamp asked read_mark) other = absurd (other stamp asked read_mark refl)
  from_no_read p Nowhere other = refl

  pub reads_nothing : (p : Pending X) → found ≡ Some p → ((stamp asked : ℕ) (read_mark : X) → p.fetch ≢ AtOrigin stamp asked read_mark) →
      origin_answer_to g s answer now mark found ≡ unknown s
  unfolding origin_answer_to
  reads_nothing p is other = rw is (from_no_read p p.fetch other)

-- a fetch fails, or a round expires
module _ {X : Type 0} (g : Setting) (s : NodeState X) (now : ℕ) (mark : X) (found : Option (Pending X)) where
  pub none_fails : None ≡ found → failure_of g s now mark found ≡ unknown s
  unfolding failure_of
  none_fails none = rw (← none)

  pub peer_fails : (p : Pending X) (peer asked : ℕ) → found ≡ Some p → p.fetch ≡ AtPeer peer asked → failure_of g s now mark found ≡ try_on g s p peer now mark
  unfolding failure_of fails
  peer_fails p peer asked is fetch = rw (is, fetch)

  pub origin_fails : (p : Pending X) (stamp asked : ℕ) (read_mark : X) → found ≡ Some p → p.fetch ≡ AtOrigin stamp asked read_mark →
      failure_of g s now mark found ≡ give_up s p (Some p.block) 502
  unfolding failure_of fails
  origin_fails p stamp asked read_mark is fetch = rw (is, fetch)

  pub nothing_fails : (p : Pending X) → found ≡ Some p → p.fetch ≡ Nowhere → failure_of g s now mark found ≡ unknown s
  unfolding failure_of fails
  nothing_fails p is fetch = rw (is, fetch)

  pub none_expires : None ≡ found → expiry_of g s now mark found ≡ unknown s
  unfolding expiry_of
  none_expires none = rw (← none)

  pub round_ends : (p : Pending X) (r : RoundText) → found ≡ Some p → p.round ≡ Some r → expiry_of g s now mark found ≡ round_moves g s
      (with_round p (ended_round r)) now mark
  unfolding expiry_of expires
  round_ends p r is round = rw (is, round)

  pub nothing_ends : (p : Pending X) → found ≡ Some p → p.round ≡ None → expiry_of g s now mark found ≡ unknown s
  unfolding expiry_of expires
  nothing_ends p is round = rw (is, round)
