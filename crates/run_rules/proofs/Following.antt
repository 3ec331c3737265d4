-- How the state of a run (a board) and the world match: each node's state is the recorded one
-- without marks, the master's is the same, and what the run knows as sent is sent in the world.
use Rattle.std.proofs.Common.{◌≡◌, ℕ, ◌+◌, true, false, cond, List, [], ◌∷◌, ◌++◌, length, Option, Some, None, Ok, refl, sym, ◌∙◌, ap, nat_eq, subst, arith}
use Rattle.std.proofs.Common.{length-append}
use Rattle.std.specs.Prelude.{◌≢◌}
use Rattle.std.proofs.Math.Decide.{ℕ_discrete}
use Rattle.values_tables.specs.declared.plain.Member.{Member}
use Rattle.values_tables.specs.declared.plain.Tables.{Tables}
use Rattle.roster.specs.Lookups.{is_member, member_of}
use Rattle.node_rules.specs.declared.state.NodeState.{NodeState}
use Rattle.node_rules.specs.declared.event.Event.{Event}
use Rattle.node_rules.specs.declared.event.Event.TheVariants as event
use Rattle.node_rules.specs.declared.reply.Reply.{Reply}
use Rattle.node_rules.specs.State.{quiet}
use Rattle.node_rules.specs.Step.{step}
use Rattle.node_rules.specs.Tags.{retag_reply}
use Rattle.node_rules.proofs.Cases.{branches}
use Rattle.world_rules.specs.World.{World, Datagram, MemberState, new_node, node_at, with_node, datagrams_from, after_node}
use Rattle.world_rules.specs.Run.{Step, Run}
use Rattle.world_rules.proofs.MemberStates.{same_id, ids_same, other_id, node_at-same, node_at-other}
use Rattle.world_rules.proofs.Items.{append_nil}
use Rattle.world_rules.proofs.Runs.{next_place}
use Rattle.world_rules.proofs.SourceRuns.{IsAfter, after_one}
use Rattle.run_rules.specs.Sent.{SentAsk, SentAnswer, Waits, Network, waits_by, with_reply}
use Rattle.run_rules.specs.Board.{Post, Standing, New, Open, Shut, Astray, Board, standing_at, with_standing}
use Rattle.run_rules.specs.Recorded.{Progress, unmarked, unmarked_event, node_in}
use Rattle.run_rules.proofs.Matching.{NetworkMatches, datagrams_grow, asks_grow, answers_grow, asks_same, answers_same, waits_by_event}

-- Standings of nodes

-- the node of the world has this standing
abbrev pub StandsIn : Tables → ℕ → Standing → NodeState ℕ → Type 0
StandsIn t id New node = node ≡ new_node
StandsIn t id (Open s) node = (is_member t id ≡ true) × (node.closed ≡ false) × (unmarked node ≡ s)
StandsIn t id (Shut s) node = (is_member t id ≡ true) × (node.closed ≡ true) × (unmarked node ≡ s)
StandsIn t id Astray node = ⊥

pub standing_at-same : (ps : List Post) (id : ℕ) (st : Standing) → standing_at (with_standing ps id st) id ≡ st
standing_at-same [] id st = ap (λ b. cond b st New) (same_id id)
standing_at-same (p ∷ ps) id st =
    branches (λ (xs : List Post). standing_at xs id ≡ st) (nat_eq p.id id) _ _
    (λ _. ap (λ b. cond b st (standing_at ps id)) (same_id id))
    (λ other. ap (λ b. cond b p.standing (standing_at (with_standing ps id st) id)) other ∙ standing_at-same ps id st)

pub standing_at-other : (ps : List Post) (id other : ℕ) (st : Standing) → other ≢ id → standing_at (with_standing ps id st) other ≡ standing_at ps other
standing_at-other [] id other st ne = ap (λ b. cond b st New) (other_id id other (λ e. ne (sym e)))
standing_at-other (p ∷ ps) id other st ne =
    branches (λ (xs : List Post). standing_at xs other ≡ standing_at (p ∷ ps) other) (nat_eq p.id id) _ _
    (λ here. ap (λ b. cond b st (standing_at ps other)) (other_id id other (λ e. ne (sym e)))
    ∙ sym (ap (λ b. cond b p.standing (standing_at ps other)) (other_id p.id other (λ e. ne (sym e ∙ ids_same p.id id here)))))
    (λ _. ap (cond (nat_eq p.id other) p.standing) (standing_at-other ps id other st ne))

-- a node and its standing have changed, and all others not
pub each_place : (t : Tables) (posts : List Post) (states : List MemberState) (id : ℕ) (st : Standing) (node : NodeState ℕ) → StandsIn t id st node →
    ((i : ℕ) → i ≢ id → StandsIn t i (standing_at posts i) (node_at states i)) →
    (i : ℕ) → StandsIn t i (standing_at (with_standing posts id st) i) (node_at (with_node states id node) i)
each_place t posts states id st node this those i =
    elim (ℕ_discrete i id) [
      | yes e ↦
          subst (λ n. StandsIn t n (standing_at (with_standing posts id st) n) (node_at (with_node states id node) n)) (sym e)
          (subst (λ x. StandsIn t id x (node_at (with_node states id node) id)) (sym (standing_at-same posts id st))
          (subst (StandsIn t id st) (sym (node_at-same states id node)) this))
      | no ne ↦
          subst (λ x. StandsIn t i x (node_at (with_node states id node) i)) (sym (standing_at-other posts id i st ne))
          (subst (StandsIn t i (standing_at posts i)) (sym (node_at-other states id i node ne)) (those i ne))
    ]

-- a node's standing has changed, and the world not
pub each_post : (t : Tables) (posts : List Post) (states : List MemberState) (id : ℕ) (st : Standing) → StandsIn t id st (node_at states id) →
    ((i : ℕ) → StandsIn t i (standing_at posts i) (node_at states i)) →
    (i : ℕ) → StandsIn t i (standing_at (with_standing posts id st) i) (node_at states i)
each_post t posts states id st this those i =
    elim (ℕ_discrete i id) [
      | yes e ↦ subst (λ n. StandsIn t n (standing_at (with_standing posts id st) n) (node_at states n)) (sym e)
          (subst (λ x. StandsIn t id x (node_at states id)) (sym (standing_at-same posts id st)) this)
      | no ne ↦ subst (λ x. StandsIn t i x (node_at states i)) (sym (standing_at-other posts id i st ne)) (those i)
    ]

-- The state of the run and the world

-- the world matches the state of the run
pub record Matches (t : Tables) (b : Board) (p : Progress) : Type 0 where
  pub past : List Step
  pub at : p.place ≡ length past + 1
  pub after : IsAfter t past p.world
  pub nodes : (id : ℕ) → StandsIn t id (standing_at b.posts id) (node_in p id)
  pub master : p.master ≡ b.master
  pub purges : p.world.master ≡ b.master.purges
  pub network : NetworkMatches b.network p.world

appends : (past : List Step) (step : Step) (steps : List Step) → (past ++ step ∷ []) ++ steps ≡ past ++ step ∷ steps
appends [] step steps = refl
appends (first ∷ past) step steps = ap (λ (l : List Step). first ∷ l) (appends past step steps)

-- what holds after some steps holds after more steps
pub after_run : (t : Tables) (past steps : List Step) (old new : World) → IsAfter t past old → Run t (length past + 1) old steps new →
    IsAfter t (past ++ steps) new
after_run t past [] old new after run = subst (λ (l : List Step). IsAfter t l new) (sym (append_nil past)) (subst (IsAfter t past) (sym run) after)
after_run t past (step ∷ steps) old new after (next, happens, run) =
    subst (λ (l : List Step). IsAfter t l new) (appends past step steps)
    (after_run t (past ++ step ∷ []) steps next new (after_one t past old after step.event step.seen next happens)
    (subst (λ (n : ℕ). Run t n next steps new) (sym (next_place past step)) run))

-- the same for the progress of a run, with its place
pub after_goes : (t : Tables) (b : Board) (p q : Progress) (steps : List Step) → (m : Matches t b p) → Run t p.place p.world steps q.world →
    IsAfter t (m.past ++ steps) q.world
after_goes t b p q steps m run = after_run t m.past steps p.world q.world m.after (subst (λ (n : ℕ). Run t n p.world steps q.world) m.at run)

pub place_goes : (t : Tables) (b : Board) (p : Progress) (steps : List Step) (place : ℕ) → (m : Matches t b p) → place ≡ p.place + length steps →
    place ≡ length (m.past ++ steps) + 1
place_goes t b p steps place m is = omega (is, m.at, length-append m.past steps, arith)

-- What a reply sends

-- what a node's reply sends is sent in the world
pub network_replied : (t : Tables) (n : Network) (w : World) (id : ℕ) (e : Event ℕ) (serial : ℕ) (reply : Reply ℕ) (next : NodeState ℕ) → NetworkMatches n w →
    NetworkMatches (with_reply t n id (unmarked_event e) (retag_reply (λ _. tt) reply)) (after_node t w id e serial (Ok reply) next)
network_replied t n w id e serial reply next matches = record {
  datagrams = datagrams_grow n.datagrams (datagrams_from (member_of t id) reply.send) w.datagrams (datagrams_from (member_of t id) reply.send) matches.datagrams
      (λ d has. has);
  asks = asks_grow n.asks _ w.asks _ matches.asks (asks_same id reply.begin);
  answers = answers_grow n.answers _ w.answers _ matches.answers (answers_same n.waiting w.waiting id e serial reply.serve matches.waiting);
  waiting = waits_by_event n.waiting w.waiting id e serial reply.begin matches.waiting;
}

waits_nothing : (id : ℕ) (e : Event (Unit {0})) → waits_by id e None ≡ []
waits_nothing id (event.Client ask now) = refl
waits_nothing id (event.Datagram from m now) = refl
waits_nothing id (event.PeerAsk asker ask now) = refl
waits_nothing id (event.PeerAnswer serial peer key answer tag now) = refl
waits_nothing id (event.OriginAnswer serial key answer now) = refl
waits_nothing id (event.ForeignAnswer serial peer key answer tag now) = refl
waits_nothing id (event.FetchFailed serial now) = refl
waits_nothing id (event.Expired serial now) = refl

sends_nothing : (m : Option Member) → datagrams_from m [] ≡ []
sends_nothing None = refl
sends_nothing (Some m) = refl

-- a quiet entry sends nothing
pub quiet_network : (t : Tables) (n : Network) (id : ℕ) (e : Event (Unit {0})) → with_reply t n id e quiet ≡ n
quiet_network t n id e =
    let datagrams : n.datagrams ++ datagrams_from (member_of t id) [] ≡ n.datagrams = ap (λ (l : List Datagram). n.datagrams ++ l)
    (sends_nothing (member_of t id)) ∙ append_nil n.datagrams in
    let waiting : waits_by id e None ++ n.waiting ≡ n.waiting = ap (λ (l : List Waits). l ++ n.waiting) (waits_nothing id e) in
    ap (λ (l : List Datagram). record { datagrams = l; asks = n.asks ++ []; answers = n.answers ++ []; waiting = waits_by id e None ++ n.waiting }) datagrams
    ∙ ap (λ (l : List SentAsk). record { datagrams = n.datagrams; asks = l; answers = n.answers ++ []; waiting = waits_by id e None ++ n.waiting })
    (append_nil n.asks)
    ∙ ap (λ (l : List SentAnswer). record { datagrams = n.datagrams; asks = n.asks; answers = l; waiting = waits_by id e None ++ n.waiting })
    (append_nil n.answers)
    ∙ ap (λ (l : List Waits). record { datagrams = n.datagrams; asks = n.asks; answers = n.answers; waiting = l }) waiting
