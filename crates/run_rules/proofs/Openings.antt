-- A record that may open or close so stands for events of the world: for none if it goes on from
-- the node's state, else for a restart.
use Rattle.std.proofs.Common.{◌≡◌, ℕ, ◌+◌, Bool, true, false, cond, [], ◌∷◌, ◌++◌, refl, sym, ◌∙◌, ap, inl, inr, nat_eq, subst, length}
use Rattle.floor_rules.specs.Floors.{FloorTable}
use Rattle.values_tables.specs.declared.plain.Tables.{Tables}
use Rattle.roster.specs.Lookups.{is_member}
use Rattle.node_rules.specs.declared.state.NodeState.{NodeState}
use Rattle.node_rules.specs.State.{opened}
use Rattle.world_rules.specs.declared.event.WorldEvent.TheVariants as world
use Rattle.world_rules.specs.declared.outcome.WorldFault.TheVariants.{NoSuchPacket}
use Rattle.world_rules.specs.World.{World}
use Rattle.world_rules.specs.Consequence.{Nothing, Consequence, Ends, Refused, with_member_state}
use Rattle.world_rules.specs.Run.{Step, Takes}
use Rattle.run_rules.specs.declared.verdict.Cause.TheVariants.{OtherState}
use Rattle.run_rules.specs.Notes.{Opens, Closes}
use Rattle.run_rules.specs.Sent.{Network, without_waiting}
use Rattle.run_rules.specs.Board.{Standing, New, Open, Shut, Astray, Board, standing_at, with_node, with_network}
use Rattle.run_rules.specs.Judging.{Fine, IsShutAs, OpensAs, CanOpen, standing_in, opened_board, ClosesAs, JudgesClosing}
use Rattle.run_rules.specs.Recorded.{Progress, Goes, event_step, unmarked, node_in, IsKept}
use Rattle.run_rules.proofs.Matching.{NetworkMatches, waits_dropped_here}
use Rattle.run_rules.proofs.Following.{StandsIn, Matches, each_place, each_post, after_goes, place_goes}
use Rattle.run_rules.proofs.Entries.{Follows, network_closed, same_board, not_flawed}

-- a state in which a closed node may be recorded is recorded so
shut_as : (node s state : NodeState (Unit {0})) → node.closed ≡ true → node ≡ s → IsShutAs s state → IsKept node state
shut_as node s state shut same is = inr (shut, subst (λ (x : NodeState (Unit {0})). IsShutAs x state) (sym same) is)

-- what waits at a node is dropped, or not
opened_network : (n : Network) (w : World) (id : ℕ) (c : Bool) → NetworkMatches n w → NetworkMatches (cond c (without_waiting n id) n) w
opened_network n w id true h = record {
  datagrams = h.datagrams;
  asks = h.asks;
  answers = h.answers;
  waiting =
      waits_dropped_here n.waiting w.waiting id h.waiting;
}
opened_network n w id false h = h

module _ (t : Tables) (b : Board) (p : Progress) (m : Matches t b p) (id : ℕ) (state : NodeState (Unit {0})) (member : is_member t id ≡ true) where
  abbrev node : NodeState ℕ
  node = node_in p id

  abbrev after : Standing → Board
  after st = with_network (with_node b id st) (cond (nat_eq (length state.pending) 0) (without_waiting b.network id) b.network)

  -- the node goes on from its state
  goes_on : (st : Standing) → StandsIn t id st node → IsKept (unmarked node) state → Follows t p (Opens id state) (after st)
  goes_on st stands kept = record {
    steps = [];
    to = p;
    stands = (member, inl (refl, refl, kept));
    matches = record {
      past = m.past;
      at = m.at;
      after = m.after;
      nodes = each_post t b.posts p.world.states id st stands m.nodes;
      master = m.master;
      purges = m.purges;
      network = opened_network b.network p.world id (nat_eq (length state.pending) 0) m.network;
    };
  }

  abbrev again : Progress
  again = record { world = with_member_state p.world id (opened node.floors); place = p.place + 1; master = p.master }

  abbrev restart : Step
  restart = event_step (world.Restart id) Nothing

  goes : Goes t p (restart ∷ []) p.master again
  goes = record {
    run = (
      again.world,
      (
        tt,
        subst (λ (consequences : Consequence). Takes t p.place p.world consequences Nothing again.world)
            (sym (ap (λ c. cond c (Ends Nothing again.world) (Refused NoSuchPacket)) member)) (refl, refl),
      ),
      refl,
    );
    place = refl;
    master = refl;
    purges = m.purges ∙ sym (ap (λ x. x.purges) m.master);
  }

  -- the node restarts with its floors
  starts_again : (floors : FloorTable) → node.floors ≡ floors → state ≡ opened floors → Follows t p (Opens id state) (after (Open state))
  starts_again floors has is =
      let fresh : state ≡ opened node.floors = is ∙ ap (λ (f : FloorTable). opened f) (sym has) in
      let first : nat_eq (length state.pending) 0 ≡ true = ap (λ (s : NodeState (Unit {0})). nat_eq (length s.pending) 0) is in
      record {
        steps = restart ∷ [];
        to = again;
        stands = (member, inr (refl, goes, fresh));
        matches = record {
          past = m.past ++ restart ∷ [];
          at = place_goes t b p (restart ∷ []) (p.place + 1) m refl;
          after = after_goes t b p again (restart ∷ []) m goes.run;
          nodes = each_place t b.posts p.world.states id (Open state) (opened node.floors) (member, refl, sym fresh) (λ i _. m.nodes i);
          master = m.master;
          purges = m.purges;
          network =
              subst (λ (c : Bool). NetworkMatches (cond c (without_waiting b.network id) b.network) again.world) (sym first)
              (network_closed b.network p.world id (opened node.floors) m.network);
        };
      }

  opens_by : (now_so : Standing) → StandsIn t id now_so node → OpensAs now_so state → Follows t p (Opens id state) (after (standing_in now_so state))
  opens_by New stands is =
      let kept : unmarked node ≡ state = ap unmarked stands ∙ sym is in
      goes_on (Open state) (member, ap (λ (x : NodeState ℕ). x.closed) stands, kept) (inl (sym kept))
  opens_by (Open s) (mine, is_open, same) (inl is) = goes_on (Open state) (member, is_open, same ∙ sym is) (inl (is ∙ sym same))
  opens_by (Open s) (mine, is_open, same) (inr is) = starts_again s.floors (ap (λ (x : NodeState (Unit {0})). x.floors) same) is
  opens_by (Shut s) (mine, shut, same) (inl is) =
      let closed : state.closed ≡ true = ap (λ (x : NodeState (Unit {0})). x.closed) (is ∙ sym same) ∙ shut in
      subst (λ (c : Bool). Follows t p (Opens id state) (after (cond c (Shut s) (Open state)))) (sym closed)
      (goes_on (Shut s) (member, shut, same) (shut_as (unmarked node) s state shut same is))
  opens_by (Shut s) (mine, shut, same) (inr is) =
      subst (λ (c : Bool). Follows t p (Opens id state) (after (cond c (Shut s) (Open state)))) (sym (ap (λ (x : NodeState (Unit {0})). x.closed) is))
      (starts_again s.floors (ap (λ (x : NodeState (Unit {0})). x.floors) same) is)
  opens_by Astray stands is = absurd stands

-- a record of a member that may open so
pub opening_follows : (t : Tables) (b : Board) (p : Progress) → Matches t b p → (id : ℕ) (state : NodeState (Unit {0})) (next : Board) → CanOpen t b id state →
    next ≡ opened_board b id state → Follows t p (Opens id state) next
opening_follows t b p m id state next (member, opens) is = subst (Follows t p (Opens id state)) (sym is)
    (opens_by t b p m id state member (standing_at b.posts id) (m.nodes id) opens)

closes_by : (t : Tables) (id : ℕ) (its : NodeState ℕ) (state : NodeState (Unit {0})) (now_so : Standing) → StandsIn t id now_so its → ClosesAs now_so state →
    IsKept (unmarked its) state
closes_by t id its state New stands closes = absurd closes
closes_by t id its state (Open s) (mine, is_open, same) is = inl (is ∙ sym same)
closes_by t id its state (Shut s) (mine, shut, same) is = shut_as (unmarked its) s state shut same is
closes_by t id its state Astray stands closes = absurd closes

pub closing_follows : (t : Tables) (b : Board) (p : Progress) → Matches t b p → (id place : ℕ) (state : NodeState (Unit {0})) (next : Board) →
    JudgesClosing b id state (Fine next) → Follows t p (Closes id place state) next
closing_follows t b p m id place state next (inl (closes, is)) = record {
  steps = [];
  to = p;
  stands = (refl, refl, closes_by t id (node_in p id) state (standing_at b.posts id) (m.nodes id) closes);
  matches = subst (λ (x : Board). Matches t x p) (sym (same_board next b is)) m;
}
closing_follows t b p m id place state next (inr (other, is)) = absurd (not_flawed next OtherState is)
