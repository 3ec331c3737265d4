-- A member's node is replaced at its index: the parts stay sound, since its id, its roster and what
-- is stored are as before, and the world changes as the model says.
use Rattle.std.proofs.Common.{◌≡◌, ℕ, zero, suc, ◌<◌, List, [], ◌∷◌, length, map, set, insert, remove, slice_get, Some, refl, sym, ◌∙◌, ap, subst, arith}
use Rattle.std.specs.List.{AllByRecursion}
use Rattle.purge_rules.specs.Needed.{nodes_of}
use Rattle.purge_rules.specs.Purges.{PurgeList}
use Rattle.world_rules.specs.World.{MemberState, Datagram, PeerAsk, PeerAnswer, Waiting, World, node_at, with_node}
use Rattle.world_rules.proofs.MemberStates.{all_got}
use Rattle.hierarchy_world.specs.declared.parts.Parts.{Parts}
use Rattle.hierarchy_world.specs.Parts.{MemberNode, member_states, IsMemberNode, IsSound, IsPlace}
use Rattle.hierarchy_world.proofs.Places.{place_id, place_state, place_put}
use Rattle.hierarchy_world.proofs.MemberNodes.{member_node_put, ids_put}

abbrev world_by : List MemberState → PurgeList → ℕ → List Datagram → List PeerAsk → List PeerAnswer → List Waiting → World
world_by states master clock datagrams asks answers waiting =
    record { states = states; master = master; clock = clock; datagrams = datagrams; asks = asks; answers = answers; waiting = waiting }

-- worlds with equal parts are equal
pub same_world : (a b : World) → a.states ≡ b.states → a.master ≡ b.master → a.clock ≡ b.clock → a.datagrams ≡ b.datagrams → a.asks ≡ b.asks →
    a.answers ≡ b.answers → a.waiting ≡ b.waiting →
    world_by a.states a.master a.clock a.datagrams a.asks a.answers a.waiting ≡ world_by b.states b.master b.clock b.datagrams b.asks b.answers b.waiting
same_world a b states master clock datagrams asks answers waiting =
    ap (λ x. world_by x a.master a.clock a.datagrams a.asks a.answers a.waiting) states
    ∙ ap (λ x. world_by b.states x a.clock a.datagrams a.asks a.answers a.waiting) master
    ∙ ap (λ x. world_by b.states b.master x a.datagrams a.asks a.answers a.waiting) clock
    ∙ ap (λ x. world_by b.states b.master b.clock x a.asks a.answers a.waiting) datagrams
    ∙ ap (λ x. world_by b.states b.master b.clock b.datagrams x a.answers a.waiting) asks
    ∙ ap (λ x. world_by b.states b.master b.clock b.datagrams b.asks x a.waiting) answers
    ∙ ap (λ x. world_by b.states b.master b.clock b.datagrams b.asks b.answers x) waiting

module _ (old : Parts) (before : MemberNode) (id place : ℕ) (sound : IsSound old) (is_place : IsPlace old.nodes.items id place)
    (at : slice_get old.nodes.items place ≡ Some before) where
  -- what holds of the node that was there
  pub was_id : before.id ≡ id
  was_id = place_id old.nodes.items id place before is_place at

  pub was_member_node : IsMemberNode old.roster before
  was_member_node = all_got (IsMemberNode old.roster) old.nodes.items place before sound.nodes at

  pub was_state : node_at (member_states old.nodes.items) id ≡ before.state
  was_state = place_state old.nodes.items id place before is_place at

module _ (old new : Parts) (before n : MemberNode) (id place : ℕ) (sound : IsSound old) (is_place : IsPlace old.nodes.items id place)
    (at : slice_get old.nodes.items place ≡ Some before)
    (roster_same : new.roster ≡ old.roster) (master_same : new.master ≡ old.master) (nodes_are : new.nodes.items ≡ set old.nodes.items place n)
    (same_id : n.id ≡ before.id) (same_roster : n.roster ≡ before.roster) (stored : n.store ≡ n.state.floors) where
  now_id : n.id ≡ id
  now_id = same_id ∙ was_id old before id place sound is_place at

  now_place : IsPlace old.nodes.items n.id place
  now_place = subst (λ i. IsPlace old.nodes.items i place) (sym now_id) is_place

  pub still_sound : IsSound new
  still_sound = record {
    nodes = subst (λ l. AllByRecursion (IsMemberNode new.roster) l) (sym nodes_are)
        (subst (λ r. AllByRecursion (IsMemberNode r) (set old.nodes.items place n)) (sym roster_same)
        (member_node_put old.roster old.nodes.items place n sound.nodes record
        { roster = same_roster ∙ (was_member_node old before id place sound is_place at).roster; stored = stored }));
    ids = ap (map (λ m. m.id)) nodes_are ∙ ids_put old.nodes.items place n now_place ∙ sound.ids ∙ ap (λ r. map (λ m. m.cache.id) r.members) (sym roster_same);
    master = record {
      nodes = ap (λ m. m.nodes) master_same ∙ sound.master.nodes ∙ ap nodes_of (sym roster_same);
      is_open = ap (λ m. m.state.closed) master_same ∙ sound.master.is_open;
    };
  }

  pub states_are : member_states new.nodes.items ≡ with_node (member_states old.nodes.items) id n.state
  states_are = ap member_states nodes_are ∙ sym (subst (λ i. with_node (member_states old.nodes.items) i n.state ≡ member_states (set old.nodes.items place n))
      now_id (place_put old.nodes.items place n now_place))

-- taking a node out and putting another in at its index replaces it
pub put_back : (nodes : List MemberNode) (place : ℕ) (n : MemberNode) → place < length nodes → insert (remove nodes place) place n ≡ set nodes place n
put_back [] place n h = absurd (omega arith)
put_back (m ∷ nodes) zero n h = refl
put_back (m ∷ nodes) (suc place) n h = ap (λ l. m ∷ l) (put_back nodes place n (omega arith))
