-- A fault or a restart: the node at a member's index is replaced, and what waited there is dropped.
-- Both are what the model's with_member_state does, and the new node keeps what was stored.
use Rattle.std.proofs.Common.{◌≡◌, ℕ, not, List, filter, set, slice_get, nat_eq, Some, sym, ◌∙◌, ap}
use Rattle.node_rules.specs.declared.state.NodeState.{NodeState}
use Rattle.node_core.specs.View.{IsSameNode}
use Rattle.node_rules.specs.State.{closed_node}
use Rattle.world_rules.specs.World.{node_at}
use Rattle.world_rules.specs.Consequence.{with_member_state}
use Rattle.hierarchy_world.specs.declared.parts.Parts.{Parts}
use Rattle.hierarchy_world.specs.Parts.{MemberNode, member_states, world_of, IsStored, IsSound, IsPlace, IsMemberChanged}
use Rattle.hierarchy_world.proofs.Changing.{same_world, was_state, still_sound, states_are}

-- the nodes change, and then what waits
pub then_forgets : (old mid new : Parts) (nodes : List MemberNode) (id : ℕ) → IsMemberChanged old mid nodes old.waiting.items →
    IsMemberChanged mid new mid.nodes.items (filter (λ w. not (nat_eq w.node id)) mid.waiting.items) →
    IsMemberChanged old new nodes (filter (λ w. not (nat_eq w.node id)) old.waiting.items)
then_forgets old mid new nodes id first last = record {
  roster = last.roster ∙ first.roster;
  nodes = last.nodes ∙ first.nodes;
  master = last.master ∙ first.master;
  clock = last.clock ∙ first.clock;
  place = last.place ∙ first.place;
  datagrams = last.datagrams ∙ first.datagrams;
  asks = last.asks ∙ first.asks;
  answers = last.answers ∙ first.answers;
  waiting = last.waiting ∙ ap (filter (λ w. not (nat_eq w.node id))) first.waiting;
}

module _ (old new : Parts) (before n : MemberNode) (id place : ℕ) (sound : IsSound old) (is_place : IsPlace old.nodes.items id place)
    (at : slice_get old.nodes.items place ≡ Some before)
    (changed : IsMemberChanged old new (set old.nodes.items place n) (filter (λ w. not (nat_eq w.node id)) old.waiting.items)) where
  module _ (same_id : n.id ≡ before.id) (same_roster : n.roster ≡ before.roster) (stored : IsStored n) where
    pub state_sound : IsSound new
    state_sound = still_sound old new before n id place sound is_place at changed.roster changed.master changed.nodes same_id same_roster stored

    state_is_now : world_of new ≡ with_member_state (world_of old) id n.state
    state_is_now = same_world (world_of new) (with_member_state (world_of old) id n.state)
        (states_are old new before n id place sound is_place at changed.roster changed.master changed.nodes same_id same_roster stored)
        (ap (λ m. m.state.purges) changed.master) changed.clock changed.datagrams changed.asks changed.answers changed.waiting

    -- the state that the node had
    state_was : node_at (member_states old.nodes.items) id ≡ before.state
    state_was = was_state old before id place sound is_place at

    pub state_by : (next : NodeState ℕ → NodeState ℕ) → n.state ≡ next before.state → world_of new ≡ with_member_state (world_of old) id
        (next (node_at (member_states old.nodes.items) id))
    state_by next is = state_is_now ∙ ap (with_member_state (world_of old) id) (is ∙ ap next (sym state_was))

-- a node that closes keeps what is stored
pub closing_stored : (before n : MemberNode) → IsStored before → IsSameNode before n → n.state ≡ closed_node before.state → IsStored n
closing_stored before n stored same is = same.store ∙ stored ∙ ap (λ s. s.floors) (sym is)
