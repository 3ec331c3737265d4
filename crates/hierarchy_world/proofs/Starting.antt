-- A new world is the model's: each member has a node that holds nothing, and the master has issued
-- nothing. By induction over the members.
use Rattle.std.proofs.Common.{◌≡◌, ℕ, List, [], ◌∷◌, map, refl, sym, ◌∙◌, ap, subst}
use Rattle.std.specs.List.{AllByRecursion}
use Rattle.floor_rules.specs.Floors.{FloorTable, no_floors}
use Rattle.values_tables.specs.declared.plain.Member.{Member}
use Rattle.values_tables.specs.declared.plain.Tables.{Tables}
use Rattle.node_rules.specs.declared.state.NodeState.{NodeState}
use Rattle.node_rules.specs.State.{opened}
use Rattle.purge_rules.specs.Needed.{nodes_of as nodes_of_roster}
use Rattle.purge_rules.specs.Purges.{no_purges}
use Rattle.purge_rules.specs.Calls.{MasterState, opened as opened_master}
use Rattle.world_rules.specs.World.{MemberState, new_node, new_world}
use Rattle.hierarchy_world.specs.declared.parts.Parts.{Parts}
use Rattle.hierarchy_world.specs.Parts.{MemberNode, member_states, IsMemberNode, IsSound, world_of}
use Rattle.hierarchy_world.proofs.Changing.{same_world}

abbrev node_by : Tables → ℕ → NodeState ℕ → FloorTable → MemberNode
node_by t id state store = record { roster = t; id = id; state = state; store = store }

-- a new node of a member
abbrev pub node_of : Tables → ℕ → MemberNode
node_of t id = node_by t id (opened no_floors) no_floors

pub node_is : (n : MemberNode) (t : Tables) (id : ℕ) → n.roster ≡ t → n.id ≡ id → n.state ≡ opened no_floors → n.store ≡ no_floors → n ≡ node_of t id
node_is n t id roster same_id state store =
    ap (λ (x : Tables). node_by x n.id n.state n.store) roster
    ∙ ap (λ (x : ℕ). node_by t x n.state n.store) same_id
    ∙ ap (λ (x : NodeState ℕ). node_by t id x n.store) state
    ∙ ap (λ (x : FloorTable). node_by t id (opened no_floors) x) store

abbrev pub nodes_of : Tables → List Member → List MemberNode
nodes_of t members = map (λ m. node_of t m.cache.id) members

all_member_nodes : (t : Tables) (members : List Member) → AllByRecursion (IsMemberNode t) (nodes_of t members)
all_member_nodes t [] = tt
all_member_nodes t (m ∷ members) = (record { roster = refl; stored = refl }, all_member_nodes t members)

all_ids : (t : Tables) (members : List Member) → map (λ (n : MemberNode). n.id) (nodes_of t members) ≡ map (λ (m : Member). m.cache.id) members
all_ids t [] = refl
all_ids t (m ∷ members) = ap (λ (l : List ℕ). m.cache.id ∷ l) (all_ids t members)

all_member_states : (t : Tables) (members : List Member) → member_states (nodes_of t members) ≡ map
    (λ (m : Member). record { id = m.cache.id; node = new_node }) members
all_member_states t [] = refl
all_member_states t (m ∷ members) = ap (λ (l : List MemberState). record { id = m.cache.id; node = new_node } ∷ l) (all_member_states t members)

pub new_sound : (p : Parts) (t : Tables) → p.roster ≡ t → p.nodes.items ≡ nodes_of t t.members → p.master.nodes ≡ nodes_of_roster t →
    p.master.state ≡ opened_master no_purges → IsSound p
new_sound p t roster nodes purged state = record {
  nodes = subst (λ (l : List MemberNode). AllByRecursion (IsMemberNode p.roster) l) (sym nodes)
      (subst (λ (r : Tables). AllByRecursion (IsMemberNode r) (nodes_of t t.members)) (sym roster) (all_member_nodes t t.members));
  ids = ap (λ (l : List MemberNode). map (λ (n : MemberNode). n.id) l) nodes ∙ all_ids t t.members
      ∙ ap (λ (r : Tables). map (λ (m : Member). m.cache.id) r.members) (sym roster);
  master = record {
    nodes = purged ∙ ap (λ (r : Tables). nodes_of_roster r) (sym roster);
    is_open = ap (λ (s : MasterState). s.closed) state;
  };
}

pub new_is : (p : Parts) (t : Tables) → p.nodes.items ≡ nodes_of t t.members → p.master.state ≡ opened_master no_purges → p.clock ≡ 0 → p.datagrams.items ≡ [] →
    p.asks.items ≡ [] → p.answers.items ≡ [] → p.waiting.items ≡ [] →
    world_of p ≡ new_world t
new_is p t nodes state clock datagrams asks answers waiting =
    same_world (world_of p) (new_world t) (ap member_states nodes ∙ all_member_states t t.members) (ap (λ (s : MasterState). s.purges) state) clock datagrams
    asks answers waiting
