-- How the history of a node begins.
use Rattle.std.specs.Prelude.{◌≡◌, ℕ, List, [], ◌∷◌, Option, Some, None}
use Rattle.values_tables.specs.declared.plain.Tables.{Tables}
use Rattle.node_rules.specs.declared.state.NodeState.{NodeState}
use Rattle.node_rules.specs.State.{setting}
use Rattle.node_core.specs.View.{NodeText}
use Rattle.node_book.specs.declared.book.NodeEntry.{NodeEntry}
use Rattle.node_book.specs.Book.{Replays}

-- A node at the start of its run: the roster, its own id, and its state.
pub record Beginning : Type 0 where
  pub roster : Tables
  pub id : ℕ
  pub opening : NodeState (Unit {0})

-- A node as it is before its first step.
abbrev pub beginning_of : {S : Type 0} → NodeText (Unit {0}) S → Beginning
beginning_of node = record { roster = node.roster; id = node.id; opening = node.state }

-- From the beginning the entries are steps of the node by the rules, one after another, each with its own outcome, and
-- they lead to this state.
abbrev pub LeadsTo : Option Beginning → List NodeEntry → NodeState (Unit {0}) → Type 0
LeadsTo None entries state = ⊥
LeadsTo (Some b) entries state = Replays (setting b.roster b.id) b.opening entries state

-- The history leads to the state of this node, which is the one of the beginning.
abbrev pub LeadsToNode : {S : Type 0} → Option Beginning → List NodeEntry → NodeText (Unit {0}) S → Type 0
LeadsToNode None entries node = ⊥
LeadsToNode (Some b) entries node = (node.roster ≡ b.roster) × (node.id ≡ b.id)
    × Replays (setting b.roster b.id) b.opening entries node.state

-- The entries are steps of the node by the rules, from its beginning on.
abbrev pub IsHistory : Option Beginning → List NodeEntry → Type 0
IsHistory beginning [] = Unit {0}
IsHistory beginning (e ∷ entries) = (state : NodeState (Unit {0})) × LeadsTo beginning (e ∷ entries) state
