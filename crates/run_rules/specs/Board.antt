-- The state of a run after some of its notes: a board has each node's standing, the master's state
-- and the network.
use Rattle.std.specs.Prelude.{ℕ, ◌==◌, List, [], ◌∷◌, if◌then◌else◌}
use Rattle.node_rules.specs.declared.state.NodeState.{NodeState}
use Rattle.purge_rules.specs.Purges.{no_purges}
use Rattle.purge_rules.specs.Calls.{MasterState}
use Rattle.purge_rules.specs.Calls as calls
use Rattle.run_rules.specs.Sent.{Network, silence}

-- a node's standing: what is known of it
pub data Standing : Type 0 where
  -- it has no record yet, and holds nothing, not even a floor
  New : Standing
  -- it is open, in this state
  Open : (state : NodeState (Unit {0})) → Standing
  -- it is closed, in this state, whose floors are those that are stored
  Shut : (state : NodeState (Unit {0})) → Standing
  -- its record opened in a state that the run does not allow; nothing is known of it
  Astray : Standing

-- a node's id and its standing
pub record Post : Type 0 where
  pub id : ℕ
  pub standing : Standing

-- the state of a run
pub record Board : Type 0 where
  pub posts : List Post
  pub master : MasterState
  pub network : Network

-- the board at the start: nothing is stored and nothing was sent
abbrev pub new_board : Board
new_board = record { posts = []; master = calls.opened no_purges; network = silence }

-- the standing of the node with this id
abbrev pub standing_at : List Post → ℕ → Standing
standing_at [] id = New
standing_at (p ∷ ps) id = if p.id == id then p.standing else standing_at ps id

-- the posts with this standing of the node
abbrev pub with_standing : List Post → ℕ → Standing → List Post
with_standing [] id standing = record { id = id; standing = standing } ∷ []
with_standing (p ∷ ps) id standing = if p.id == id then record { id = id; standing = standing } ∷ ps else p
    ∷ with_standing ps id standing

-- the board with this standing of the node
abbrev pub with_node : Board → ℕ → Standing → Board
with_node b id standing = record b { posts = with_standing b.posts id standing }

-- the board with this network
abbrev pub with_network : Board → Network → Board
with_network b n = record b { network = n }

-- the board with this state of the master
abbrev pub with_master : Board → MasterState → Board
with_master b m = record b { master = m }
