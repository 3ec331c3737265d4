-- A node as contracts see it, and the invariant of every node.
use Rattle.std.specs.Prelude.{◌≡◌, ℕ, IsTrue, Bool, true, false, List, [], Option, Result}
use Rattle.url_key.specs.declared.fault.KeyFault.{KeyFault}
use Rattle.url_key.specs.Key.{HasKey}
use Rattle.values_keys.specs.KeyOf.{key_in}
use Rattle.object_store.specs.Held.{Held}
use Rattle.floor_rules.specs.Floors.{FloorTable}
use Rattle.values_tables.specs.declared.plain.Limits.{Limits}
use Rattle.values_tables.specs.declared.plain.Tables.{Tables}
use Rattle.roster.specs.Lookups.{is_member}
use Rattle.node_rules.specs.declared.state.Pending.{Pending}
use Rattle.node_rules.specs.declared.state.NodeState.{NodeState}
use Rattle.node_rules.specs.State.{Setting}
use Rattle.node_rules.specs.Asks.{IsBlock}

-- The roster, the node's id in it, its state, and the store of its floors.
pub record NodeText (X S : Type 0) : Type 0 where
  pub roster : Tables
  pub id : ℕ
  pub state : NodeState X
  pub store : S

-- What stays the same through all steps, with this way to get the key of a text.
abbrev pub setting_of : {X S : Type 0} → NodeText X S → (List ℕ → Option (List ℕ)) → Setting
setting_of v key_of = record { roster = v.roster; id = v.id; key_of = key_of }

-- The store of copies has the roster's limits.
abbrev pub HasLimits : {X : Type 0} → Held X → Limits → Type 0
HasLimits held limits = (held.limit_count ≡ limits.copies) × (held.limit_bytes ≡ limits.bytes)

-- The id is a member's; the store of copies has the roster's limits; the next block is one; a closed
-- node has no pending request.
pub record IsNode {X : Type 0} (roster : Tables) (id : ℕ) (held : Held X) (pending : List (Pending X)) (next : ℕ)
    (closed : Bool) : Type 0 where
  pub member : is_member roster id ≡ true
  pub limits : HasLimits held roster.limits
  pub block : IsBlock next
  pub none_waits : closed ≡ true → pending ≡ []

-- While the node is open, no call of its store has failed, and an honest store has committed its
-- floors.
abbrev pub IsTied : Bool → FloorTable → Bool → Type 0 → FloorTable → Type 0
IsTied closed floors usable honest stored = closed ≡ false → IsTrue usable × (honest → stored ≡ floors)

-- Roster, id and store of floors stay.
pub record IsSameNode {X S : Type 0} (before after : NodeText X S) : Type 0 where
  pub roster : after.roster ≡ before.roster
  pub id : after.id ≡ before.id
  pub store : after.store ≡ before.store

-- The key of the text, if it has one.
abbrev pub HasKeyOf : List ℕ → Option (List ℕ) → Type 0
HasKeyOf text key = (outcome : Result (List ℕ) KeyFault) × HasKey text outcome × (key ≡ key_in outcome)

-- Roster and id stay.
pub record IsSameMember {X S : Type 0} (before after : NodeText X S) : Type 0 where
  pub roster : after.roster ≡ before.roster
  pub id : after.id ≡ before.id
