-- What one step of a node keeps: all that the safety of purges rests on.
use Rattle.std.specs.Prelude.{◌≡◌, ℕ, ◌≤◌, max, true, false, List, [], Option, Some, None, Result, ◌⊎◌}
use Rattle.std.specs.List.{AllByRecursion, Contains}
use Rattle.object_store.specs.declared.copy.WebCopy.{WebCopy}
use Rattle.node_rules.specs.declared.state.NodeState.{NodeState}
use Rattle.node_rules.specs.declared.event.Event.{Event}
use Rattle.node_rules.specs.declared.reply.Reply.{Reply}
use Rattle.node_rules.specs.declared.reply.StepFault.{StepFault}
use Rattle.floor_rules.specs.Floors.{floor, seen}
use Rattle.node_rules.specs.declared.raising.Raise.{Raise}
use Rattle.node_rules.specs.State.{Setting, is_outside}
use Rattle.node_rules.specs.Raises.{number_of}
use Rattle.node_rules.specs.Relation.{raise_in}
use Rattle.node_rules.specs.Questions.{is_from_sibling, BeginsNothing}
use Rattle.node_rules.specs.Effect.{copy_served, ServesBareStatus, sent, IsObedient, IsReadOf, IsAnswerOf}

-- The number of a raise, or 0.
abbrev pub number_of_raise : Option Raise → ℕ
number_of_raise None = 0
number_of_raise (Some raise) = number_of raise

-- A raise leaves this base: no less than the old one, and no less than its own number.
abbrev pub LiftsBase : Option Raise → ℕ → ℕ → Type 0
LiftsBase None old new = ⊥
LiftsBase (Some raise) old new = (old ≤ new) × (number_of raise ≤ new)

-- The base stays, or a raise that the event brings lifts it.
abbrev pub KeepsBase : {X : Type 0} → Setting → NodeState X → Event X → NodeState X → Type 0
KeepsBase g s e next = (next.floors.base ≡ s.floors.base) ⊎ LiftsBase (raise_in g e) s.floors.base next.floors.base

-- An outside node where no request is pending serves no copy, begins nothing, and leaves no request
-- waiting.
abbrev pub OutsideServesNothing : {X : Type 0} → Setting → NodeState X → Result (Reply X) StepFault → NodeState X →
    Type 0
OutsideServesNothing g s outcome next =
    is_outside g s ≡ true → s.pending ≡ [] → (copy_served outcome ≡ None) × BeginsNothing s outcome next

-- The open node held this copy, or the event brings it.
abbrev pub HasOrGets : {X : Type 0} → NodeState X → Event X → WebCopy X → Type 0
HasOrGets s e c = (s.closed ≡ false) × (Contains s.copies c ⊎ IsAnswerOf s e c)

-- What a step with this mark keeps, from s by the event e to the next state with an outcome.
pub record Lawful {X : Type 0} (g : Setting) (s : NodeState X) (e : Event X) (mark : X)
    (outcome : Result (Reply X) StepFault) (next : NodeState X) : Type 0 where
  -- no floor falls
  pub floors : (key : List ℕ) → floor s.floors key ≤ floor next.floors key
  -- the base does not fall, and rises only by a raise, to its number at least
  pub base : KeepsBase g s e next
  -- the greatest floor rises only by a raise, and to no more than its number
  pub seen_bound : seen next.floors ≤ max (seen s.floors) (number_of_raise (raise_in g e))
  -- a copy that an open node holds was held before, or came with this event
  pub held : next.closed ≡ false → AllByRecursion (HasOrGets s e) next.copies
  -- an origin read under way began earlier, or with this step
  pub reads : AllByRecursion (IsReadOf s mark outcome) next.pending
  -- a copy that is served was held before, or came with this event
  pub serves : (c : WebCopy X) → copy_served outcome ≡ Some c → HasOrGets s e c
  -- and its stamp is at least the floor of its key
  pub current : (c : WebCopy X) → copy_served outcome ≡ Some c → floor next.floors c.key ≤ c.stamp
  -- a bare status is one whose response no peer uses
  pub statuses : ServesBareStatus outcome
  -- a purge is acknowledged only with its key's floor at least its number, an admission only with the
  -- base at least its number
  pub acknowledges : AllByRecursion (IsObedient g e next.floors) (sent outcome)
  -- a sibling's request begins nothing and leaves no request waiting
  pub siblings : is_from_sibling g e ≡ true → BeginsNothing s outcome next
  -- an outside node serves and begins nothing
  pub outside : OutsideServesNothing g s outcome next
