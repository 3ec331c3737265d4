-- What holds of a node's serials although they come round.
use Rattle.std.specs.Prelude.{◌≡◌, ◌⊎◌, ℕ, ◌<◌, false, List, [], ◌∷◌}
use Rattle.node_rules.specs.declared.state.Pending.{Pending}
use Rattle.node_rules.specs.declared.state.NodeState.{NodeState}
use Rattle.node_rules.specs.declared.event.Event.{Event}
use Rattle.node_rules.specs.declared.event.Event.TheVariants as event
use Rattle.node_rules.specs.State.{fetch_serial, is_idle}
use Rattle.node_rules.specs.Effect.{IsUnderWay}

-- The blocks of these requests ascend, from above this one on: no two have the same.
abbrev pub Ascend : {X : Type 0} → ℕ → List (Pending X) → Type 0
Ascend low [] = Unit {0}
Ascend low (p ∷ asks) = (low < p.block) × Ascend p.block asks

-- The event ends the fetch with this serial, with a response or without.
abbrev pub EndsFetch : {X : Type 0} → Event X → ℕ → Type 0
EndsFetch (event.PeerAnswer serial peer key answer tag now) at = serial ≡ at
EndsFetch (event.OriginAnswer serial key answer now) at = serial ≡ at
EndsFetch (event.ForeignAnswer serial peer key answer tag now) at = serial ≡ at
EndsFetch (event.FetchFailed serial now) at = serial ≡ at
EndsFetch _ at = ⊥

-- The fetch that runs for a request still runs in the next state, under the same serial, or the event
-- ends it.
abbrev pub KeepsFetch : {X : Type 0} → Event X → NodeState X → Pending X → Type 0
KeepsFetch e next p = is_idle p.fetch ≡ false → EndsFetch e (fetch_serial p) ⊎ IsUnderWay next p
