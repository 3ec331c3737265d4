-- Placing a copy by hand.
use Rattle.std.specs.Prelude.{ℕ, nat_lt, List, [], Option, None, unwrap_or, if◌then◌else◌}
use Rattle.http_messages.specs.Answer.{AnswerText}
use Rattle.object_store.specs.declared.copy.WebCopy.{WebCopy}
use Rattle.object_store.specs.declared.store.Put.{Put}
use Rattle.object_store.specs.declared.store.Put.TheVariants as put
use Rattle.object_store.specs.Held.{put_answer, after_put}
use Rattle.floor_rules.specs.Floors.{floor, seen}
use Rattle.values_tables.specs.declared.plain.Limits.{Limits}
use Rattle.node_rules.specs.declared.state.NodeState.{NodeState}
use Rattle.node_rules.specs.State.{with_copies}
use Rattle.node_rules.specs.Arrivals.{store_of}
use Rattle.node_core.specs.declared.placing.Placed.{Placed}
use Rattle.node_core.specs.declared.placing.Placed.TheVariants as placed

-- An empty response of status 200.
abbrev pub empty_answer : AnswerText
empty_answer = record { status = 200; fields = []; age = None; stamp = None; body = [] }

-- A copy of it, requested at time 0 and fresh for 60 seconds.
abbrev pub empty_copy : {X : Type 0} → List ℕ → ℕ → X → WebCopy X
empty_copy key stamp tag = record {
  key = key;
  stamp = stamp;
  asked = 0;
  lifetime = 60;
  answer = empty_answer;
  tag =
      tag;
}

-- What the store did with the copy.
abbrev pub put_as : Put → Placed
put_as put.TooLarge = placed.TooLarge
put_as put.Kept = placed.Kept
put_as put.Stored = placed.Stored

module _ {X : Type 0} (limits : Limits) (s : NodeState X) (key : List ℕ) (stamp : Option ℕ) (tag : X) where
  -- the given stamp, or the greatest number seen
  abbrev pub placed_stamp : ℕ
  placed_stamp = unwrap_or stamp (seen s.floors)

  abbrev pub placed_copy : WebCopy X
  placed_copy = empty_copy key placed_stamp tag

  -- the result
  abbrev pub placed_as : Placed
  placed_as = if nat_lt placed_stamp (floor s.floors key) then placed.Old
      else put_as (put_answer (store_of limits s.copies) placed_copy)

  -- the state after it
  abbrev pub with_placed : NodeState X
  with_placed = if nat_lt placed_stamp (floor s.floors key) then s
      else with_copies s (after_put (store_of limits s.copies) placed_copy).copies
