-- The invariant of the list of pending requests.
use Rattle.std.specs.Prelude.{◌<◌, All, List}
use Rattle.std.specs.List.{AllPairs}
use Rattle.node_rules.specs.declared.state.Pending.{Pending}
use Rattle.node_rules.specs.Asks.{IsBlock}
use Rattle.node_waiting.specs.CanGoOn.{CanGoOn}

-- The blocks ascend, and each request can go on.
pub record AreInOrder {X : Type 0} (asks : List (Pending X)) : Type 0 where
  pub ascend : AllPairs (λ p q. p.block < q.block) asks
  pub blocks : All (λ p. IsBlock p.block) asks
  pub can_go_on : All CanGoOn asks
