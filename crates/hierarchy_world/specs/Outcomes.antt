-- How many items were sent, and the outcome by these counts.
use Rattle.std.specs.Prelude.{◌≡◌, ◌-◌, length}
use Rattle.world_rules.specs.declared.outcome.Outcome.{Outcome}
use Rattle.world_rules.specs.World.{World}
use Rattle.world_rules.specs.Consequence.{Seen}
use Rattle.world_rules.specs.Apply.{numbers_after, new_item, outcome_with}
use Rattle.hierarchy_world.specs.declared.telling.Counts.{Counts}

-- these many items were sent in this world
pub record AreCounts (w : World) (c : Counts) : Type 0 where
  pub datagrams : c.datagrams ≡ length w.datagrams
  pub asks : c.asks ≡ length w.asks
  pub answers : c.answers ≡ length w.answers

-- the outcome of what was seen, by the counts of items sent before and after
abbrev pub outcome_by : Counts → Counts → Seen → Outcome
outcome_by before after seen =
    outcome_with seen (new_item before.answers after.answers)
    (numbers_after before.datagrams (after.datagrams - before.datagrams)) (new_item before.asks after.asks)
