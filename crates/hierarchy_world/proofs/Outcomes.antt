-- The outcome of an event, by the counts of what was sent.
use Rattle.std.proofs.Common.{◌≡◌, ◌-◌, length, ◌∙◌, ap}
use Rattle.world_rules.specs.World.{World}
use Rattle.world_rules.specs.Consequence.{Seen}
use Rattle.world_rules.specs.Apply.{numbers_after, new_item, outcome_with, outcome_of}
use Rattle.hierarchy_world.specs.declared.telling.Counts.{Counts}
use Rattle.hierarchy_world.specs.Outcomes.{AreCounts, outcome_by}

-- the outcome by these counts is the outcome of the two worlds
pub outcome_told : (old new : World) (before after : Counts) (seen : Seen) → AreCounts old before → AreCounts new after →
    outcome_by before after seen ≡ outcome_of old new seen
outcome_told old new before after seen was is =
    ap (λ n. outcome_with seen (new_item n after.answers) (numbers_after before.datagrams (after.datagrams - before.datagrams))
    (new_item before.asks after.asks)) was.answers
    ∙ ap (λ n. outcome_with seen (new_item (length old.answers) n) (numbers_after before.datagrams (after.datagrams - before.datagrams))
    (new_item before.asks after.asks)) is.answers
    ∙ ap (λ n. outcome_with seen (new_item (length old.answers) (length new.answers)) (numbers_after n (after.datagrams - n)) (new_item before.asks after.asks))
    was.datagrams
    ∙ ap (λ n. outcome_with seen (new_item (length old.answers) (length new.answers)) (numbers_after (length old.datagrams) (n - length old.datagrams))
    (new_item before.asks after.asks)) is.datagrams
    ∙ ap (λ n. outcome_with seen (new_item (length old.answers) (length new.answers))
    (numbers_after (length old.datagrams) (length new.datagrams - length old.datagrams)) (new_item n after.asks)) was.asks
    ∙ ap (λ n. outcome_with seen (new_item (length old.answers) (length new.answers))
    (numbers_after (length old.datagrams) (length new.datagrams - length old.datagrams)) (new_item (length old.asks) n)) is.asks
