use Rattle.std.proofs.Common.{◌∙◌, ◌<◌, ◌^◌, refl, rules}
use Rattle.hierarchy_world.specs.Parts.{world_of, seen_of}
use Rattle.hierarchy_world.proofs.Outcomes.{outcome_told}
use Rattle.hierarchy_world.proofs.Happening.{consequence_made}
use Rattle.hierarchy_world.proofs.parts.Parts.happen.Goals as goal

pub returns : goal.returns
returns c =
    let small : c.args.self.now.place < 2 ^ 64 = search rules in
    consequence_made c.args.self.now c.follow.new.self c.args.event c.in_ok-seen.seen c.in_ok-outcome.outcome _ c.in_ok-seen.ensures.taken
    c.in_ok-seen.ensures.key
    (c.in_ok-outcome.ensures ∙ outcome_told (world_of c.args.self.now) (world_of c.follow.new.self) _ _ (seen_of c.in_ok-seen.seen) c.counts-before.ensures
    c.counts.ensures)
    c.requires.place small refl
