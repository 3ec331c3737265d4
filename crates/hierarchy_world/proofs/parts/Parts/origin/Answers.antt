-- Each way through the code gives the model's consequence: nothing pending, something else pending, or an
-- origin read (Reaching).
use Rattle.std.proofs.Common.{refl}
use Rattle.hierarchy_world.proofs.Reaching.{origin_taken, none_for_origin, no_read_there}
use Rattle.hierarchy_world.proofs.parts.Parts.origin.Goals as goal

pub returns-in_default-fetching : goal.returns-in_default-fetching
returns-in_default-fetching c = (
  none_for_origin c.args.self.now c.args.self.now c.index.result.now c.args.id c.in-Some.place c.args.serial c.args.answer c.requires c.in-Some.ensures.place
      c.in-Some.ensures.below c.index.ensures
      c.in_default-fetching.ensures,
  refl,
)

pub returns-in_default-fetch : goal.returns-in_default-fetch
returns-in_default-fetch c = (
  no_read_there c.args.self.now c.args.self.now c.index.result.now c.args.id c.in-Some.place c.args.serial c.args.answer c.requires c.in-Some.ensures.place
      c.in-Some.ensures.below c.index.ensures
      c.in-Some-fetching.pending.now c.in-Some-fetching.ensures c.in_default-fetch.not-AtOrigin,
  refl,
)

pub returns : goal.returns
returns c =
    origin_taken c.args.self.now c.step.new.self c.index.result.now c.args.id c.in-Some.place c.args.serial c.args.answer c.requires c.in-Some.ensures.place
    c.in-Some.ensures.below c.index.ensures
    c.in-Some-fetching.pending.now c.in_ok-key-in-AtOrigin.key c.in-AtOrigin.stamp c.in-AtOrigin.asked c.in-AtOrigin.mark c.step.result
    c.in-Some-fetching.ensures c.in-AtOrigin.is
    c.in_ok-key-in-AtOrigin.ensures c.step.ensures
