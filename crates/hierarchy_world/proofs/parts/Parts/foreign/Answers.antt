-- Each way through the code gives the model's consequence: nothing pending, something else pending, or a
-- fetch from a foreign cache (Reaching).
use Rattle.std.proofs.Common.{refl, sym, ◌∙◌}
use Rattle.hierarchy_world.proofs.Reaching.{foreign_taken, none_for_foreign, no_fetch_there, not_foreign}
use Rattle.hierarchy_world.proofs.parts.Parts.foreign.Goals as goal
use Rattle.hierarchy_world.proofs.parts.Parts.foreign.Goals.{in_default-fetch-via-in-AtPeer+else-is_foreign, in_default-fetch-via-in_default-fetch}

pub returns-in_default-fetching : goal.returns-in_default-fetching
returns-in_default-fetching c = (
  none_for_foreign c.args.self.now c.args.self.now c.index.result.now c.args.id c.in-Some.place c.args.serial c.args.answer c.requires c.in-Some.ensures.place
      c.in-Some.ensures.below c.index.ensures
      c.in_default-fetching.ensures,
  refl,
)

pub returns-in_default-fetch : goal.returns-in_default-fetch
returns-in_default-fetch c =
    let refused =
    no_fetch_there c.args.self.now c.args.self.now c.index.result.now c.args.id c.in-Some.place c.args.serial c.args.answer c.requires c.in-Some.ensures.place
    c.in-Some.ensures.below c.index.ensures
    c.in-Some-fetching.pending.now c.in-Some-fetching.ensures in
    elim c.in_default-fetch.branch [
      | in_default-fetch-via-in-AtPeer+else-is_foreign w ↦ (
        refused (not_foreign c.in-Some-fetching.pending.now.fetch w.in-AtPeer.peer w.in-AtPeer.asked w.is_foreign.result w.in-AtPeer.is w.is_foreign.ensures
            w.if-is_foreign.false),
        w.self-is,
      )
      | in_default-fetch-via-in_default-fetch w ↦ (refused (λ peer asked at _. w.in_default-fetch.not-AtPeer peer asked at), w.self-is)
    ]

pub returns : goal.returns
returns c =
    foreign_taken c.args.self.now c.step.new.self c.index.result.now c.args.id c.in-Some.place c.args.serial c.args.answer c.requires c.in-Some.ensures.place
    c.in-Some.ensures.below c.index.ensures
    c.in-Some-fetching.pending.now c.in_ok-key.key c.in-AtPeer.peer c.in-AtPeer.asked c.step.result c.in-Some-fetching.ensures c.in-AtPeer.is
    (sym c.is_foreign.ensures ∙ c.if-is_foreign.true)
    c.in_ok-key.ensures c.step.ensures
