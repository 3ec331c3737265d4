use Rattle.std.proofs.Common.{Bool, sym, ◌∙◌, ap, subst}
use Rattle.hierarchy_world.specs.View.{WorldView, IsApplied}
use Rattle.hierarchy_world.specs.Parts.{view_of}
use Rattle.hierarchy_world.proofs.Applying.{made_applied, made_tells, applied_still}
use Rattle.hierarchy_world.proofs.playing.World.apply.Goals as goal

pub returns-clause-applied : goal.returns-clause-applied
returns-clause-applied c =
    let old = c.self.inside.parts in
    let new = c.happen-answer.new.self in
    let spoilt = c.is_spoiling-self-inside.result in
    subst (λ (v : WorldView). IsApplied v c.args.event c.happen-answer.result (view_of new spoilt))
    (ap (λ (b : Bool). view_of old b) (sym c.if-self.false) ∙ c.self.view_is)
    (made_applied old new c.args.event c.happen-answer.result spoilt c.is_spoiling-self-inside.ensures c.happen-answer.ensures)

pub returns-clause-noise : goal.returns-clause-noise
returns-clause-noise c = applied_still _ _ c.args.event c.happen-answer.result (returns-clause-applied c)

pub returns-clause-lack : goal.returns-clause-lack
returns-clause-lack c = made_tells c.self.inside.parts c.happen-answer.new.self c.args.event c.happen-answer.result c.happen-answer.ensures
