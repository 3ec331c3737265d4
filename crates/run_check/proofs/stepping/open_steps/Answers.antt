use Rattle.std.proofs.Common.{Err, refl, sym, ◌∙◌, subst, inr}
use Rattle.std.proofs.lemmas.Bool.{false≢true}
use Rattle.node_rules.specs.State.{setting}
use Rattle.run_rules.specs.declared.verdict.Cause.TheVariants.{OtherReply}
use Rattle.run_rules.specs.Judging.{OpenStepsBy}
use Rattle.run_check.proofs.stepping.open_steps.Goals as goal

pub returns-else-reaches-clause-stepped : goal.returns-else-reaches-clause-stepped
returns-else-reaches-clause-stepped c = λ _.
    subst (λ outcome. OpenStepsBy (setting c.args.roster.now c.args.id) c.args.node.state c.args.entry.now c.args.is_closed c.args.kept.now outcome
    (Err OtherReply)) (sym c.in-Ok.is)
    (inr (λ reached. false≢true (sym c.if-reaches.false ∙ c.reaches.ensures.1 reached), refl))
