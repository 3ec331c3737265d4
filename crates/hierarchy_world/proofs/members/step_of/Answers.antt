use Rattle.std.proofs.Common.{rules}
use Rattle.std.specs.Prelude.{◌≢◌, Err}
use Rattle.node_rules.specs.declared.reply.StepFault.TheVariants as fault
use Rattle.hierarchy_world.proofs.Steps.{is_step}
use Rattle.hierarchy_world.proofs.members.step_of.Goals as goal
use Rattle.hierarchy_world.proofs.members.step_of.Goals.{in-Err+in-Closed-1, in-Ok-1}

pub returns-clause-stepped : goal.returns-clause-stepped
returns-clause-stepped c =
    let memory : c.step-outcome.result ≢ Err fault.NoMemory = elim c.match-outcome.branch [ in-Err+in-Closed-1 w ↦ search rules | in-Ok-1 w ↦ search rules ] in
    is_step c.args.node.now c.step-outcome.new.self c.args.event c.args.mark
    c.step-outcome.result c.requires c.step-outcome.ensures.same c.step-outcome.ensures.store c.step-outcome.ensures.cause c.step-outcome.ensures.steps
    c.is_closed-closed.ensures.tied memory
