-- The replayed step is the function's (Steps), so it has the entry's outcome exactly if the
-- definition does.
use Rattle.std.proofs.Common.{◌≢◌, Err, sym, ◌∙◌}
use Rattle.std.proofs.lemmas.Bool.{false≢true}
use Rattle.node_rules.specs.declared.reply.StepFault.TheVariants as fault
use Rattle.run_check.proofs.Steps.{copy_stepped, member_node_after, steps_so, steps_otherwise}
use Rattle.run_check.proofs.stepping.play.Goals as goal

pub returns-then-same_outcome-clause-stepped : goal.returns-then-same_outcome-clause-stepped
returns-then-same_outcome-clause-stepped c = λ of_member.
    let after = c.step-outcome.new.self in
    let outcome = c.step-outcome.result in
    let entry = c.args.entry.now in
    let memory : outcome ≢ Err fault.NoMemory = λ wanted. false≢true (sym c.if-has_wanted_memory.false ∙ c.has_wanted_memory.ensures.1 wanted) in
    let is = copy_stepped c.args.roster.now c.args.id c.args.node after entry.event c.in_ok-copy_of_event.field-0 outcome c.in_ok-copy_of_event.ensures
    of_member c.step-outcome.ensures.cause c.step-outcome.ensures.steps memory in
    steps_so c.args.roster.now c.args.id c.args.node after entry outcome is (c.same_outcome.ensures.0 c.if-same_outcome.true)

pub returns-then-same_outcome-clause-sound : goal.returns-then-same_outcome-clause-sound
returns-then-same_outcome-clause-sound c = λ of_member.
    let after = c.step-outcome.new.self in
    let outcome = c.step-outcome.result in
    let entry = c.args.entry.now in
    let memory : outcome ≢ Err fault.NoMemory = λ wanted. false≢true (sym c.if-has_wanted_memory.false ∙ c.has_wanted_memory.ensures.1 wanted) in
    let is = copy_stepped c.args.roster.now c.args.id c.args.node after entry.event c.in_ok-copy_of_event.field-0 outcome c.in_ok-copy_of_event.ensures
    of_member c.step-outcome.ensures.cause c.step-outcome.ensures.steps memory in
    member_node_after c.args.roster.now c.args.id c.args.node after entry.event outcome of_member c.step-outcome.ensures.same is c.is_closed-closed.ensures.tied

pub returns-else-same_outcome-clause-stepped : goal.returns-else-same_outcome-clause-stepped
returns-else-same_outcome-clause-stepped c = λ of_member.
    let after = c.step-outcome.new.self in
    let outcome = c.step-outcome.result in
    let entry = c.args.entry.now in
    let memory : outcome ≢ Err fault.NoMemory = λ wanted. false≢true (sym c.if-has_wanted_memory.false ∙ c.has_wanted_memory.ensures.1 wanted) in
    let is = copy_stepped c.args.roster.now c.args.id c.args.node after entry.event c.in_ok-copy_of_event.field-0 outcome c.in_ok-copy_of_event.ensures
    of_member c.step-outcome.ensures.cause c.step-outcome.ensures.steps memory in
    steps_otherwise c.args.roster.now c.args.id c.args.node after entry outcome is
    (λ same. false≢true (sym c.if-same_outcome.false ∙ c.same_outcome.ensures.1 same))
