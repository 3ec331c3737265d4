use Rattle.std.proofs.Common.{rules, tests}
use Rattle.std.proofs.lemmas.Slice.Eq.{slice_eq-Decides}
use Rattle.peer_chooser.specs.declared.said.FirstAnswer.{FirstAnswer}
use Rattle.run_check.proofs.states.same_answers.Goals as goal

pub returns : goal.returns
returns c = slice_eq-Decides (λ (a b : FirstAnswer). search (rules, tests)) c.args.one.now c.args.other.now c.eq.result c.eq.ensures
