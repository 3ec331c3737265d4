use Rattle.values_keys.specs.KeyOf.{key_of}
use Rattle.values_keys.proofs.Outcomes.{gives_keys}
use Rattle.node_core.specs.View.{setting_of}
use Rattle.node_bytes.proofs.Asks.{outcomes_answer}
use Rattle.node_bytes.proofs.stepper.NodeUnitStepper.step.Goals as goal

pub returns-clause-asks : goal.returns-clause-asks
returns-clause-asks g c =
    outcomes_answer (setting_of c.args.self.now key_of) c.args.self.now.state c.args.event tt c.step.result c.step.new.self.state
    (c.step.ensures.steps key_of gives_keys)
