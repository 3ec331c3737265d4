-- A CLR without a base line: without a number, or with one (proofs/NumberLines).
use Rattle.std.proofs.Common.{◌∙◌, ap, option_map, Ok}
use Rattle.values_keys.specs.KeyOf.{key_of}
use Rattle.node_core.specs.View.{setting_of}
use Rattle.node_core.proofs.NumberLines.{without_number, with_number}
use Rattle.node_core.proofs.Outcomes.{without_fault}
use Rattle.node_core.proofs.node.Node.clr_by_line.Goals as goal

pub returns-in-Ok-None-clause-leads : goal.returns-in-Ok-None-clause-leads
returns-in-Ok-None-clause-leads g c key_of =
    without_number (setting_of c.args.self.now key_of) c.args.self.now.state c.args.from c.args.trans c.args.desired
    (option_map (λ k. k.now) c.args.key) c.args.number c.plain_clr.result c.plain_clr.new.self.state
    (c.in-Ok-None.is ∙ ap Ok (rw c.in-Ok-None.is at c.in-Ok-None.field-0-is)) (c.plain_clr.ensures.leads key_of)

pub returns-in-Ok-Some-clause-leads : goal.returns-in-Ok-Some-clause-leads
returns-in-Ok-Some-clause-leads g c key_of =
    with_number (setting_of c.args.self.now key_of) c.args.self.now.state c.args.from c.args.trans c.args.desired
    (option_map (λ k. k.now) c.args.key) c.args.number c.numbered_clr.result c.numbered_clr.new.self.state c.in-Ok-Some.number
    (c.in-Ok-Some.is ∙ ap Ok (rw c.in-Ok-Some.is at c.in-Ok-Some.field-0-is)) (c.numbered_clr.ensures.leads key_of)

pub returns-in-Ok-None-clause-cause : goal.returns-in-Ok-None-clause-cause
returns-in-Ok-None-clause-cause g c = without_fault _ _ _ _ _ _ (c.plain_clr.ensures.leads key_of)
