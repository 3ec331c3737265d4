-- A CLR by its base line: without one, or with one (proofs/NumberLines).
use Rattle.std.proofs.Common.{◌∙◌, ap, option_map, Ok}
use Rattle.node_core.specs.View.{setting_of}
use Rattle.node_core.proofs.NumberLines.{without_base, with_base}
use Rattle.node_core.proofs.node.Node.clr_by_lines.Goals as goal

pub returns-in-Ok-None-clause-leads : goal.returns-in-Ok-None-clause-leads
returns-in-Ok-None-clause-leads g c key_of =
    without_base (setting_of c.args.self.now key_of) c.args.self.now.state c.args.from c.args.trans c.args.desired
    (option_map (λ k. k.now) c.args.key) c.args.number c.clr_by_line.result c.clr_by_line.new.self.state c.args.base
    (c.in-Ok-None.is ∙ ap Ok (rw c.in-Ok-None.is at c.in-Ok-None.field-0-is)) (c.clr_by_line.ensures.leads key_of)

pub returns-in-Ok-Some-clause-leads : goal.returns-in-Ok-Some-clause-leads
returns-in-Ok-Some-clause-leads g c key_of =
    with_base (setting_of c.args.self.now key_of) c.args.self.now.state c.args.from c.args.trans c.args.desired
    (option_map (λ k. k.now) c.args.key) c.args.number c.base_clr.result c.base_clr.new.self.state c.args.base c.in-Ok-Some.base
    (c.in-Ok-Some.is ∙ ap Ok (rw c.in-Ok-Some.is at c.in-Ok-Some.field-0-is)) (c.base_clr.ensures.leads key_of)
