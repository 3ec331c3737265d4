-- A CLR by its number line and its base line (proofs/NumberLines).
use Rattle.std.proofs.Common.{sym}
use Rattle.node_core.specs.View.{setting_of}
use Rattle.node_core.proofs.NumberLines.{key_is, by_lines}
use Rattle.node_core.proofs.node.Node.htcp_clr.Goals as goal

pub returns-clause-leads : goal.returns-clause-leads
returns-clause-leads g c key_of gives =
    by_lines (setting_of c.args.self.now key_of) c.args.self.now.state c.args.from c.args.trans c.args.desired c.args.spec.now c.in_ok-key.key
    c.number_in-number.result c.number_in-base.result c.clr_by_lines.result c.clr_by_lines.new.self.state
    (rw c.as_slice.ensures.value at (key_is key_of c.as_slice.result.now c.in_ok-key.key gives c.in_ok-key.ensures))
    (sym (rw c.as_slice-headers.ensures.value at c.number_in-number.ensures))
    (sym (rw c.as_slice-headers.ensures.value at c.number_in-base.ensures))
    (rw c.as_ref.ensures.value at (c.clr_by_lines.ensures.leads key_of))
