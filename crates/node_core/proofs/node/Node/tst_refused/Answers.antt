use Rattle.std.proofs.Common.{◌≡◌, ◌==◌, true, rules}
use Rattle.node_core.specs.View.{setting_of}
use Rattle.node_core.proofs.SameWords.{no_tst}
use Rattle.node_core.proofs.node.Node.tst_refused.Goals as goal

pub returns-then-opcode-eq-TST-clause-leads : goal.returns-then-opcode-eq-TST-clause-leads
returns-then-opcode-eq-TST-clause-leads g c key_of =
    let is : (c.args.opcode == 1) ≡ true = grind rules in
    no_tst (setting_of c.args.self.now key_of) c.args.self.now.state c.args.from c.args.trans c.args.now c.args.mark c.of.result c.htcp_told.result
    c.htcp_told.new.self.state c.args.opcode is c.of.ensures (c.htcp_told.ensures.leads key_of)
