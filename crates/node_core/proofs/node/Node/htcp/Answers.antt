-- An HTCP message by its content: a TST hit or miss says what the rule says, and only a CLR can
-- meet a fault of the store.
use Rattle.node_core.specs.View.{setting_of}
use Rattle.node_core.proofs.SameWords.{hit, miss}
use Rattle.values_keys.specs.KeyOf.{key_of}
use Rattle.node_core.proofs.Outcomes.{without_fault, without_fault_by}
use Rattle.node_core.proofs.node.Node.htcp.Goals as goal

pub returns-in-TstHit-clause-leads : goal.returns-in-TstHit-clause-leads
returns-in-TstHit-clause-leads g c key_of gives =
    rw c.in-TstHit.is (hit (setting_of c.args.self.now key_of) c.args.self.now.state c.args.from c.args.trans c.args.now c.args.mark c.hit_said-heard.result
    c.htcp_told.result c.htcp_told.new.self.state c.in-TstHit.detail (rw c.as_slice.ensures.value at c.hit_said-heard.ensures)
    (c.htcp_told.ensures.leads key_of))

pub returns-in-TstMiss-clause-leads : goal.returns-in-TstMiss-clause-leads
returns-in-TstMiss-clause-leads g c key_of gives =
    rw c.in-TstMiss.is (miss (setting_of c.args.self.now key_of) c.args.self.now.state c.args.from c.args.trans c.args.now c.args.mark c.of.result
    c.htcp_told-in-TstMiss.result c.htcp_told-in-TstMiss.new.self.state c.in-TstMiss.cache c.of.ensures (c.htcp_told-in-TstMiss.ensures.leads key_of))

pub returns-in-TstAsk-clause-cause : goal.returns-in-TstAsk-clause-cause
returns-in-TstAsk-clause-cause g c = without_fault_by _ _ _ _ _ _ c.htcp_tst.ensures

pub returns-in-TstHit-clause-cause : goal.returns-in-TstHit-clause-cause
returns-in-TstHit-clause-cause g c = without_fault _ _ _ _ _ _ (c.htcp_told.ensures.leads key_of)

pub returns-in-TstMiss-clause-cause : goal.returns-in-TstMiss-clause-cause
returns-in-TstMiss-clause-cause g c = without_fault _ _ _ _ _ _ (c.htcp_told-in-TstMiss.ensures.leads key_of)

pub returns-in-Overall-clause-cause : goal.returns-in-Overall-clause-cause
returns-in-Overall-clause-cause g c = without_fault _ _ _ _ _ _ (c.tst_refused.ensures.leads key_of)
