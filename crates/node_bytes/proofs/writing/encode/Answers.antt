use Rattle.std.proofs.Common.{sym, ◌∙◌, subst, rules}
use Rattle.node_rules.specs.Texts.{IsSendable}
use Rattle.node_bytes.proofs.Decoding.{icp_read_back, htcp_read_back}
use Rattle.node_bytes.proofs.writing.encode.Goals as goal

pub returns-in-Ok-clause-read : goal.returns-in-Ok-clause-read
returns-in-Ok-clause-read c =
    let is = sym c.message.ensures.value ∙ c.in-Icp.is in
    icp_read_back c.args.sent.now c.in-Icp.message c.in-Ok.octets.items is c.in-Ok.ensures (subst IsSendable is c.message.ensures.sendable)
    (search rules)

pub returns-in-Ok-encode-clause-read : goal.returns-in-Ok-encode-clause-read
returns-in-Ok-encode-clause-read c =
    let is = sym c.message.ensures.value ∙ c.in-Htcp.is in
    htcp_read_back c.args.sent.now c.in-Htcp.message c.in-Ok-encode.octets.items is c.in-Ok-encode.ensures (subst IsSendable is c.message.ensures.sendable)
    (search rules)
