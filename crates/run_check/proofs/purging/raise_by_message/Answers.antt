-- By cases on the message: only an HTCP CLR raises anything.
use Rattle.std.proofs.Common.{◌≡◌, ℕ, Bool, sym, ◌∙◌, ap}
use Rattle.std.proofs.lemmas.Result.{IfOk-weaker}
use Rattle.htcp_wire.specs.declared.message.Htcp.{Htcp}
use Rattle.htcp_wire.specs.declared.message.Specifier.{Specifier}
use Rattle.htcp_wire.specs.declared.message.Content.TheVariants as content
use Rattle.values_plain.specs.declared.address.Address.{Address}
use Rattle.values_tables.specs.declared.plain.Tables.{Tables}
use Rattle.node_rules.specs.declared.message.Message.{Message}
use Rattle.node_rules.specs.declared.message.Message.TheVariants as message
use Rattle.node_rules.specs.Relation.{raise_in_message, raise_in_content, raise_meant}
use Rattle.node_rules.specs.State.{setting}
use Rattle.run_check.proofs.purging.raise_by_message.Goals as goal

brought : (roster : Tables) (from : Address) (m : Message) (h : Htcp) (desired : Bool) (reason : ℕ) (spec : Specifier) → m ≡ message.Htcp h →
    h.content ≡ content.ClrAsk desired reason spec →
    (id : ℕ) → raise_meant (setting roster id) from h.trans spec ≡ raise_in_message (setting roster id) from m
brought roster from m h desired reason spec is clear id =
    sym (ap (raise_in_message (setting roster id) from) is ∙ ap (raise_in_content (setting roster id) from h.trans) clear)

pub returns-in-ClrAsk-clause-raise : goal.returns-in-ClrAsk-clause-raise
returns-in-ClrAsk-clause-raise c =
    let roster = c.args.roster.now in
    let trans = c.in-Htcp.message.trans in
    let same = brought roster c.args.from c.args.message.now c.in-Htcp.message c.in-ClrAsk.desired c.in-ClrAsk.reason c.in-ClrAsk.spec c.in-Htcp.is
    c.in-ClrAsk.is in
    IfOk-weaker c.raise_by.result (λ raise. (id : ℕ) → raise ≡ raise_meant (setting roster id) c.args.from trans c.in-ClrAsk.spec)
    (λ raise. (id : ℕ) → raise ≡ raise_in_message (setting roster id) c.args.from c.args.message.now)
    (λ raise is id. is id ∙ same id) c.raise_by.ensures.raise
