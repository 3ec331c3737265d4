-- Without a base line, the raise is that of the number line.
use Rattle.std.proofs.Common.{◌≡◌, ℕ, Ok, None, sym, ◌∙◌, ap}
use Rattle.std.proofs.lemmas.Result.{IfOk-weaker}
use Rattle.htcp_wire.specs.declared.numbers.HeaderKind.TheVariants.{PurgeNumber, PurgeBase}
use Rattle.htcp_wire.specs.Numbers.{number_in_text}
use Rattle.values_keys.specs.KeyOf.{key_of}
use Rattle.node_rules.specs.Relation.{raise_meant, raise_by_lines, purge_by_line}
use Rattle.node_rules.specs.State.{setting}
use Rattle.run_check.proofs.purging.raise_by.Goals as goal

pub returns-in-Ok-None-clause-raise : goal.returns-in-Ok-None-clause-raise
returns-in-Ok-None-clause-raise c =
    let roster = c.args.roster.now in
    let spec = c.args.spec.now in
    let number = number_in_text spec.request_headers PurgeNumber in
    let base : number_in_text spec.request_headers PurgeBase ≡ Ok None =
    ap (λ t. number_in_text t PurgeBase) (sym c.as_slice-headers.ensures.value) ∙ sym c.number_in.ensures ∙ c.in-Ok-None.is ∙ ap Ok c.in-Ok-None.field-0-is in
    IfOk-weaker c.purge_by.result (λ raise. (id : ℕ) → raise ≡ purge_by_line (setting roster id) c.args.from c.args.trans (key_of spec.uri) number)
    (λ raise. (id : ℕ) → raise ≡ raise_meant (setting roster id) c.args.from c.args.trans spec)
    (λ raise is id. is id ∙ sym (ap (raise_by_lines (setting roster id) c.args.from c.args.trans (key_of spec.uri) number) base)) c.purge_by.ensures.raise
