use Rattle.std.proofs.Common.{sym, ap, refl, ◌∙◌}
use Rattle.url_key.specs.Plain.{plain_key}
use Rattle.url_key.proofs.KeyLemmas.{made}
use Rattle.url_key.proofs.PlainKeyLemmas.{plain_has_key}
use Rattle.url_key.proofs.key.Key.from_plain.Goals as goal

pub invariant_of-result : goal.invariant_of-result
invariant_of-result c = (made c.args.text.items c.args.text.items
    (plain_has_key c.args.text.items (sym (ap plain_key c.as_slice.ensures.value) ∙ sym c.is_plain_key.ensures ∙ c.if-is_plain_key.true))).is_key

pub returns-then-is_plain_key-clause-ok : goal.returns-then-is_plain_key-clause-ok
returns-then-is_plain_key-clause-ok c =
    (refl, plain_has_key c.args.text.items (sym (ap plain_key c.as_slice.ensures.value) ∙ sym c.is_plain_key.ensures ∙ c.if-is_plain_key.true))
