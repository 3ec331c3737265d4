use Rattle.std.proofs.Common.{Ok, sym, ◌∙◌, subst}
use Rattle.url_key.specs.Key.{HasKey}
use Rattle.url_key.proofs.KeyLemmas.{early_is_no_memory}
use Rattle.url_key.proofs.PlainKeyLemmas.{plain_has_key, plain_passes}
use Rattle.url_key.proofs.key.text_of_key.Goals as goal

-- a plain key has the key that it is
pub returns-then-is_plain_key-clause-outcome : goal.returns-then-is_plain_key-clause-outcome
returns-then-is_plain_key-clause-outcome c =
    subst (λ key. HasKey c.args.text.now (Ok key)) (sym c.in_ok-key.ensures.items)
    (plain_has_key c.args.text.now (sym c.is_plain_key.ensures ∙ c.if-is_plain_key.true))

-- so where memory is asked for there is no early fault
pub returns-in_err-key-clause-memory : goal.returns-in_err-key-clause-memory
returns-in_err-key-clause-memory c = λ _. plain_passes c.args.text.now (sym c.is_plain_key.ensures ∙ c.if-is_plain_key.true)

-- and an early fault is not want of memory
pub returns-in-Some-clause-memory : goal.returns-in-Some-clause-memory
returns-in-Some-clause-memory c = λ e. absurd (early_is_no_memory c.args.text.now c.in-Some.fault c.in-Some.ensures (cc))
