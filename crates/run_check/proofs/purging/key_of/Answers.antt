use Rattle.std.proofs.Common.{◌≡◌, ℕ, List, Option, sym, ◌∙◌}
use Rattle.std.proofs.lemmas.Result.{IfOk-weaker}
use Rattle.values_keys.specs.KeyOf.{key_of}
use Rattle.values_keys.proofs.Outcomes.{gives_keys}
use Rattle.node_core.specs.View.{HasKeyOf}
use Rattle.run_check.proofs.purging.key_of.Goals as goal

keyed : (text : List ℕ) (key : Option (List ℕ)) → HasKeyOf text key → key ≡ key_of text
keyed text key (outcome, has, is) = is ∙ sym (gives_keys text outcome has)

pub returns : goal.returns
returns c = IfOk-weaker c.read_key.result (HasKeyOf c.args.text.now) (λ key. key ≡ key_of c.args.text.now) (keyed c.args.text.now) c.read_key.ensures
