use Rattle.std.proofs.Common.{bytes_eq, sym, ap, ◌∙◌}
use Rattle.std.specs.List.{list_any}
use Rattle.reuse_rules.proofs.Fields.{list_any-map}
use Rattle.reuse_rules.proofs.lifetimes.has_field.Goals as goal

pub returns : goal.returns
returns c =
    c.is_among.ensures ∙ sym (list_any-map (λ f. bytes_eq f.name c.args.name.now) c.fields.result.now)
    ∙ ap (list_any (λ f. bytes_eq f.name c.args.name.now)) c.fields.ensures
