use Rattle.std.proofs.Common.{sym, ap, ◌∙◌}
use Rattle.std.specs.List.{list_any}
use Rattle.reuse_rules.specs.Directives.{is_ill_quoted}
use Rattle.reuse_rules.proofs.Fields.{list_any-map}
use Rattle.reuse_rules.proofs.lifetimes.hides_directives.Goals as goal

pub returns : goal.returns
returns c =
    c.is_one_ill_quoted.ensures ∙ sym (list_any-map is_ill_quoted c.fields.result.now) ∙ ap (list_any is_ill_quoted) c.fields.ensures
