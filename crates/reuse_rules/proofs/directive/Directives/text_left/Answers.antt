use Rattle.std.proofs.Common.{◌≡◌, ◌++◌, None, map, option_copied, sym, ap, ◌∙◌, arith, length, rules}
use Rattle.std.specs.List.{flat_map}
use Rattle.http_messages.specs.Field.{field_text}
use Rattle.reuse_rules.specs.Directives.{directives_of_field}
use Rattle.reuse_rules.specs.Left.{directives_in}
use Rattle.reuse_rules.proofs.Fields.{next_field}
use Rattle.reuse_rules.proofs.directive.Directives.text_left.Goals as goal

pub loop-field-smaller : goal.loop-field-smaller
loop-field-smaller c = omega (arith, ap length c.in_ok-field.ensures.cases.0)

pub loop-field-preserved : goal.loop-field-preserved
loop-field-preserved c =
    let none : option_copied c.loop-field.self.text ≡ None = search rules in
    let fields = c.loop-field.self.fields.now in
    next_field _ fields c.in_ok-field.others.now c.in_ok-field.field.now c.in_ok-field.ensures.cases.0 c.text_of-self.ensures
    ∙ ap (λ text. directives_in text ++ flat_map directives_of_field (map field_text fields)) (sym none)
    ∙ c.loop-field.invariant
