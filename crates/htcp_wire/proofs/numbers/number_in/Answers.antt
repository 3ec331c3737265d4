-- Each step of the loop of `number_in` keeps the values found so far: an octet that ends no line
-- changes nothing, one that ends a line adds its value, and a second value is `BadNumber`.
use Rattle.std.proofs.Common.{◌-◌, length, sym, ap, ◌∙◌, arith}
use Rattle.std.specs.Prelude.{option_to_list}
use Rattle.std.proofs.lemmas.Result.{err_from_is_err_and}
use Rattle.htcp_wire.specs.Numbers.{line_name, value_in, number_of_values}
use Rattle.htcp_wire.proofs.Lines.{line_at, KeepsLines-within, line_added, second_value, all_values, last_second_value}
use Rattle.htcp_wire.proofs.numbers.number_in.Goals.{then-ends_line+in_ok-found, else-ends_line}
use Rattle.htcp_wire.proofs.numbers.number_in.Goals as goal

pub returns-in_err-found : goal.returns-in_err-found
returns-in_err-found c =
    let p = err_from_is_err_and c.from_residual.result c.from_residual.ensures.1 in
    let line = line_at c.args.text.now c.loop-end.start (c.loop-end.end - 1) in
    let last = ap option_to_list (c.value_in.ensures ∙ ap (λ name. value_in name line) c.line_name-name.ensures) in
    rw (p.1, p.2, c.in_err-found.ensures.0) (sym (second_value (value_in (line_name c.args.kind)) c.args.text.now c.loop-end.start c.loop-end.end _ _
    c.loop-end-test.true (sym c.ends_line.ensures ∙ c.if-ends_line.true) c.loop-end.invariant last c.in_err-found.ensures.1))

pub loop-end-preserved : goal.loop-end-preserved
loop-end-preserved c =
    let text = c.args.text.now in
    let value = value_in (line_name c.args.kind) in
    elim c.if-ends_line.branch [
      | then-ends_line+in_ok-found w ↦
          let line = line_at text c.loop-end.start (c.loop-end.end - 1) in
          let last = ap option_to_list (w.value_in.ensures ∙ ap (λ name. value_in name line) c.line_name-name.ensures) in
          rw (w.start-is, w.found-is) (line_added value text c.loop-end.start c.loop-end.end _ _ _
          c.loop-end-test.true (sym c.ends_line.ensures ∙ w.if-ends_line.true) c.loop-end.invariant last w.in_ok-found.ensures)
      | else-ends_line w ↦
          rw (w.start-is, w.found-is) (KeepsLines-within value text c.loop-end.start c.loop-end.end _
          c.loop-end-test.true (sym c.ends_line.ensures ∙ w.if-ends_line.false) c.loop-end.invariant)
    ]

pub returns-in_err-at_most_one : goal.returns-in_err-at_most_one
returns-in_err-at_most_one c =
    let p = err_from_is_err_and c.from_residual-in_err-at_most_one.result c.from_residual-in_err-at_most_one.ensures.1 in
    let text = c.args.text.now in
    let last = ap option_to_list (c.value_in-2.ensures ∙ ap (λ name. value_in name (line_at text c.loop-end.start (length text))) c.line_name-name.ensures) in
    let all = all_values (value_in (line_name c.args.kind)) text c.loop-end.start c.loop-end.end _ _ (omega arith) c.loop-end-test.false c.loop-end.invariant
    last in
    rw (p.1, p.2, c.in_err-at_most_one.ensures.0) (sym (last_second_value _ _ all c.in_err-at_most_one.ensures.1))

pub returns : goal.returns
returns c =
    let text = c.args.text.now in
    let last = ap option_to_list (c.value_in-2.ensures ∙ ap (λ name. value_in name (line_at text c.loop-end.start (length text))) c.line_name-name.ensures) in
    let all = all_values (value_in (line_name c.args.kind)) text c.loop-end.start c.loop-end.end _ _ (omega arith) c.loop-end-test.false c.loop-end.invariant
    last in
    c.number_of_value.ensures ∙ ap number_of_values (c.in_ok-at_most_one.ensures ∙ all)
