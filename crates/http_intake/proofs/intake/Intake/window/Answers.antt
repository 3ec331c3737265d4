-- A window is all octets after `start`, or as many of them as a head may have.
use Rattle.std.proofs.Common.{sym, ap, ◌∙◌, arith, length, take, drop, length-take, length-take-le, take_all}
use Rattle.http_intake.proofs.intake.Intake.window.Goals as goal

pub slice_bounds-result-end : goal.slice_bounds-result-end
slice_bounds-result-end c = sym (length-take-le 16384 c.split_at.result.1.now (omega arith))

pub returns-then-rest-le-LONGEST_HEAD-clause-value : goal.returns-then-rest-le-LONGEST_HEAD-clause-value
returns-then-rest-le-LONGEST_HEAD-clause-value c =
    sym (take_all 16384 c.split_at.result.1.now c.if-rest-le-LONGEST_HEAD.true) ∙ ap (take 16384)
    (c.split_at.ensures.back ∙ ap (drop c.args.start) c.octets.ensures.value)

pub returns-else-rest-le-LONGEST_HEAD-clause-short : goal.returns-else-rest-le-LONGEST_HEAD-clause-short
returns-else-rest-le-LONGEST_HEAD-clause-short c = omega (arith, length-take 16384 c.split_at.result.1.now)

pub returns-then-rest-le-LONGEST_HEAD-clause-inside : goal.returns-then-rest-le-LONGEST_HEAD-clause-inside
returns-then-rest-le-LONGEST_HEAD-clause-inside c = omega (arith, ap length c.octets.ensures.value, c.split_at.ensures.back_len)

pub returns-else-rest-le-LONGEST_HEAD-clause-inside : goal.returns-else-rest-le-LONGEST_HEAD-clause-inside
returns-else-rest-le-LONGEST_HEAD-clause-inside c =
    omega (arith, length-take 16384 c.split_at.result.1.now, ap length c.octets.ensures.value, c.split_at.ensures.back_len)

pub returns-then-rest-le-LONGEST_HEAD-clause-room : goal.returns-then-rest-le-LONGEST_HEAD-clause-room
returns-then-rest-le-LONGEST_HEAD-clause-room c = omega (arith, ap length c.octets.ensures.value)

pub returns-else-rest-le-LONGEST_HEAD-clause-room : goal.returns-else-rest-le-LONGEST_HEAD-clause-room
returns-else-rest-le-LONGEST_HEAD-clause-room c = omega (arith, ap length c.octets.ensures.value)
