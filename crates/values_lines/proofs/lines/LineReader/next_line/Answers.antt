-- A line that is taken is cut at the first LF that is held, or is what is held at the end of the
-- input; each read adds a piece of the input to what is held.
use Rattle.std.proofs.Common.{drop, arith, length-drop, sym, subst}
use Rattle.values_lines.specs.Reading.{IsCounted}
use Rattle.values_lines.proofs.Counting.{counted_then}
use Rattle.values_lines.proofs.LineLemmas.{line_taken, line_fails, rest_taken, takes_then, open_fails}
use Rattle.values_lines.proofs.lines.LineReader.next_line.Goals as goal

pub returns-in-Some-clause-ok : goal.returns-in-Some-clause-ok
returns-in-Some-clause-ok g c =
    line_taken (drop c.args.self.now.next c.args.self.now.held.items) (g.R.Read.remaining c.args.reader.now) (drop c.pieces.self.next c.pieces.self.held.items)
    (g.R.Read.remaining c.pieces.reader) c.in-Some.length c.take_line.new.line.items (drop c.take_line.new.self.next c.take_line.new.self.held.items)
    c.take_line.result c.pieces.invariant.taken c.in-Some.ensures c.take_line.ensures.ok

pub returns-in-Some-clause-err : goal.returns-in-Some-clause-err
returns-in-Some-clause-err g c =
    line_fails (drop c.args.self.now.next c.args.self.now.held.items) (g.R.Read.remaining c.args.reader.now) (drop c.pieces.self.next c.pieces.self.held.items)
    (g.R.Read.remaining c.pieces.reader) c.in-Some.length c.take_line.result c.pieces.invariant.taken c.in-Some.ensures c.take_line.ensures.err

pub returns-then-len-self-gt-LONGEST_LINE-clause-err : goal.returns-then-len-self-gt-LONGEST_LINE-clause-err
returns-then-len-self-gt-LONGEST_LINE-clause-err g c =
    let size = length-drop c.pieces.self.next c.pieces.self.held.items in
    open_fails (drop c.args.self.now.next c.args.self.now.held.items) (g.R.Read.remaining c.args.reader.now) (drop c.pieces.self.next c.pieces.self.held.items)
    (g.R.Read.remaining c.pieces.reader) c.pieces.invariant.taken c.in-None.ensures (omega (arith, size, c.pieces.self.held.ok.0))

pub returns-in-Ok-false-clause-ok : goal.returns-in-Ok-false-clause-ok
returns-in-Ok-false-clause-ok g c =
    let old = drop c.args.self.now.next c.args.self.now.held.items in
    let held = drop c.pieces.self.next c.pieces.self.held.items in
    let now = drop c.read_more.new.self.next c.read_more.new.self.held.items in
    let before = g.R.Read.remaining c.args.reader.now in
    let after = g.R.Read.remaining c.read_more.new.reader in
    let size = length-drop c.pieces.self.next c.pieces.self.held.items in
    let ended = rw c.in-Ok-false.field-0-test at c.in-Ok-false.ensures.more in
    let took = takes_then old before held (g.R.Read.remaining c.pieces.reader) now after c.pieces.invariant.taken c.in-Ok-false.ensures.taken in
    rest_taken old before held now after c.take_rest.new.line.items (drop c.take_rest.new.self.next c.take_rest.new.self.held.items) c.take_rest.result took
    ended.0 ended.1 c.in-None.ensures (omega (arith, size, c.pieces.self.held.ok.0)) c.take_rest.ensures.ok

pub returns-in-Some-clause-counted : goal.returns-in-Some-clause-counted
returns-in-Some-clause-counted g c =
    subst (λ turns. IsCounted c.args.self.now.turns (g.R.Read.remaining c.args.reader.now) turns (g.R.Read.remaining c.pieces.reader))
    (sym c.take_line.ensures.turns) c.pieces.invariant.counted

pub returns-in-Some-clause-spent : goal.returns-in-Some-clause-spent
returns-in-Some-clause-spent g c = λ is. absurd (c.take_line.ensures.faults is)

pub returns-then-len-self-gt-LONGEST_LINE-clause-counted : goal.returns-then-len-self-gt-LONGEST_LINE-clause-counted
returns-then-len-self-gt-LONGEST_LINE-clause-counted g c = c.pieces.invariant.counted

pub returns-in-Ok-false-clause-counted : goal.returns-in-Ok-false-clause-counted
returns-in-Ok-false-clause-counted g c =
    subst (λ turns. IsCounted c.args.self.now.turns (g.R.Read.remaining c.args.reader.now) turns (g.R.Read.remaining c.read_more.new.reader))
    (sym c.take_rest.ensures.turns)
    (counted_then c.args.self.now.turns c.pieces.self.turns c.read_more.new.self.turns (g.R.Read.remaining c.args.reader.now)
    (g.R.Read.remaining c.pieces.reader) (g.R.Read.remaining c.read_more.new.reader) c.pieces.invariant.counted c.read_more.ensures.counted)

pub returns-in-Err-clause-counted : goal.returns-in-Err-clause-counted
returns-in-Err-clause-counted g c =
    counted_then c.args.self.now.turns c.pieces.self.turns c.read_more.new.self.turns (g.R.Read.remaining c.args.reader.now)
    (g.R.Read.remaining c.pieces.reader) (g.R.Read.remaining c.read_more.new.reader) c.pieces.invariant.counted c.read_more.ensures.counted
