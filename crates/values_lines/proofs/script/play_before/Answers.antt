-- The loop keeps the invariant of `specs/Playing`: each way out of it, and each way round, is one
-- lemma of PlayLemmas.
use Rattle.std.proofs.Common.{option_map, ◌≡◌, [], drop, refl, sym, ap, subst, Err, ◌∙◌}
use Rattle.values_lines.specs.declared.fault.RunFault.TheVariants.{Io, TooManyTurns, LineTooLong, NoMemory}
use Rattle.values_plain.proofs.Laws.{proper_front}
use Rattle.values_lines.specs.Lines.{is_last}
use Rattle.values_lines.specs.Reading.{IsCounted}
use Rattle.values_lines.proofs.Counting.{counted_same, counted_then}
use Rattle.values_lines.proofs.PlayLemmas.{none_left, none_before_last, spent_all, not_spent, playing_start, playing_line, playing_written, playing_stops}
use Rattle.values_lines.proofs.PlayLemmas.{nothing_written, other_fault, playing_ends}
use Rattle.values_lines.proofs.script.play_before.Goals as goal

pub returns-in-Err : goal.returns-in-Err
returns-in-Err g c =
    let answers = g.S.Script.answers in
    let last = option_map (λ t. t.now) c.args.last in
    let start = c.args.script.now in
    let input = g.R.Read.remaining c.args.reader.now in
    let first = g.W.Write.contents c.args.writer.now in
    playing_stops answers last start start input [] input first first first [] NoMemory start (playing_start answers last start input [] [] first refl refl)
    (nothing_written answers last start first []) (other_fault answers last start [] input NoMemory (λ e. cc)) (not_spent input NoMemory (λ e. cc))

pub lines-init : goal.lines-init
lines-init g c =
    let answers = g.S.Script.answers in
    let last = option_map (λ t. t.now) c.args.last in
    let start = c.args.script.now in
    let input = g.R.Read.remaining c.args.reader.now in
    let first = g.W.Write.contents c.args.writer.now in
    record {
      playing = playing_start answers last start input (drop c.in-Ok.source.next c.in-Ok.source.held.items) c.new-text.result.items first
          (rw (c.in-Ok.ensures.0, c.in-Ok.ensures.1) refl) c.new-text.ensures.items;
      counted = subst (λ turns. IsCounted 0 input turns input) (sym c.in-Ok.ensures.2) (counted_same 0 input);
    }

pub returns-in-Ok-false : goal.returns-in-Ok-false
returns-in-Ok-false g c =
    let answers = g.S.Script.answers in
    let last = option_map (λ t. t.now) c.args.last in
    let start = c.args.script.now in
    let input = g.R.Read.remaining c.args.reader.now in
    let first = g.W.Write.contents c.args.writer.now in
    let held = drop c.lines.source.next c.lines.source.held.items in
    let rest = g.R.Read.remaining c.lines.reader in
    let writer = g.W.Write.contents c.lines.writer in
    let text = c.lines.text.items in
    let none = rw c.in-Ok-false.field-0-test at c.in-Ok-false.ensures.ok in
    playing_ends answers last start c.lines.script input held rest first writer (g.W.Write.contents c.write_text.new.writer) text c.write_text.result
    c.lines.invariant.playing (none_left last held rest none) (rw c.deref.ensures.value at c.write_text.ensures.written) c.write_text.ensures.fault

pub returns-in-Err-next_line : goal.returns-in-Err-next_line
returns-in-Err-next_line g c =
    let answers = g.S.Script.answers in
    let last = option_map (λ t. t.now) c.args.last in
    let start = c.args.script.now in
    let input = g.R.Read.remaining c.args.reader.now in
    let first = g.W.Write.contents c.args.writer.now in
    let held = drop c.lines.source.next c.lines.source.held.items in
    let rest = g.R.Read.remaining c.lines.reader in
    let writer = g.W.Write.contents c.lines.writer in
    let text = c.lines.text.items in
    playing_stops answers last start c.lines.script input held rest first writer writer text c.in-Err-next_line.fault c.lines.script c.lines.invariant.playing
    (nothing_written answers last start writer text) c.in-Err-next_line.ensures.err
    (spent_all c.next_line.new.self.turns input (g.R.Read.remaining c.next_line.new.reader) c.in-Err-next_line.fault
    (counted_then 0 c.lines.source.turns c.next_line.new.self.turns input rest (g.R.Read.remaining c.next_line.new.reader) c.lines.invariant.counted
    c.in-Err-next_line.ensures.counted)
    (λ e. c.in-Err-next_line.ensures.spent (ap Err e)))

pub returns-in-Err-answer_line : goal.returns-in-Err-answer_line
returns-in-Err-answer_line g c =
    let answers = g.S.Script.answers in
    let last = option_map (λ t. t.now) c.args.last in
    let start = c.args.script.now in
    let input = g.R.Read.remaining c.args.reader.now in
    let first = g.W.Write.contents c.args.writer.now in
    let held = drop c.lines.source.next c.lines.source.held.items in
    let rest = g.R.Read.remaining c.lines.reader in
    let writer = g.W.Write.contents c.lines.writer in
    let text = c.lines.text.items in
    playing_stops answers last start c.lines.script input held rest first writer writer text NoMemory c.answer_line.new.script c.lines.invariant.playing
    (nothing_written answers last start writer text) (other_fault answers last start held rest NoMemory (λ e. cc)) (not_spent input NoMemory (λ e. cc))

-- The line was taken and answered, and the writer failed: playing stops there with Io.
pub returns-in-Err-write_text : goal.returns-in-Err-write_text
returns-in-Err-write_text g c =
    let answers = g.S.Script.answers in
    let last = option_map (λ t. t.now) c.args.last in
    let start = c.args.script.now in
    let input = g.R.Read.remaining c.args.reader.now in
    let first = g.W.Write.contents c.args.writer.now in
    let held = drop c.lines.source.next c.lines.source.held.items in
    let rest = g.R.Read.remaining c.lines.reader in
    let writer = g.W.Write.contents c.lines.writer in
    let text = c.lines.text.items in
    let left = drop c.next_line.new.self.next c.next_line.new.self.held.items in
    let after = g.R.Read.remaining c.next_line.new.reader in
    let took = rw c.in-Ok-true.field-0-test at c.in-Ok-true.ensures.ok in
    let other = sym (c.is_last.ensures ∙ ap (is_last last) c.deref-in-lines.ensures.value) ∙ c.if-is_last.false in
    let told = c.in_default.ensures in
    let answered = rw c.deref-in-lines-2.ensures.value at told.1 in
    let on = playing_line answers last start c.lines.script c.answer_line.new.script input held rest left after first writer text c.next_line.new.line.items
    told.0 c.answer_line.new.text.items c.lines.invariant.playing took other answered told.2 in
    playing_stops answers last start c.answer_line.new.script input left after first writer (g.W.Write.contents c.write_text-then-is_due.new.writer)
    c.answer_line.new.text.items c.in-Err-write_text.fault c.answer_line.new.script on
    (proper_front writer (g.W.Write.contents c.write_text-then-is_due.new.writer) c.answer_line.new.text.items
    (rw c.deref-then-is_due.ensures.value at c.in-Err-write_text.ensures.written))
    (other_fault answers last start left after c.in-Err-write_text.fault (λ e. let bad : Io ≡ LineTooLong = sym c.in-Err-write_text.ensures.fault ∙ e in
    cc)) (not_spent input c.in-Err-write_text.fault (λ e. let bad : Io ≡ TooManyTurns = sym c.in-Err-write_text.ensures.fault ∙ e in cc))

-- No write is due, so the answer waits in the text, and the lines that are left begin behind this line.
pub lines-preserved : goal.lines-preserved
lines-preserved g c =
    let answers = g.S.Script.answers in
    let last = option_map (λ t. t.now) c.args.last in
    let start = c.args.script.now in
    let input = g.R.Read.remaining c.args.reader.now in
    let first = g.W.Write.contents c.args.writer.now in
    let held = drop c.lines.source.next c.lines.source.held.items in
    let rest = g.R.Read.remaining c.lines.reader in
    let writer = g.W.Write.contents c.lines.writer in
    let text = c.lines.text.items in
    let left = drop c.next_line.new.self.next c.next_line.new.self.held.items in
    let after = g.R.Read.remaining c.next_line.new.reader in
    let took = rw c.in-Ok-true.field-0-test at c.in-Ok-true.ensures.ok in
    let other = sym (c.is_last.ensures ∙ ap (is_last last) c.deref-in-lines.ensures.value) ∙ c.if-is_last.false in
    let told = c.in_default.ensures in
    let answered = rw c.deref-in-lines-2.ensures.value at told.1 in
    let on = playing_line answers last start c.lines.script c.answer_line.new.script input held rest left after first writer text c.next_line.new.line.items
    told.0 c.answer_line.new.text.items c.lines.invariant.playing took other answered told.2 in
    record {
      playing = on;
      counted = counted_then 0 c.lines.source.turns c.next_line.new.self.turns input rest after c.lines.invariant.counted c.in-Ok-true.ensures.counted;
    }

-- The text was written whole and is empty again, and the lines that are left begin behind this line.
pub lines-preserved-in-Ok-write_text : goal.lines-preserved-in-Ok-write_text
lines-preserved-in-Ok-write_text g c =
    let answers = g.S.Script.answers in
    let last = option_map (λ t. t.now) c.args.last in
    let start = c.args.script.now in
    let input = g.R.Read.remaining c.args.reader.now in
    let first = g.W.Write.contents c.args.writer.now in
    let held = drop c.lines.source.next c.lines.source.held.items in
    let rest = g.R.Read.remaining c.lines.reader in
    let writer = g.W.Write.contents c.lines.writer in
    let text = c.lines.text.items in
    let left = drop c.next_line.new.self.next c.next_line.new.self.held.items in
    let after = g.R.Read.remaining c.next_line.new.reader in
    let took = rw c.in-Ok-true.field-0-test at c.in-Ok-true.ensures.ok in
    let other = sym (c.is_last.ensures ∙ ap (is_last last) c.deref-in-lines.ensures.value) ∙ c.if-is_last.false in
    let told = c.in_default.ensures in
    let answered = rw c.deref-in-lines-2.ensures.value at told.1 in
    let on = playing_line answers last start c.lines.script c.answer_line.new.script input held rest left after first writer text c.next_line.new.line.items
    told.0 c.answer_line.new.text.items c.lines.invariant.playing took other answered told.2 in
    record {
      playing = playing_written answers last start c.answer_line.new.script input left after first writer
          (g.W.Write.contents c.write_text-then-is_due.new.writer) c.answer_line.new.text.items c.clear.new.self.items on
          (rw c.deref-then-is_due.ensures.value at c.in-Ok-write_text.ensures.written) c.clear.ensures.items;
      counted = counted_then 0 c.lines.source.turns c.next_line.new.self.turns input rest after c.lines.invariant.counted c.in-Ok-true.ensures.counted;
    }

pub returns-then-is_last : goal.returns-then-is_last
returns-then-is_last g c =
    let answers = g.S.Script.answers in
    let last = option_map (λ t. t.now) c.args.last in
    let start = c.args.script.now in
    let input = g.R.Read.remaining c.args.reader.now in
    let first = g.W.Write.contents c.args.writer.now in
    let held = drop c.lines.source.next c.lines.source.held.items in
    let rest = g.R.Read.remaining c.lines.reader in
    let writer = g.W.Write.contents c.lines.writer in
    let text = c.lines.text.items in
    let left = drop c.next_line.new.self.next c.next_line.new.self.held.items in
    let after = g.R.Read.remaining c.next_line.new.reader in
    let took = rw c.in-Ok-true.field-0-test at c.in-Ok-true.ensures.ok in
    let same = sym (c.is_last.ensures ∙ ap (is_last last) c.deref-in-lines.ensures.value) ∙ c.if-is_last.true in
    let none = none_before_last last held rest left after c.next_line.new.line.items took same in
    playing_ends answers last start c.lines.script input held rest first writer (g.W.Write.contents c.write_text-then-is_last.new.writer) text
    c.write_text-then-is_last.result c.lines.invariant.playing none (rw c.deref-then-is_last.ensures.value at c.write_text-then-is_last.ensures.written)
    c.write_text-then-is_last.ensures.fault
