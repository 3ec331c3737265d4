use Rattle.values_plain.specs.Writing.{AppendsUpTo}
use Rattle.http_writing.proofs.Fields.{lines_from}
use Rattle.http_writing.proofs.answer.write_fields.Given as goal

abbrev pub invariant-loop-field : goal.invariant-loop-field
invariant-loop-field g l = AppendsUpTo (g.W.Write.contents l.fn.writer) (g.W.Write.contents l.writer) (lines_from l.fields 0)
    (lines_from l.fields l.field-index)
