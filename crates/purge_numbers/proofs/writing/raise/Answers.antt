-- The copy is what was committed, so what a raise makes of the copy is what it makes of the file.
use Rattle.std.proofs.Common.{sym, ◌∙◌, inl, inr}
use Rattle.purge_numbers.proofs.writing.raise.Goals as goal

pub returns-in-Err-clause-crash : goal.returns-in-Err-clause-crash
returns-in-Err-clause-crash g c clean left may =
    let same = (c.requires.held (c.write.ensures.honest clean)).same in
    elim (c.write.ensures.crash clean left may) [
      | inl before ↦ inl before
      | inr written ↦ inr (rw c.text.ensures.value at written ∙ sym (rw same at c.raising-raising.ensures.after))
    ]
