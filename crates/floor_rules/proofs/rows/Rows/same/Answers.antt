-- Trees of the same length are the same map exactly if their rows are equal (`SameRows`); trees of
-- different lengths are different maps.
use Rattle.std.proofs.Common.{eqb-true, ap, sym, ◌∙◌}
use Rattle.std.specs.FinMap.{from_entries, len}
use Rattle.std.specs.Ordering.{nat_cmp}
use Rattle.std.specs.Cmp.Lexicographic.{slice_cmp}
use Rattle.floor_rules.proofs.MapLemmas.{length_is}
use Rattle.floor_rules.proofs.SameRows.{equal_rows, rows_same, same_rows}
use Rattle.floor_rules.proofs.rows.Rows.same.Goals as goal

pub returns-then-len : goal.returns-then-len
returns-then-len c =
    let own = c.self.inside.rows in
    let its = c.other.inside.rows in (
      λ is. sym c.self.view_is ∙ ap (from_entries {R = slice_cmp nat_cmp}) (equal_rows own.entries its.entries (sym c.eq.ensures ∙ is)) ∙ c.other.view_is,
      λ same. c.eq.ensures ∙ rows_same own.entries its.entries
          (same_rows own its c.len.ensures.ordered c.len-2.ensures.ordered (c.self.view_is ∙ same ∙ sym c.other.view_is)),
    )

pub returns-else-len : goal.returns-else-len
returns-else-len c =
    let own = c.self.inside.rows in
    let its = c.other.inside.rows in (
      λ is. absurd (c.if-len.false (eqb-true c.len.result c.len-2.result is)),
      λ same. absurd (c.if-len.false (c.len.ensures.len ∙ sym (length_is own.entries c.len.ensures.ordered)
          ∙ ap len (c.self.view_is ∙ same ∙ sym c.other.view_is) ∙ length_is its.entries c.len-2.ensures.ordered ∙ sym c.len-2.ensures.len)),
    )
