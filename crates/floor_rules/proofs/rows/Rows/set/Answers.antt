-- The insertion in the tree is that of the map (`was_set`), and the greatest number is the
-- greater of the old one and the new number, since no number falls.
use Rattle.std.proofs.Common.{◌≡◌, ◌≤◌, map, arith, ap, ◌∙◌}
use Rattle.std.specs.FinMap.{insert, from_entries}
use Rattle.std.specs.Ordering.{nat_cmp}
use Rattle.std.specs.Cmp.Lexicographic.{slice_cmp}
use Rattle.floor_rules.specs.Floors.{row, greatest_row}
use Rattle.floor_rules.proofs.MapLemmas.{was_set, map_of, greatest_set, url_entry}
use Rattle.floor_rules.proofs.rows.Rows.set.Goals as goal

pub invariant_of-self-2 : goal.invariant_of-self-2
invariant_of-self-2 c =
    let old = map_of c.self.inside.rows in
    let key = c.in_ok-text.ensures.items ∙ c.text.ensures.value in
    let is : from_entries {R = slice_cmp nat_cmp} (map url_entry c.insert.new.self.entries) ≡ insert old c.args.key.now c.args.number =
    was_set c.self.inside.rows c.insert.new.self.entries c.in_ok-text.text c.args.number c.in_ok-insert.ensures.entries
    ∙ ap (λ u. insert old u c.args.number) key in
    let low : row old c.args.key.now ≤ c.args.number = rw c.self.view_is c.requires in
    let set = ap greatest_row is ∙ greatest_set old c.args.key.now c.args.number low in
    omega (arith, set, c.self.invariant, c.max-self-inside.ensures)

pub returns-clause-ok : goal.returns-clause-ok
returns-clause-ok c = rw (← c.self.view_is) (was_set c.self.inside.rows c.insert.new.self.entries c.in_ok-text.text c.args.number c.in_ok-insert.ensures.entries
    ∙ ap (λ u. insert (map_of c.self.inside.rows) u c.args.number) (c.in_ok-text.ensures.items ∙ c.text.ensures.value))
