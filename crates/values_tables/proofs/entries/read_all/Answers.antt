use Rattle.std.proofs.Common.{rules, arith}
use Rattle.std.proofs.lemmas.List.Folds.{list_all-append}
use Rattle.values_tables.proofs.Lists.{all_of-more, bad_entry}
use Rattle.values_tables.proofs.entries.read_all.Goals as goal

pub returns-in_err-entry : goal.returns-in_err-entry
returns-in_err-entry g c =
    let bad = bad_entry g.T.Entry.reads c.args.values.now c.loop-value.value-index c.value-item.result c.in_err-entry.field-0.0 (omega arith) c.value-item.is
    c.in_err-entry.ensures in
    search (rules, bad)

pub loop-value-preserved : goal.loop-value-preserved
loop-value-preserved g c = record {
  read = rw c.in-Ok.ensures.items (all_of-more g.T.Entry.reads c.args.values.now c.loop-value.value-index c.value-item.result _ _ (omega arith) c.value-item.is
      c.loop-value.invariant.read c.in_ok-entry.ensures.0);
  sound = rw (c.in-Ok.ensures.items, list_all-append g.T.Entry.is_sound, c.loop-value.invariant.sound, c.in_ok-entry.ensures.1);
}
