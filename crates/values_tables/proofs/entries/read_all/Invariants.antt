use Rattle.std.proofs.Common.{◌≡◌, true, Some, take}
use Rattle.std.specs.List.{list_all}
use Rattle.toml.specs.View.{items_view}
use Rattle.values_tables.specs.Reading.{all_of}
use Rattle.values_tables.proofs.entries.read_all.Given as goal

abbrev pub invariant-loop-value : goal.invariant-loop-value
invariant-loop-value g l = record {
  read : all_of g.T.Entry.reads (items_view (take l.value-index l.values)) ≡ Some l.entries.items;
  sound : list_all g.T.Entry.is_sound l.entries.items ≡ true;
}
