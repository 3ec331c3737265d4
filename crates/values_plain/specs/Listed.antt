-- Items, one alone or any number.
use Rattle.std.specs.Prelude.{List}
use Rattle.values_plain.specs.declared.listed.Items.{Items}
use Rattle.values_plain.specs.declared.listed.Items.TheVariants as items

-- They as a list.
abbrev pub items_in : {T : Type 0} → Items T → List T
items_in (items.One item) = item
items_in (items.Any items) = items.items
