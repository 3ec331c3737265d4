-- The list of the value's own has it alone.
use Rattle.std.proofs.Common.{[], ◌∷◌, ◌++◌, ◌∙◌, ap}
use Rattle.node_seats.proofs.Keeping.{first_of_one}
use Rattle.node_seats.proofs.kept.Kept.of.Goals as goal

pub returns : goal.returns
returns g c = first_of_one c.add_as.new.self _ c.args.value.now (c.if-not-add_as.ensures ∙ ap (λ l. l ++ c.args.value.now ∷ []) c.new-own.ensures)
