use Rattle.std.proofs.Common.{ap, ◌∙◌, unwrap_or}
use Rattle.std.specs.Prelude.{option_map}
use Rattle.node_book.specs.declared.book.NodeEntry.{NodeEntry}
use Rattle.run_notes.proofs.Building.{last_place_is}
use Rattle.run_notes.proofs.tracks.last_place.Goals as goal

pub returns-in-Some : goal.returns-in-Some
returns-in-Some c = ap (λ o. unwrap_or (option_map (λ (e : NodeEntry). e.place) o) 0) c.in-Some.ensures.value ∙ last_place_is c.args.entries.now
