-- Flawless gives the events; Taking and Tracks have that the order of notes keeps each track;
-- Rising that its places rise.
use Rattle.std.proofs.Common.{refl, ◌∙◌}
use Rattle.run_rules.specs.Notes.{tracks_of}
use Rattle.run_rules.specs.Verdict.{order_of, count_in}
use Rattle.run_rules.specs.Recorded.{is_of_node, is_of_master}
use Rattle.run_rules.proofs.Flawless.{flawless}
use Rattle.run_rules.proofs.Taking.{order_parts}
use Rattle.run_rules.proofs.Tracks.{of_node, of_master}
use Rattle.run_rules.proofs.Rising.{order_rises}
use Rattle.run_rules.proofs.laws.flawless_runs_are_runs_of_the_world.Goals as goal

-- src/laws.rt:14:1
pub returns : goal.returns
returns c = λ roster records entries proper v.
    let tracks = tracks_of records entries in
    let it = flawless roster proper (order_of tracks) v in (
      it.steps,
      record {
        notes = _;
        nodes = λ id. order_parts (is_of_node id) (count_in tracks) _ tracks refl (of_node records entries id).0 ∙ (of_node records entries id).1;
        master = order_parts is_of_master (count_in tracks) _ tracks refl (of_master records entries).0 ∙ (of_master records entries).1;
        rise = order_rises tracks it.single;
        end = it.end;
        stand = it.stand;
      },
    )
