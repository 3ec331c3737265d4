use Rattle.std.proofs.Common.{Some, ap, sym, ◌∙◌}
use Rattle.std.specs.Prelude.{option_map}
use Rattle.run_notes.proofs.Stacks.{rank_in, last_rank}
use Rattle.run_notes.proofs.order.rank_of.Goals as goal

pub returns-in-Some : goal.returns-in-Some
returns-in-Some c = ap Some c.rank.ensures ∙ ap (option_map rank_in) c.in-Some.ensures.value ∙ sym (last_rank c.args.track.now)
