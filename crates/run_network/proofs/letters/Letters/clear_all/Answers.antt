use Rattle.std.proofs.Common.{flat_map, get_or, ap, subst, arith}
use Rattle.std.proofs.lemmas.List.{take_all, get_or_default}
use Rattle.purge_rules.specs.Members.{possible_ids}
use Rattle.world_rules.specs.Consequence.{clear_if}
use Rattle.run_network.proofs.Clears.{Held, cleared_more}
use Rattle.run_network.proofs.letters.Letters.clear_all.Goals as goal

pub loop-id-preserved : goal.loop-id-preserved
loop-id-preserved c =
    cleared_more c.args.roster.now c.args.self.now c.loop-id.self c.clear_needed.new.self
    (clear_if c.args.roster.now c.args.needed c.args.number c.args.key.now) possible_ids
    c.loop-id.id-index (get_or possible_ids c.loop-id.id-index 0) (omega arith)
    (get_or_default possible_ids c.loop-id.id-index 0 (get_or possible_ids c.loop-id.id-index 0) (omega arith)) c.loop-id.invariant c.in_ok-clear_needed.ensures

pub returns : goal.returns
returns c =
    let whole = ap (flat_map (clear_if c.args.roster.now c.args.needed c.args.number c.args.key.now))
    (take_all c.loop-id.id-index possible_ids (omega arith)) in
    subst (Held c.args.roster.now c.args.self.now c.loop-id.self) whole c.loop-id.invariant
