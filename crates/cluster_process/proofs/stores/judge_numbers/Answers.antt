use Rattle.std.proofs.Common.{option_map, refl, sym, ap, ◌∙◌}
use Rattle.cluster_process.proofs.Numbers.{found_ahead, none_ahead}
use Rattle.cluster_process.proofs.stores.judge_numbers.Goals as goal

pub returns-in-Some : goal.returns-in-Some
returns-in-Some g c =
    let found = found_ahead (λ n. n.seen) c.args.last c.args.nodes.now c.in-Some.node.now
    (sym c.first_ahead.ensures ∙ ap (option_map (λ n. n.now)) c.in-Some.is) in
    (found.0, (refl, found.1))

pub returns-in-None : goal.returns-in-None
returns-in-None g c =
    none_ahead (λ n. n.seen) c.args.last c.args.nodes.now (sym c.first_ahead.ensures ∙ ap (option_map (λ n. n.now)) c.in-None.is)
