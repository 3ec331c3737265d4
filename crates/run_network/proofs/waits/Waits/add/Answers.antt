use Rattle.std.proofs.Common.{nat_eq}
use Rattle.std.specs.Prelude.{option_map}
use Rattle.std.specs.HashMap.{get}
use Rattle.run_network.proofs.Waiting.{added_on}
use Rattle.run_network.proofs.waits.Waits.add.Goals as goal

pub returns : goal.returns
returns c =
    added_on c.put.result c.args.self.now c.take-blocks.new.self c.put.new.self (λ b. option_map (λ k. k.now) (get nat_eq c.take-blocks.result b))
    (λ b. option_map (λ k. k.now) (get nat_eq c.enter.new.blocks b))
    c.args.node c.args.block c.args.key.now c.take-blocks.ensures.taken c.take-blocks.ensures.others c.in_ok-enter.ensures c.put.ensures
