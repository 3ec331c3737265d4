use Rattle.std.proofs.Common.{refl, ◌∙◌, ap}
use Rattle.run_rules.specs.Sent.{SentAsk}
use Rattle.run_network.specs.Bags.{bag_of}
use Rattle.run_network.specs.Prints.{ask_print}
use Rattle.run_network.specs.Held.{ask_in}
use Rattle.run_network.proofs.Finding.{put_on}
use Rattle.run_network.proofs.asks.Asks.put.Goals as goal

pub returns : goal.returns
returns c =
    let keys = c.args.self.now.keys in
    let y : SentAsk = ask_in c.args.sent in
    put_on c.put.result ask_in (λ (k : SentAsk). ask_print keys k.sender k.receiver k.ask.key) (bag_of c.args.self.now.bags) (bag_of c.put.new.self) c.args.sent
    y c.ask_print-print.result refl
    (c.ask_print-print.ensures ∙ ap (ask_print keys y.sender y.receiver) c.text.ensures.value) c.put.ensures
