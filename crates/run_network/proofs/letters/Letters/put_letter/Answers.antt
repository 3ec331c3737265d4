use Rattle.std.proofs.Common.{refl, ◌∙◌, ap}
use Rattle.run_network.specs.declared.letters.Letter.{Letter}
use Rattle.run_network.specs.Bags.{bag_of}
use Rattle.run_network.specs.Prints.{letter_print}
use Rattle.run_network.proofs.Finding.{put_on}
use Rattle.run_network.proofs.letters.Letters.put_letter.Goals as goal

pub returns-clause-letters : goal.returns-clause-letters
returns-clause-letters c =
    let keys = c.args.self.now.keys in
    let y : Letter = c.args.letter in
    put_on c.put.result (λ (i : Letter). i) (λ (k : Letter). letter_print keys k.sender k.receiver k.message) (bag_of c.args.self.now.bags)
    (bag_of c.put.new.self) y y c.letter_print-print.result refl
    (c.letter_print-print.ensures ∙ ap (λ m. letter_print keys y.sender y.receiver m) c.message-text.ensures.value) c.put.ensures
