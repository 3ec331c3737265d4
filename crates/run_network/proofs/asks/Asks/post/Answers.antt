use Rattle.std.proofs.Common.{◌≡◌, List, ◌∷◌, [], Some, cond, subst, sym, ap, ◌∙◌}
use Rattle.std.specs.Prelude.{OnOk, ◌++◌}
use Rattle.run_rules.specs.Sent.{SentAsk, asks_by}
use Rattle.run_network.specs.Held.{HasAsk, HoldsAsks}
use Rattle.run_network.proofs.Lists.{holds_on}
use Rattle.run_network.proofs.asks.Asks.post.Goals as goal

pub returns-else-is_foreign : goal.returns-else-is_foreign
returns-else-is_foreign c =
    let y : SentAsk = record { sender = c.args.node; receiver = c.in-Some-Peer.peer; ask = c.in-Some-Peer.ask } in
    let same : y ∷ [] ≡ asks_by c.args.node c.args.begin.now =
    sym (ap (asks_by c.args.node) c.in-Some-Peer.is ∙ ap (λ b. asks_by c.args.node (Some b)) (rw c.in-Some-Peer.is at c.in-Some-Peer.field-0-is)
    ∙ ap (λ b. cond b [] (y ∷ [])) (sym c.is_foreign.ensures ∙ c.if-is_foreign.false)) in
    subst (λ l. OnOk c.add.result ((sent : List SentAsk) → HoldsAsks c.args.self.now sent → HoldsAsks c.add.new.self (sent ++ l))) same
    (holds_on c.add.result (HasAsk c.args.self.now) (HasAsk c.add.new.self) y c.add.ensures)
