use Rattle.std.proofs.Common.{refl, sym, ◌∙◌, arith}
use Rattle.node_rules.proofs.Cases.{true_not_false}
use Rattle.run_rules.specs.Sent.{SentAsk}
use Rattle.run_network.specs.Held.{ask_in}
use Rattle.run_network.proofs.Finding.{has_at, none_more}
use Rattle.run_network.proofs.asks.has_ask_in.Goals as goal

pub returns-then-is_ask : goal.returns-then-is_ask
returns-then-is_ask c =
    let one : SentAsk = record { sender = c.args.sender; receiver = c.args.receiver; ask = c.args.ask.now } in (
      λ _. has_at ask_in c.args.asks.now c.loop-sent.sent-index c.sent-item.result one (omega arith) c.sent-item.is (c.is_ask.ensures.0 c.if-is_ask.true),
      λ _. refl,
    )

pub loop-sent-preserved : goal.loop-sent-preserved
loop-sent-preserved c =
    let one : SentAsk = record { sender = c.args.sender; receiver = c.args.receiver; ask = c.args.ask.now } in
    none_more ask_in c.args.asks.now c.loop-sent.sent-index c.sent-item.result one (omega arith) c.sent-item.is c.loop-sent.invariant
    (λ e. true_not_false (sym (c.is_ask.ensures.1 e) ∙ c.if-is_ask.false))
