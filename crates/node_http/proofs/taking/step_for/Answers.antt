use Rattle.std.proofs.Common.{Ok, subst}
use Rattle.node_bytes.specs.Stepping.{AnswersAsk}
use Rattle.node_http.proofs.Asks.{asks_by}
use Rattle.node_http.proofs.taking.step_for.Goals as goal

pub returns-in-Ok : goal.returns-in-Ok
returns-in-Ok g c =
    let reply = c.in-Ok.reply in (
      Ok reply,
      subst (λ e. g.N.Stepper.takes c.args.node.now e (Ok reply) c.step.new.self) c.event_by.ensures c.in-Ok.ensures.takes,
      c.taken_of.ensures c.args.asker (asks_by c.args.asker c.args.ask c.args.now reply
          (subst (λ e. AnswersAsk e reply) c.event_by.ensures c.in-Ok.ensures.asks)),
    )
