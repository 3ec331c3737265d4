-- What a reply to a request leads to. By the law on requests (`AnswersAsk` of node_bytes) a step
-- serves the sender or nobody, so whoever is served is the sender.
use Rattle.std.proofs.Common.{◌≡◌, ℕ, inl, inr, Option, Some, None, Ok, sym, ap, ◌∙◌}
use Rattle.std.proofs.lemmas.Option.{none-some, same_Some}
use Rattle.http_messages.specs.declared.ask.Ask.{Ask}
use Rattle.node_rules.specs.declared.reply.Begin.{Begin}
use Rattle.node_rules.specs.declared.reply.Serve.{Serve}
use Rattle.node_rules.specs.declared.reply.Reply.{Reply}
use Rattle.node_bytes.specs.Stepping.{AnswersAsker, AnswersAsk}
use Rattle.node_bytes.specs.declared.turns.Turn.{Turn}
use Rattle.node_bytes.specs.Turns.{IsTurnOf}
use Rattle.node_http.specs.declared.taking.Taken.{Taken}
use Rattle.node_http.specs.declared.taking.Taken.TheVariants.{Serves, Waits}
use Rattle.node_http.specs.Asking.{IsTaken, block_of, event_by}

-- a reply to a request that begins nothing serves the sender
pub serves_at_once : (asker : Option ℕ) (reply : Reply (Unit {0})) (serve : Serve (Unit {0})) → reply.begin ≡ None → reply.serve ≡ Some serve →
    AnswersAsker asker reply → IsTaken asker (Ok reply) (Ok (Serves serve))
serves_at_once asker reply serve none is (inl once) =
    let same : serve ≡ record { waiter = None; asker = asker; served = once.served } =
    same_Some _ _ (sym is ∙ ap (λ (r : Reply (Unit {0})). r.serve) once.alone) in
    inl (record { served = once.served; alone = once.alone; is = ap (λ s. Ok (Serves s)) same })
serves_at_once asker reply serve none is (inr begins) = absurd (none-some serve (sym begins.serves ∙ is))

-- a reply to a request that begins something serves nobody
pub leaves_waiting : (asker : Option ℕ) (reply : Reply (Unit {0})) (begun : Begin) (block : ℕ) (taken : Taken) → reply.begin ≡ Some begun →
    block ≡ block_of begun → (turn : Turn) × (taken ≡ Waits block turn) × IsTurnOf reply turn → AnswersAsker asker reply →
    IsTaken asker (Ok reply) (Ok taken)
leaves_waiting asker reply begun block taken is at handed (inl once) =
    absurd (none-some begun (sym (ap (λ (r : Reply (Unit {0})). r.begin) once.alone) ∙ is))
leaves_waiting asker reply begun block taken is at (turn, waits, turn_is) (inr begins) = inr (record {
  begun = begun;
  begins = is;
  serves = begins.serves;
  turn = turn;
  turn_is = turn_is;
  is = ap Ok (waits ∙ ap (λ b. Waits b turn) at);
})

-- what a step makes of the event of a request
pub asks_by : (asker : Option ℕ) (ask : Ask) (now : ℕ) (reply : Reply (Unit {0})) → AnswersAsk (event_by asker ask now) reply → AnswersAsker asker reply
asks_by None ask now reply h = h
asks_by (Some member) ask now reply h = h
