-- What the steps of a thread add up to.
use Rattle.std.proofs.Common.{◌≡◌, ℕ, true, false, inl, inr, List, [], ◌∷◌, Option, None, Result, Ok, Err, refl, sym, ap, subst}
use Rattle.values_tables.specs.declared.plain.Tables.{Tables}
use Rattle.http_messages.specs.declared.ask.Ask.{Ask}
use Rattle.http_messages.specs.declared.fault.FetchFault.{FetchFault}
use Rattle.node_rules.specs.declared.reply.Begin.{Begin}
use Rattle.node_rules.specs.declared.reply.Reply.{Reply}
use Rattle.node_bytes.specs.declared.turns.Turn.{Turn}
use Rattle.node_http.specs.declared.taking.Taken.{Taken}
use Rattle.node_http.specs.declared.fault.ServeFault.{ServeFault}
use Rattle.node_http.specs.Asking.{AfterRead, IsTaken}
use Rattle.node_rules.specs.declared.reply.StepFault.{StepFault}
use Rattle.values_plain.specs.declared.address.Address.{Address}
use Rattle.values_plain.specs.declared.address.Udp.{Udp}
use Rattle.node_bytes.specs.Turns.{MeetsOctets}
use Rattle.cluster_service.specs.Questions.{begins_question}
use Rattle.cluster_service.specs.Steps.{AsksOnce, Ending, QuestionsView, MeetsQuestion, DealsWith, Takes, Outcome, IsTurnAfter, IsTurnAsked, Step}
use Rattle.cluster_service.specs.Steps.{Leads, begun_by, begun_in}
use Rattle.cluster_service.specs.Steps.{Follow, GoesOn, CarriesOn, turn_after, TakesRequest}

-- Where nothing has begun, no step follows.
pub none_follows : (ends : Ending) (begun : Option Begin) (steps : List Step) → Follow ends None steps →
    Follow ends begun steps
none_follows ends begun [] h = tt
none_follows ends begun (s ∷ steps) h = absurd h

-- What follows the turn of a step follows its outcome.
pub turn_follows : (ends : Ending) (outcome : Outcome) (turn : Option Turn) (steps : List Step) →
    IsTurnAfter outcome turn → Follow ends (begun_in turn) steps → Follow ends (begun_by outcome) steps
turn_follows ends (Ok reply) turn steps (told, is, inl whole) h =
    subst (λ (t : Turn). Follow ends t.begin steps) whole (subst (λ (t : Option Turn). Follow ends (begun_in t) steps) is h)
turn_follows ends (Ok reply) turn steps (told, is, inr unsent) h =
    subst (λ (t : Turn). Follow ends t.begin steps) unsent (subst (λ (t : Option Turn). Follow ends (begun_in t) steps) is h)
turn_follows ends (Err fault) turn steps is h = subst (λ (t : Option Turn). Follow ends (begun_in t) steps) is h

-- A turn without a step after it.
pub ended : {N : Type 0} (takes : Takes N) (ends : Ending) (begun : Option Begin) (node : N) →
    GoesOn takes ends begun node node
ended takes ends begun node = ([], refl, tt)

-- What follows a turn is its step, and what follows that one.
pub goes_on : {N : Type 0} (takes : Takes N) (ends : Ending) (turn : Turn) (next : Option Turn) (before between after : N) →
    CarriesOn takes ends turn before between next → GoesOn takes ends (begun_in next) between after →
    GoesOn takes ends turn.begin before after
goes_on {N} takes ends turn next before between after (inl none) (steps, leads, follow) = (
  steps,
  subst (λ (n : N). Leads takes steps n after) none.0 leads,
  none_follows ends turn.begin steps (subst (λ (t : Option Turn). Follow ends (begun_in t) steps) none.1 follow),
)
goes_on takes ends turn next before between after (inr (begun, begins, ended)) (steps, leads, follow) = (
  record { event = ended.event; outcome = ended.one.outcome } ∷ steps,
  (between, ended.one.taken, leads),
  subst (λ (b : Option Begin). Follow ends b (record { event = ended.event; outcome = ended.one.outcome } ∷ steps)) (sym begins)
      (ended.end, turn_follows ends ended.one.outcome next steps ended.one.turn_is follow),
)

-- What is to be done after the step of a request.
asked_turn : (asker : Option ℕ) (outcome : Outcome) (result : Result Taken ServeFault) → IsTaken asker outcome result →
    IsTurnAsked outcome (turn_after result)
asked_turn asker (Ok reply) result (inl once) =
    inr (ap turn_after once.is, ap (λ (r : Reply (Unit {0})). r.send) once.alone, ap (λ (r : Reply (Unit {0})). r.begin) once.alone)
asked_turn asker (Ok reply) result (inr waits) = inl (waits.turn, ap turn_after waits.is, waits.turn_is)
asked_turn asker (Err fault) result h = ap turn_after h

-- What reading a request leads to.
read_takes : {N : Type 0} (takes : Takes N) (roster : Tables) (id now : ℕ) (read : Result Ask FetchFault) (before after : N)
    (result : Result Taken ServeFault) → AfterRead takes roster id now read before after result →
    TakesRequest takes roster id before after (turn_after result)
read_takes takes roster id now (Ok ask) before after result (outcome, taken, is) =
    inr (ask, now, record { outcome = outcome; taken = taken; turn_is = asked_turn _ outcome result is })
read_takes takes roster id now (Err fault) before after result h = inl (h.0, ap turn_after h.1)

-- What a request leads to.
pub request_takes : {N : Type 0} (takes : Takes N) (roster : Tables) (id : ℕ) (before after : N) (result : Result Taken ServeFault) →
    AsksOnce takes roster id before after result → TakesRequest takes roster id before after (turn_after result)
request_takes takes roster id before after result (now, unread, rest, asks) =
    read_takes takes roster id now asks.read before after result asks.steps

-- A question whose step is refused is left to a worker.
pub question_refused : {N : Type 0} (takes : Takes N) (udp : Udp) (from : Address) (octets : List ℕ) (now : ℕ) (fault : StepFault)
    (before after : QuestionsView N) → begins_question udp octets ≡ true →
    MeetsOctets takes udp from octets now before.node after.node (Err fault) → after.held ≡ before.held →
    DealsWith takes udp from octets before false after
question_refused {N} takes udp from octets now fault before after is meets held =
    subst (λ asks. MeetsQuestion takes asks udp from octets before false after) (sym is) (now, Err fault, meets, (refl, held))
