-- What the threads of a node do with its steps: which event each takes, and what is done after it. The rules are
-- `DoesJob` (a worker) and `DealsWith` (the thread of the event loop).
use Rattle.std.specs.Prelude.{◌≡◌, ◌⊎◌, ℕ, List, [], ◌∷◌, ◌++◌, length, nat_lt, if◌then◌else◌, Bool, true, false, Option, Some, None, Result, Ok, Err}
use Rattle.std.specs.Result.{result_ok}
use Rattle.values_plain.specs.declared.address.Address.{Address}
use Rattle.values_plain.specs.declared.address.Udp.{Udp}
use Rattle.values_tables.specs.declared.plain.Tables.{Tables}
use Rattle.http_messages.specs.declared.ask.Ask.{Ask}
use Rattle.node_rules.specs.declared.event.Event.{Event}
use Rattle.node_rules.specs.declared.event.Event.TheVariants as event
use Rattle.node_rules.specs.declared.reply.Begin.{Begin}
use Rattle.node_rules.specs.declared.reply.Begin.TheVariants as begin
use Rattle.node_rules.specs.declared.reply.Reply.{Reply}
use Rattle.node_rules.specs.declared.reply.Serve.{Serve}
use Rattle.node_rules.specs.declared.reply.StepFault.{StepFault}
use Rattle.node_rules.specs.State.{serial_of}
use Rattle.node_bytes.specs.declared.turns.Turn.{Turn}
use Rattle.node_bytes.specs.Turns.{IsTurnOf, MeetsOctets}
use Rattle.node_http.specs.declared.taking.Taken.{Taken}
use Rattle.node_http.specs.declared.taking.Taken.TheVariants.{Waits}
use Rattle.node_http.specs.declared.fault.ServeFault.{ServeFault}
use Rattle.node_http.specs.Asking.{TakesAsk, asker_of, event_by}
use Rattle.cluster_fetch.specs.declared.ended.Fetched.{Fetched}
use Rattle.cluster_fetch.specs.Fetched.{event_of_fetch}
use Rattle.cluster_jobs.specs.declared.job.Job.{Job}
use Rattle.cluster_jobs.specs.declared.job.Job.TheVariants as job
use Rattle.cluster_service.specs.Questions.{begins_question}

-- One step

-- How a step came out: its reply, or the fault for which it was refused.
abbrev pub Outcome : Type 0
Outcome = Result (Reply (Unit {0})) StepFault

-- Which steps may be taken: from a state, with an event, to an outcome and the state after it.
abbrev pub Takes : Type 0 → Type 1
Takes N = N → Event (Unit {0}) → Outcome → N → Type 0

-- What is to be done after a step: what its reply says, and nothing where it was refused. What is served and what
-- begins is never lost. If memory for the datagrams is lacking, none of them is sent.
abbrev pub IsTurnAfter : Outcome → Option Turn → Type 0
IsTurnAfter (Ok reply) turn = (told : Turn) × (turn ≡ Some told) × IsTurnOf reply told
IsTurnAfter (Err fault) turn = turn ≡ None

-- Exactly one step is taken, with this event, and the turn is that of its outcome.
pub record TakesOne {N : Type 0} (takes : Takes N) (e : Event (Unit {0})) (before after : N) (turn : Option Turn) :
    Type 0 where
  pub outcome : Outcome
  pub taken : takes before e outcome after
  pub turn_is : IsTurnAfter outcome turn

-- No step is taken, and nothing is to be done.
abbrev pub TakesNone : {N : Type 0} → N → N → Option Turn → Type 0
TakesNone before after turn = (after ≡ before) × (turn ≡ None)

-- The step of a round whose time is over.
abbrev pub EndsRound : {N : Type 0} → Takes N → ℕ → N → N → Option Turn → Type 0
EndsRound takes serial before after turn = (now : ℕ) × TakesOne takes (event.Expired serial now) before after turn

-- The step of a fetch that failed.
abbrev pub FailsFetch : {N : Type 0} → Takes N → ℕ → N → N → Option Turn → Type 0
FailsFetch takes serial before after turn = (now : ℕ) × TakesOne takes (event.FetchFailed serial now) before after turn

-- A round waits, and no step is taken; or its time is over at once.
abbrev pub BeginsRound : {N : Type 0} → Takes N → ℕ → N → N → Option Turn → Type 0
BeginsRound takes serial before after turn = TakesNone before after turn ⊎ EndsRound takes serial before after turn

-- A fetch is left to the event loop, and no step is taken; or it has failed.
abbrev pub HandsOver : {N : Type 0} → Takes N → Begin → N → N → Option Turn → Type 0
HandsOver takes fetch before after turn =
    TakesNone before after turn ⊎ FailsFetch takes (serial_of fetch) before after turn

-- What a turn begins, or nothing.
abbrev pub BeginsAtMost : Turn → Option Begin → Type 0
BeginsAtMost turn None = Unit {0}
BeginsAtMost turn (Some begun) = turn.begin ≡ Some begun

-- Steps that follow one another

-- A step that was taken.
pub record Step : Type 0 where
  pub event : Event (Unit {0})
  pub outcome : Outcome

-- These steps, one after another, lead from one state to another.
abbrev pub Leads : {N : Type 0} → Takes N → List Step → N → N → Type 0
Leads takes [] before after = after ≡ before
Leads {N} takes (s ∷ steps) before after =
    (between : N) × takes before s.event s.outcome between × Leads takes steps between after

-- What begins with an outcome.
abbrev pub begun_by : Outcome → Option Begin
begun_by (Ok reply) = reply.begin
begun_by (Err fault) = None

-- What begins with a turn.
abbrev pub begun_in : Option Turn → Option Begin
begun_in (Some turn) = turn.begin
begun_in None = None

-- Which events end what has begun.
abbrev pub Ending : Type 1
Ending = Begin → Event (Unit {0}) → Type 0

-- The first step ends what has begun, and each later one what began with the step before it.
abbrev pub Follow : Ending → Option Begin → List Step → Type 0
Follow ends begun [] = Unit {0}
Follow ends None (s ∷ steps) = ⊥
Follow ends (Some begun) (s ∷ steps) = ends begun s.event × Follow ends (begun_by s.outcome) steps

-- These steps are taken, and nothing else.
abbrev pub GoesOn : {N : Type 0} → Takes N → Ending → Option Begin → N → N → Type 0
GoesOn takes ends begun before after = (steps : List Step) × Leads takes steps before after × Follow ends begun steps

-- One step, which ends what has begun.
pub record EndsOne {N : Type 0} (takes : Takes N) (ends : Ending) (begun : Begin)
    (before after : N) (turn : Option Turn) : Type 0 where
  pub event : Event (Unit {0})
  pub end : ends begun event
  pub one : TakesOne takes event before after turn

-- A turn is carried out: one step ends what it begins, or no step is taken.
abbrev pub CarriesOn : {N : Type 0} → Takes N → Ending → Turn → N → N → Option Turn → Type 0
CarriesOn takes ends turn before after next = TakesNone before after next
    ⊎ ((begun : Begin) × (turn.begin ≡ Some begun) × EndsOne takes ends begun before after next)

-- A worker

-- The step of a datagram, and what is to be done then.
abbrev pub TakesDatagram : {N : Type 0} → Takes N → Udp → Address → List ℕ → N → N → Option Turn → Type 0
TakesDatagram takes udp from octets before after turn = (now : ℕ) × (told : Result Turn StepFault)
    × MeetsOctets takes udp from octets now before after told × (turn ≡ result_ok told)

-- The step of a datagram. If it serves nobody and begins nothing, the step of a round whose time is over may follow.
abbrev pub TakesMessage : {N : Type 0} → Takes N → Udp → Address → List ℕ → N → N → Option Turn → Type 0
TakesMessage {N} takes udp from octets before after turn = TakesDatagram takes udp from octets before after turn
    ⊎ ((between : N) × (told : Turn) × TakesDatagram takes udp from octets before between (Some told)
    × (told.begin ≡ None) × (told.serve ≡ None) × (serial : ℕ) × EndsRound takes serial between after turn)

-- A request is read and takes its step.
abbrev pub AsksOnce : {N : Type 0} → Takes N → Tables → ℕ → N → N → Result Taken ServeFault → Type 0
AsksOnce takes roster id before after taken = (now : ℕ) × (unread : Option (List ℕ)) × (rest : Option (List ℕ))
    × TakesAsk takes roster id now before after unread rest taken

-- What is to be done after a request that waits.
abbrev pub turn_after : Result Taken ServeFault → Option Turn
turn_after (Ok (Waits block turn)) = Some turn
turn_after _ = None

-- What is to be done after the step of a request: what its reply says; or nothing, where it only serves the sender.
abbrev pub IsTurnAsked : Outcome → Option Turn → Type 0
IsTurnAsked (Ok reply) turn = IsTurnAfter (Ok reply) turn ⊎ ((turn ≡ None) × (reply.send ≡ []) × (reply.begin ≡ None))
IsTurnAsked (Err fault) turn = turn ≡ None

-- Exactly one step is taken, with the event of this request, and the turn is that of its outcome.
pub record AsksOne {N : Type 0} (takes : Takes N) (e : Event (Unit {0})) (before after : N) (turn : Option Turn) :
    Type 0 where
  pub outcome : Outcome
  pub taken : takes before e outcome after
  pub turn_is : IsTurnAsked outcome turn

-- One step with a request, as the event of a client or of the member that it names; or none.
abbrev pub TakesRequest : {N : Type 0} → Takes N → Tables → ℕ → N → N → Option Turn → Type 0
TakesRequest takes roster id before after turn = TakesNone before after turn
    ⊎ ((ask : Ask) × (now : ℕ) × AsksOne takes (event_by (asker_of roster id ask.member) ask now) before after turn)

-- The step at the end of a fetch: the response, or the failure.
abbrev pub EndsFetch : {N : Type 0} → Takes N → Fetched → N → N → Option Turn → Type 0
EndsFetch takes f before after turn =
    (now : ℕ) × TakesOne takes (event_of_fetch f.source f.serial f.key f.answer now) before after turn

-- The first step of a job.
abbrev pub TakesJob : {N : Type 0} → Takes N → Tables → ℕ → Job → N → N → Option Turn → Type 0
TakesJob takes roster id (job.Datagram sender udp from octets) before after turn =
    TakesMessage takes udp from octets.items before after turn
TakesJob takes roster id (job.Stream number stream octets) before after turn =
    TakesRequest takes roster id before after turn
TakesJob takes roster id (job.Timer serial) before after turn = EndsRound takes serial before after turn
TakesJob takes roster id (job.Fetched f) before after turn = EndsFetch takes f before after turn
TakesJob takes roster id (job.Failed serial) before after turn = FailsFetch takes serial before after turn

-- The event by which a thread gives up what has begun: the time of the round is over, or the fetch has failed.
abbrev pub given_up : Begin → ℕ → Event (Unit {0})
given_up (begin.Round serial) now = event.Expired serial now
given_up fetch now = event.FetchFailed (serial_of fetch) now

-- It is given up at some moment.
abbrev pub GivesUp : Begin → Event (Unit {0}) → Type 0
GivesUp begun e = (now : ℕ) × (e ≡ given_up begun now)

-- A worker takes the step of a job. Further steps only give up what the step before each of them began.
pub record DoesJob {N : Type 0} (takes : Takes N) (roster : Tables) (id : ℕ) (job : Job) (before after : N) :
    Type 0 where
  pub turn : Option Turn
  pub between : N
  pub first : TakesJob takes roster id job before between turn
  pub further : GoesOn takes GivesUp (begun_in turn) between after

-- The thread of the event loop

-- What takes the steps of questions, and the turns that are held back.
pub record QuestionsView (N : Type 0) : Type 0 where
  pub node : N
  pub held : List Turn

-- The turns that stay held while there is room for one more: 32 are sent first.
abbrev pub with_room : List Turn → List Turn
with_room held = if nat_lt (length held) 32 then held else []

-- A turn is held back behind the others; or all are sent.
abbrev pub Holds : List Turn → Turn → List Turn → Type 0
Holds held turn after = (after ≡ with_room held ++ turn ∷ []) ⊎ (after ≡ [])

-- A turn that serves or begins anything is carried out apart; any other is held back.
abbrev pub CarriesOut : Option (Serve (Unit {0})) → Option Begin → List Turn → Turn → List Turn → Type 0
CarriesOut None None held turn after = Holds held turn after
CarriesOut serve begun held turn after = after ≡ held

-- After the step of a question its turn is carried out. Where the step is refused, a worker tries again.
abbrev pub ToldAfter : List Turn → Result Turn StepFault → Bool → List Turn → Type 0
ToldAfter held (Ok turn) handled after = (handled ≡ true) × CarriesOut turn.serve turn.begin held turn after
ToldAfter held (Err fault) handled after = (handled ≡ false) × (after ≡ held)

-- A question takes its step; any other datagram is left to a worker.
abbrev pub MeetsQuestion : {N : Type 0} → Takes N → Bool → Udp → Address → List ℕ → QuestionsView N → Bool →
    QuestionsView N → Type 0
MeetsQuestion takes false udp from octets before handled after = (handled ≡ false) × (after ≡ before)
MeetsQuestion takes true udp from octets before handled after = (now : ℕ) × (told : Result Turn StepFault)
    × MeetsOctets takes udp from octets now before.node after.node told × ToldAfter before.held told handled after.held

-- A datagram that arrived is dealt with at once, or left to a worker.
abbrev pub DealsWith : {N : Type 0} → Takes N → Udp → Address → List ℕ → QuestionsView N → Bool → QuestionsView N →
    Type 0
DealsWith takes udp from octets before handled after =
    MeetsQuestion takes (begins_question udp octets) udp from octets before handled after
