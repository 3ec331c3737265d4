-- What becomes of a request over HTTP. The rule is `ServesAsk`, at the end.
use Rattle.std.specs.Prelude.{◌≡◌, ◌⊎◌, ℕ, ◌/◌, Bool, not, ◌&&◌, ◌==◌, List, [], Option, Some, None, Result, Ok, Err, MatchResult, if◌then◌else◌}
use Rattle.std.specs.Io.KnownBytes.{Appends}
use Rattle.values_plain.specs.Writing.{AppendsFront, AppendsProperFront}
use Rattle.http_messages.specs.declared.ask.Ask.{Ask}
use Rattle.http_messages.specs.declared.fault.FetchFault.{FetchFault}
use Rattle.http_messages.specs.declared.fault.FetchFault.TheVariants.{Io}
use Rattle.http_reading.specs.Asks.{ReadsAsk}
use Rattle.values_tables.specs.declared.plain.Member.{Member}
use Rattle.values_tables.specs.declared.plain.Tables.{Tables}
use Rattle.roster.specs.Lookups.{member_of, is_member}
use Rattle.node_rules.specs.declared.event.Event.{Event}
use Rattle.node_rules.specs.declared.event.Event.TheVariants as event
use Rattle.node_rules.specs.declared.reply.Served.{Served}
use Rattle.node_rules.specs.declared.reply.Begin.{Begin}
use Rattle.node_rules.specs.declared.reply.Reply.{Reply}
use Rattle.node_rules.specs.declared.reply.StepFault.{StepFault}
use Rattle.node_rules.specs.State.{serving, serial_of}
use Rattle.node_bytes.specs.declared.turns.Turn.{Turn}
use Rattle.node_bytes.specs.Turns.{IsTurnOf}
use Rattle.node_http.specs.declared.asking.Asked.{Asked}
use Rattle.node_http.specs.declared.asking.Asked.TheVariants.{Answered, Waits}
use Rattle.node_http.specs.declared.taking.Taken.{Taken}
use Rattle.node_http.specs.declared.taking.Taken.TheVariants.{Serves}
use Rattle.node_http.specs.declared.taking.Taken.TheVariants as taken
use Rattle.node_http.specs.declared.fault.ServeFault.{ServeFault}
use Rattle.node_http.specs.declared.fault.ServeFault.TheVariants.{Fetch, Step}
use Rattle.node_http.specs.Statuses.{status_for}
use Rattle.node_serving.specs.Serving.{serve_text, refusal_text}

-- Who sends the request

-- The name of a member, if there is one.
abbrev pub name_by : Option Member → List ℕ
name_by None = []
name_by (Some m) = m.cache.name

-- The name of the member of this id.
abbrev pub name_of : Tables → ℕ → List ℕ
name_of roster id = name_by (member_of roster id)

-- The id is that of another member of the hierarchy.
abbrev pub is_anothers_id : Tables → ℕ → ℕ → Bool
is_anothers_id roster id member = is_member roster member && not (member == id)

-- The member that sends a request to the node of this id: the one that the request names, unless it
-- is not in the roster or is the node itself. [HTTP 9]
abbrev pub asker_of : Tables → ℕ → Option ℕ → Option ℕ
asker_of roster id None = None
asker_of roster id (Some member) = if is_anothers_id roster id member then Some member else None

-- The event of a client's request, or of a member's.
abbrev pub event_by : Option ℕ → Ask → ℕ → Event (Unit {0})
event_by None ask now = event.Client ask now
event_by (Some asker) ask now = event.PeerAsk asker ask now

-- What waits

-- The block of what begins. Block b has the serials 32b to 32b + 31.
abbrev pub block_of : Begin → ℕ
block_of begun = serial_of begun / 32

-- What a request leads to

-- The reply serves the sender and does nothing else.
pub record ServesAtOnce (asker : Option ℕ) (reply : Reply (Unit {0})) (result : Result Taken ServeFault) : Type 0 where
  pub served : Served (Unit {0})
  pub alone : reply ≡ serving None asker served
  pub is : result ≡ Ok (Serves (record { waiter = None; asker = asker; served = served }))

-- The reply serves nobody, and the sender waits for what begins, whether or not memory for its datagrams is lacking.
pub record LeavesWaiting (reply : Reply (Unit {0})) (result : Result Taken ServeFault) : Type 0 where
  pub begun : Begin
  pub begins : reply.begin ≡ Some begun
  pub serves : reply.serve ≡ None
  pub turn : Turn
  pub turn_is : IsTurnOf reply turn
  pub is : result ≡ Ok (taken.Waits (block_of begun) turn)

-- After a step: one of the two, or it was refused.
abbrev pub IsTaken : Option ℕ → Result (Reply (Unit {0})) StepFault → Result Taken ServeFault → Type 0
IsTaken asker (Ok reply) result = ServesAtOnce asker reply result ⊎ LeavesWaiting reply result
IsTaken asker (Err fault) result = result ≡ Err (Step fault)

-- One step with the request, taken by this relation between what stood before and after it.
abbrev pub TakesFor : {N : Type 0} → (N → Event (Unit {0}) → Result (Reply (Unit {0})) StepFault → N → Type 0) →
    Option ℕ → Ask → ℕ → N → N → Result Taken ServeFault → Type 0
TakesFor takes asker ask now before after result =
    (outcome : Result (Reply (Unit {0})) StepFault) × takes before (event_by asker ask now) outcome after
    × IsTaken asker outcome result

-- After reading: one step with the request; or it was not read, and no step is taken.
abbrev pub AfterRead : {N : Type 0} → (N → Event (Unit {0}) → Result (Reply (Unit {0})) StepFault → N → Type 0) →
    Tables → ℕ → ℕ → Result Ask FetchFault → N → N → Result Taken ServeFault → Type 0
AfterRead takes roster id now (Ok ask) before after result =
    TakesFor takes (asker_of roster id ask.member) ask now before after result
AfterRead takes roster id now (Err fault) before after result = (after ≡ before) × (result ≡ Err (Fetch fault))

-- The node of this id reads a request, and takes at most one step with it.
pub record TakesAsk {N : Type 0} (takes : N → Event (Unit {0}) → Result (Reply (Unit {0})) StepFault → N → Type 0)
    (roster : Tables) (id now : ℕ) (before after : N) (reader_old reader_new : Option (List ℕ))
    (result : Result Taken ServeFault) : Type 0 where
  pub read : Result Ask FetchFault
  pub reads : ReadsAsk reader_old reader_new read
  pub steps : AfterRead takes roster id now read before after result

-- What is written and returned. The writer held the first text, and holds the second.

-- The response is written; or the writer failed, and a proper front of it is.
abbrev pub IsTold : Option (List ℕ) → Option (List ℕ) → List ℕ → Result Asked ServeFault → Type 0
IsTold old new text result =
    MatchResult result (λ asked. (asked ≡ Answered) × Appends old new text)
    (λ fault. (fault ≡ Fetch Io) × AppendsProperFront old new text)

-- What is served is written; who waits is told nothing yet; of a refusal a front is written, all of it unless the
-- writer failed, but no clause can say that: a writer counts no failures.
abbrev pub Tells : Option (List ℕ) → Option (List ℕ) → List ℕ → Result Taken ServeFault → Result Asked ServeFault →
    Type 0
Tells old new via (Ok (Serves serve)) result = IsTold old new (serve_text serve.asker serve.served via) result
Tells old new via (Ok (taken.Waits block turn)) result = (result ≡ Ok (Waits block turn)) × (new ≡ old)
Tells old new via (Err fault) result =
    (result ≡ Err fault) × AppendsFront old new (refusal_text (status_for fault) via)

-- The node of this id reads a request, takes at most one step with it, and writes what is served.
pub record ServesAsk {N : Type 0} (takes : N → Event (Unit {0}) → Result (Reply (Unit {0})) StepFault → N → Type 0)
    (roster : Tables) (id now : ℕ) (before after : N) (reader_old reader_new writer_old writer_new : Option (List ℕ))
    (result : Result Asked ServeFault) : Type 0 where
  pub taken : Result Taken ServeFault
  pub takes_ask : TakesAsk takes roster id now before after reader_old reader_new taken
  pub tells : Tells writer_old writer_new (name_of roster id) taken result
