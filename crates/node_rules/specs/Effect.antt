-- What a step of the function does to floors and copies: one of six effects (`Effect`, at the
-- end), and what it keeps in each (`Keeps`). `Lawful` follows from it.
use Rattle.std.specs.Prelude.{◌≡◌, ℕ, ◌≤◌, Bool, true, false, List, [], Option, Some, None, Result, Ok, Err, ◌⊎◌, unwrap_or, if◌then◌else◌}
use Rattle.std.specs.List.{AllByRecursion, Contains}
use Rattle.htcp_wire.specs.Clearing.{is_acknowledging}
use Rattle.values_plain.specs.declared.address.Address.{Address}
use Rattle.htcp_wire.specs.declared.message.Content.{Content}
use Rattle.htcp_wire.specs.declared.message.Content.TheVariants as content
use Rattle.node_rules.specs.declared.message.Message.{Message}
use Rattle.node_rules.specs.declared.message.Message.TheVariants as message
use Rattle.node_rules.specs.declared.message.Outgoing.{Outgoing}
use Rattle.http_messages.specs.Answer.{AnswerText}
use Rattle.floor_rules.specs.Floors.{FloorTable}
use Rattle.object_store.specs.declared.copy.WebCopy.{WebCopy}
use Rattle.node_rules.specs.declared.state.Fetch.{Fetch}
use Rattle.node_rules.specs.declared.state.Fetch.TheVariants.{Nowhere, AtPeer, AtOrigin}
use Rattle.node_rules.specs.declared.state.Pending.{Pending}
use Rattle.node_rules.specs.declared.state.NodeState.{NodeState}
use Rattle.node_rules.specs.declared.event.Event.{Event}
use Rattle.node_rules.specs.declared.event.Event.TheVariants as event
use Rattle.node_rules.specs.declared.reply.Served.{Served}
use Rattle.node_rules.specs.declared.reply.Served.TheVariants.{Copy, Status}
use Rattle.node_rules.specs.declared.reply.Serve.{Serve}
use Rattle.node_rules.specs.declared.reply.Begin.TheVariants as begin
use Rattle.node_rules.specs.declared.reply.Reply.{Reply}
use Rattle.node_rules.specs.declared.reply.StepFault.{StepFault}
use Rattle.node_rules.specs.declared.reply.StepFault.TheVariants as fault
use Rattle.floor_rules.specs.Floors.{floor, seen, raised, with_base}
use Rattle.object_store.specs.Listed.{copy_of, to_front, without, without_all_below}
use Rattle.node_rules.specs.declared.raising.Raise.{Raise}
use Rattle.node_rules.specs.declared.raising.Raise.TheVariants.{Floor, Base}
use Rattle.node_rules.specs.State.{Setting, Stepped, is_outside, fetch_serial}
use Rattle.node_rules.specs.Raises.{left_by}
use Rattle.node_rules.specs.Fetching.{origin_ask}
use Rattle.node_rules.specs.Arrivals.{stored, is_gateway_fault}
use Rattle.node_rules.specs.Relation.{raise_in}
use Rattle.node_rules.specs.Questions.{begun}

-- What an outcome serves and sends

-- The copy in what is served.
abbrev pub copy_in : {X : Type 0} → Served X → Option (WebCopy X)
copy_in (Copy c age) = Some c
copy_in (Status status) = None

-- The same, if anything is served.
abbrev pub copy_in_serve : {X : Type 0} → Option (Serve X) → Option (WebCopy X)
copy_in_serve None = None
copy_in_serve (Some serve) = copy_in serve.served

-- The copy that an outcome serves.
abbrev pub copy_served : {X : Type 0} → Result (Reply X) StepFault → Option (WebCopy X)
copy_served (Ok reply) = copy_in_serve reply.serve
copy_served (Err f) = None

-- A bare status is a gateway's, 502, 503 or 504 (RFC 9110, section 15.6): a peer does not use it.
abbrev pub IsBareStatus : {X : Type 0} → Served X → Type 0
IsBareStatus (Copy c age) = Unit {0}
IsBareStatus (Status status) = is_gateway_fault status ≡ true

-- The same, if anything is served.
abbrev pub IsBareInServe : {X : Type 0} → Option (Serve X) → Type 0
IsBareInServe None = Unit {0}
IsBareInServe (Some serve) = IsBareStatus serve.served

-- The same of what an outcome serves.
abbrev pub ServesBareStatus : {X : Type 0} → Result (Reply X) StepFault → Type 0
ServesBareStatus (Ok reply) = IsBareInServe reply.serve
ServesBareStatus (Err f) = Unit {0}

-- The datagrams that an outcome sends.
abbrev pub sent : {X : Type 0} → Result (Reply X) StepFault → List Outgoing
sent (Ok reply) = reply.send
sent (Err f) = []

-- The function itself gives this outcome: it is no fault of memory or of a store.
abbrev pub IsOwnFault : {X : Type 0} → Result (Reply X) StepFault → Type 0
IsOwnFault (Ok reply) = Unit {0}
IsOwnFault (Err fault.Closed) = Unit {0}
IsOwnFault (Err fault.UnknownSerial) = Unit {0}
IsOwnFault (Err fault.Busy) = Unit {0}
IsOwnFault (Err fault.StoreFault) = ⊥
IsOwnFault (Err fault.NoMemory) = ⊥

-- Acknowledgements

-- The TRANS-ID that this content acknowledges, if it is a CLR response that does.
abbrev pub acknowledged_in : ℕ → Content → Option ℕ
acknowledged_in trans (content.ClrAnswer code) = if is_acknowledging code then Some trans else None
acknowledged_in trans _ = None

-- The TRANS-ID of the CLR that a message acknowledges.
abbrev pub acknowledged : Message → Option ℕ
acknowledged (message.Icp m) = None
acknowledged (message.Htcp m) = acknowledged_in m.trans m.content

-- The event is a datagram from this address.
abbrev pub ComesFrom : {X : Type 0} → Event X → Address → Type 0
ComesFrom (event.Datagram from m now) address = from ≡ address
ComesFrom _ address = ⊥

-- A raise that the event brings has this number: the floor of its key, or the base, is at least the
-- number.
abbrev pub HasRaised : FloorTable → Option Raise → ℕ → Type 0
HasRaised rows None n = Unit {0}
HasRaised rows (Some (Floor key m)) n = (m ≡ n) × (n ≤ floor rows key)
HasRaised rows (Some (Base m)) n = (m ≡ n) × (n ≤ rows.base)

-- What is acknowledged goes to the sender of the event, and is raised.
abbrev pub Acknowledges : {X : Type 0} → Setting → Event X → FloorTable → Address → Option ℕ → Type 0
Acknowledges g e rows to None = Unit {0}
Acknowledges g e rows to (Some n) = ComesFrom e to × HasRaised rows (raise_in g e) n

-- An acknowledgement goes to the sender of the event; if that was a purge or an admission, its floor or
-- the base is raised.
abbrev pub IsObedient : {X : Type 0} → Setting → Event X → FloorTable → Outgoing → Type 0
IsObedient g e rows o = Acknowledges g e rows o.to (acknowledged o.message)

-- Reads

-- The state has a request with the same fetch, for the same key, under the same serial.
pub record IsUnderWay {X : Type 0} (s : NodeState X) (p : Pending X) : Type 0 where
  pub was : Pending X
  pub waits : Contains s.pending was
  pub fetch : was.fetch ≡ p.fetch
  pub ask : was.ask ≡ p.ask
  pub serial : fetch_serial was ≡ fetch_serial p

-- The outcome begins the origin read of this request, with the greatest number seen as its stamp,
-- and the step's mark.
pub record BeginsHere {X : Type 0} (s : NodeState X) (mark : X) (outcome : Result (Reply X) StepFault) (p : Pending X)
    (stamp : ℕ) (read_mark : X) : Type 0 where
  pub stamp_seen : stamp ≡ seen s.floors
  pub mark_same : read_mark ≡ mark
  pub begins : begun outcome ≡ Some (begin.Read (fetch_serial p) (origin_ask p.ask))

-- The same of a fetch: an origin read was under way before, or begins here.
abbrev pub IsReadFrom : {X : Type 0} → NodeState X → X → Result (Reply X) StepFault → Pending X → Fetch X → Type 0
IsReadFrom s mark outcome p (AtOrigin stamp asked read_mark) = IsUnderWay s p
    ⊎ BeginsHere s mark outcome p stamp read_mark
IsReadFrom s mark outcome p (AtPeer peer asked) = Unit {0}
IsReadFrom s mark outcome p Nowhere = Unit {0}

-- A request that the origin is read for was read for before, or begins to be with this step.
abbrev pub IsReadOf : {X : Type 0} → NodeState X → X → Result (Reply X) StepFault → Pending X → Type 0
IsReadOf s mark outcome p = IsReadFrom s mark outcome p p.fetch

-- Where a new copy comes from

-- The request is for this key, and this is the serial of its last fetch (that of its round before
-- the first one).
pub record IsAt {X : Type 0} (serial : ℕ) (key : List ℕ) (p : Pending X) : Type 0 where
  pub serial_same : fetch_serial p ≡ serial
  pub key_same : p.ask.key ≡ key

-- A copy from an origin's response has the stamp, the time and the mark of its read.
pub record IsFromOrigin {X : Type 0} (serial : ℕ) (key : List ℕ) (answer : AnswerText) (p : Pending X) (c : WebCopy X) :
    Type 0 where
  pub waits : IsAt serial key p
  pub reads : p.fetch ≡ AtOrigin c.stamp c.asked c.tag
  pub key_same : c.key ≡ p.ask.key
  pub answer_same : c.answer ≡ answer

-- A copy from a peer's response has the time of its fetch, and the stamp and the tag that come with
-- it.
pub record IsFromPeer {X : Type 0} (serial peer : ℕ) (key : List ℕ) (stamp : ℕ) (answer : AnswerText) (tag : X)
    (p : Pending X) (c : WebCopy X) : Type 0 where
  pub waits : IsAt serial key p
  pub fetches : p.fetch ≡ AtPeer peer c.asked
  pub key_same : c.key ≡ p.ask.key
  pub stamp_same : c.stamp ≡ stamp
  pub answer_same : c.answer ≡ answer
  pub tag_same : c.tag ≡ tag
  pub status : is_gateway_fault answer.status ≡ false

-- The event brings this copy to this request. A member's stamp counts, 0 if it bears none; a
-- foreign cache's counts as 0.
abbrev pub IsAnswerTo : {X : Type 0} → Event X → Pending X → WebCopy X → Type 0
IsAnswerTo (event.OriginAnswer serial key answer now) p c = IsFromOrigin serial key answer p c
IsAnswerTo (event.PeerAnswer serial peer key answer tag now) p c =
    IsFromPeer serial peer key (unwrap_or answer.stamp 0) answer tag p c
IsAnswerTo (event.ForeignAnswer serial peer key answer tag now) p c = IsFromPeer serial peer key 0 answer tag p c
IsAnswerTo _ p c = ⊥

-- The event brings this copy to some pending request.
abbrev pub IsAnswerOf : {X : Type 0} → NodeState X → Event X → WebCopy X → Type 0
IsAnswerOf s e c = (p : Pending _) × Contains s.pending p × IsAnswerTo e p c

-- The effects

-- A state of these parts.
abbrev pub state_of : {X : Type 0} → FloorTable → List (WebCopy X) → Bool → List (Pending X) → ℕ → NodeState X
state_of rows copies closed pending next =
    record { floors = rows; copies = copies; pending = pending; next = next; closed = closed }

-- This is the key's copy, and it is not below the floor.
abbrev pub IsHeldAbove : {X : Type 0} → FloorTable → List (WebCopy X) → List ℕ → WebCopy X → Type 0
IsHeldAbove rows copies key c = (copy_of key copies ≡ Some c) × (floor rows key ≤ c.stamp)

-- What a step keeps, whatever its effect.
pub record Keeps {X : Type 0} (g : Setting) (s : NodeState X) (e : Event X) (mark : X) (r : Stepped X) : Type 0 where
  pub reads : AllByRecursion (IsReadOf s mark r.outcome) r.state.pending
  pub statuses : ServesBareStatus r.outcome
  pub acknowledges : AllByRecursion (IsObedient g e r.state.floors) (sent r.outcome)
  pub faults : IsOwnFault r.outcome

-- What a step from this state by this event may lead to.
pub data Effect {X : Type 0} (g : Setting) (s : NodeState X) (e : Event X) (mark : X) : Stepped X → Type 0 where
  -- floors and copies stay, and no copy is served
  Stays : (pending : List (Pending X)) (next : ℕ) (outcome : Result (Reply X) StepFault) → copy_served outcome ≡ None →
      Keeps g s e mark record { state = state_of s.floors s.copies s.closed pending next; outcome = outcome } →
      Effect g s e mark record { state = state_of s.floors s.copies s.closed pending next; outcome = outcome }
  -- a held copy is served by an open node that is not outside, and comes to the front
  Serves : (key : List ℕ) (c : WebCopy X) (pending : List (Pending X)) (next : ℕ)
      (outcome : Result (Reply X) StepFault) → s.closed ≡ false → is_outside g s ≡ false → IsHeldAbove s.floors s.copies key c →
      copy_served outcome ≡ Some c → Keeps g s e mark record
      { state = state_of s.floors (to_front key s.copies) s.closed pending next; outcome = outcome } →
      Effect g s e mark record {
        state = state_of s.floors (to_front key s.copies) s.closed pending next;
        outcome =
            outcome;
      }
  -- the event brings an open node a copy not below its floor: it is served, and stored if it has a
  -- lifetime
  Brings : (c : WebCopy X) (life : Option ℕ) (pending : List (Pending X)) (next : ℕ)
      (outcome : Result (Reply X) StepFault) → s.closed ≡ false → IsAnswerOf s e c → floor s.floors c.key ≤ c.stamp →
      copy_served outcome ≡ Some c → Keeps g s e mark record
      { state = state_of s.floors (stored g.roster.limits c life s.copies) s.closed pending next; outcome = outcome } →
      Effect g s e mark record {
        state = state_of s.floors (stored g.roster.limits c life s.copies) s.closed pending
            next;
        outcome = outcome;
      }
  -- the purge that the event brings raises its floor, and no copy stays below its floor
  Purges : (key : List ℕ) (n : ℕ) (pending : List (Pending X)) (next : ℕ) (outcome : Result (Reply X) StepFault) →
      raise_in g e ≡ Some (Floor key n) → copy_served outcome ≡ None →
      Keeps g s e mark record {
        state = state_of (raised s.floors key n) (left_by s.floors key n s.copies) s.closed pending
            next;
        outcome = outcome;
      } → Effect g s e mark record {
        state = state_of (raised s.floors key n) (left_by s.floors key n s.copies) s.closed pending next;
        outcome =
            outcome;
      }
  -- the admission that the event brings raises the base, and no copy stays below its number
  Rebases : (n : ℕ) (pending : List (Pending X)) (next : ℕ) (outcome : Result (Reply X) StepFault) →
      raise_in g e ≡ Some (Base n) → copy_served outcome ≡ None →
      Keeps g s e mark record {
        state = state_of (with_base s.floors n) (without_all_below n s.copies) s.closed pending next;
        outcome = outcome;
      } → Effect g s e mark record {
        state = state_of (with_base s.floors n) (without_all_below n s.copies) s.closed pending next;
        outcome = outcome;
      }
  -- a copy is dropped
  Drops : (key : List ℕ) (pending : List (Pending X)) (next : ℕ) (outcome : Result (Reply X) StepFault) →
      copy_served outcome ≡ None → Keeps g s e mark record
      { state = state_of s.floors (without key s.copies) s.closed pending next; outcome = outcome } →
      Effect g s e mark record {
        state = state_of s.floors (without key s.copies) s.closed pending next;
        outcome =
            outcome;
      }
