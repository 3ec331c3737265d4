-- A node answers what was requested, with the right age: what the law of one step says.
use Rattle.std.specs.Prelude.{◌≡◌, ◌≢◌, ℕ, ◌/◌, false, List, Option, Some, None, Result, Ok, Err, ◌⊎◌}
use Rattle.std.specs.List.{AllByRecursion, Contains}
use Rattle.http_messages.specs.declared.ask.Ask.{Ask}
use Rattle.node_rules.specs.declared.state.Pending.{Pending}
use Rattle.node_rules.specs.declared.state.NodeState.{NodeState}
use Rattle.node_rules.specs.declared.event.Event.{Event}
use Rattle.node_rules.specs.declared.event.Event.TheVariants as event
use Rattle.node_rules.specs.declared.reply.Served.{Served}
use Rattle.node_rules.specs.declared.reply.Served.TheVariants.{Copy, Status}
use Rattle.node_rules.specs.declared.reply.Serve.{Serve}
use Rattle.node_rules.specs.declared.reply.Begin.{Begin}
use Rattle.node_rules.specs.declared.reply.Reply.{Reply}
use Rattle.node_rules.specs.declared.reply.StepFault.{StepFault}
use Rattle.node_rules.specs.State.{served_age, serial_of}
use Rattle.world_rules.specs.World.{reply_in}

-- the time of an event, in seconds
abbrev pub moment : {X : Type 0} → Event X → ℕ
moment (event.Client ask now) = now
moment (event.Datagram from m now) = now
moment (event.PeerAsk asker ask now) = now
moment (event.PeerAnswer serial peer key answer tag now) = now
moment (event.OriginAnswer serial key answer now) = now
moment (event.ForeignAnswer serial peer key answer tag now) = now
moment (event.FetchFailed serial now) = now
moment (event.Expired serial now) = now

-- the event is this request, of a client or of this member
abbrev pub Asks : {X : Type 0} → Event X → Option ℕ → Ask → Type 0
Asks (event.Client ask now) asker a = (asker ≡ None) × (a ≡ ask)
Asks (event.PeerAsk id ask now) asker a = (asker ≡ Some id) × (a ≡ ask)
Asks _ asker a = ⊥

-- a request with this block and this requester waits
pub record Waits {X : Type 0} (s : NodeState X) (block : ℕ) (asker : Option ℕ) (ask : Ask) : Type 0 where
  pub was : Pending X
  pub waits : Contains s.pending was
  pub block_same : was.block ≡ block
  pub asker_same : was.asker ≡ asker
  pub ask_same : was.ask ≡ ask

-- the block of the serial that a reply begins, if it begins something
abbrev pub block_begun : Option Begin → Option ℕ
block_begun None = None
block_begun (Some b) = Some (serial_of b / 32)

-- a request that waits after the event waited before, or is the event's own and has the block that
-- the outcome begins
abbrev pub IsAskAfter : {X : Type 0} → NodeState X → Event X → Result (Reply X) StepFault → Pending X → Type 0
IsAskAfter s e outcome p = Waits s p.block p.asker p.ask
    ⊎ ((block_begun (reply_in outcome).begin ≡ Some p.block) × Asks e p.asker p.ask)

-- what is served answers the event's own request, or the one that waits as this block, and is of
-- its key
abbrev pub IsFor : {X : Type 0} → NodeState X → Event X → Option ℕ → Option ℕ → List ℕ → Type 0
IsFor s e None asker key = (ask : Ask) × Asks e asker ask × (ask.key ≡ key)
IsFor s e (Some block) asker key = (p : Pending _) × Contains s.pending p × (p.block ≡ block) × (p.asker ≡ asker)
    × (p.ask.key ≡ key)

-- a copy has its age at this time and answers a request for its key; a bare status answers a
-- request for some key
abbrev pub IsServedRightly : {X : Type 0} → NodeState X → Event X → Option ℕ → Option ℕ → Served X → Type 0
IsServedRightly s e waiter asker (Copy c age) = (age ≡ served_age c (moment e)) × IsFor s e waiter asker c.key
IsServedRightly s e waiter asker (Status status) = (key : List ℕ) × IsFor s e waiter asker key

-- the same for what is served, if anything is
abbrev pub IsRightlyIn : {X : Type 0} → NodeState X → Event X → Option (Serve X) → Type 0
IsRightlyIn s e None = Unit {0}
IsRightlyIn s e (Some serve) = IsServedRightly s e serve.waiter serve.asker serve.served

-- the same for what an outcome serves
abbrev pub ServesRightly : {X : Type 0} → NodeState X → Event X → Result (Reply X) StepFault → Type 0
ServesRightly s e (Ok reply) = IsRightlyIn s e reply.serve
ServesRightly s e (Err fault) = Unit {0}

-- what holds of a step from s to next by an event, with an outcome
pub record AnswersAsks {X : Type 0} (s : NodeState X) (e : Event X) (outcome : Result (Reply X) StepFault)
    (next : NodeState X) : Type 0 where
  pub asks : AllByRecursion (IsAskAfter s e outcome) next.pending
  -- a new request gets a block that no request has which waited before
  pub fresh : (asker : Option ℕ) (ask : Ask) → Asks e asker ask → (block : ℕ) →
      block_begun (reply_in outcome).begin ≡ Some block → AllByRecursion (λ p. p.block ≢ block) s.pending
  -- a node that is open was open before
  pub opens : next.closed ≡ false → s.closed ≡ false
  pub serves : ServesRightly s e outcome
