-- What a step sends, by the member's request that its event is; and what may be served.
use Rattle.std.specs.Prelude.{◌≡◌, ℕ, ◌≤◌, true, List, [], ◌∷◌, Option, Some, None, Result}
use Rattle.values_plain.specs.declared.address.Address.{Address}
use Rattle.values_plain.specs.declared.address.Udp.TheVariants as udp
use Rattle.values_tables.specs.declared.plain.Tables.{Tables}
use Rattle.roster.specs.Lookups.{member_at}
use Rattle.node_rules.specs.declared.reply.Served.{Served}
use Rattle.node_rules.specs.declared.reply.Served.TheVariants.{Copy, Status}
use Rattle.node_rules.specs.declared.reply.Serve.{Serve}
use Rattle.node_rules.specs.Arrivals.{is_gateway_fault}
use Rattle.node_rules.specs.declared.reply.Reply.{Reply}
use Rattle.node_rules.specs.declared.reply.StepFault.{StepFault}
use Rattle.world_rules.specs.World.{World, Waiting, PeerAnswer, Answered, asked_before, answer_to, reply_in}
use Rattle.world_rules.specs.Consequence.{Consequence, Ends, Nothing, acknowledged_by}

-- a served copy has an age of at most 2147483648 seconds, and a bare status is 502, 503 or 504
abbrev pub IsWritten : Served ℕ → Type 0
IsWritten (Copy c age) = age ≤ 2147483648
IsWritten (Status status) = is_gateway_fault status ≡ true

-- the same for what is served, if anything is
abbrev pub IsWrittenIn : Option (Serve ℕ) → Type 0
IsWrittenIn None = Unit {0}
IsWrittenIn (Some serve) = IsWritten serve.served

-- what the master does with a response to a CLR (TRANS-ID and code), or with anything else
abbrev pub heard_by : Tables → World → Address → Option (ℕ × ℕ) → Consequence
heard_by roster w sender None = Ends Nothing w
heard_by roster w sender (Some x) = acknowledged_by roster w x.0 x.1 (member_at roster sender udp.Htcp)

-- the request that is answered: the one that waited as the block, or else the event's own, if it is
-- a member's request
abbrev pub answered : List Waiting → ℕ → Option Answered → Option ℕ → Option Answered
answered waiting id asked None = asked
answered waiting id asked (Some block) = asked_before waiting id block

-- the response that is sent to a member, by the member's request that the event is, if it is one
abbrev pub answers_by : List Waiting → ℕ → Option Answered → Option (Serve ℕ) → List PeerAnswer
answers_by waiting id asked None = []
answers_by waiting id asked (Some serve) = answer_to id serve.asker serve.served
    (answered waiting id asked serve.waiter)

-- the same for what an outcome serves
abbrev pub IsWrittenBy : Result (Reply ℕ) StepFault → Type 0
IsWrittenBy outcome = IsWrittenIn (reply_in outcome).serve

-- the serial of a member's request; 0 if there is none
abbrev pub serial_of : Option Answered → ℕ
serial_of None = 0
serial_of (Some a) = a.serial

-- the member's request that has begun to wait: the event's, as the block that a reply begins
abbrev pub waits_by : ℕ → Option Answered → Option ℕ → List Waiting
waits_by id (Some a) (Some block) = record { node = id; block = block; serial = a.serial; key = a.key } ∷ []
waits_by id _ _ = []
