-- One step of a node as a relation: what the function gives, or a failed allocation, or a fault of
-- the floor store. The rule is `Steps`, at the end.
use Rattle.std.specs.Prelude.{◌≡◌, ℕ, true, false, List, [], ◌⊎◌, Option, Some, None, Result, Ok, Err}
use Rattle.htcp_wire.specs.declared.message.Content.{Content}
use Rattle.htcp_wire.specs.declared.message.Content.TheVariants as content
use Rattle.htcp_wire.specs.declared.message.Specifier.{Specifier}
use Rattle.htcp_wire.specs.declared.fault.HtcpFault.{HtcpFault}
use Rattle.htcp_wire.specs.declared.numbers.HeaderKind.TheVariants.{PurgeNumber, PurgeBase}
use Rattle.htcp_wire.specs.Numbers.{number_in_text}
use Rattle.object_store.specs.Listed.{without_all_below}
use Rattle.values_plain.specs.declared.address.Address.{Address}
use Rattle.node_rules.specs.declared.message.Message.{Message}
use Rattle.node_rules.specs.declared.message.Message.TheVariants as message
use Rattle.node_rules.specs.declared.raising.Raise.{Raise}
use Rattle.node_rules.specs.declared.state.NodeState.{NodeState}
use Rattle.node_rules.specs.declared.event.Event.{Event}
use Rattle.node_rules.specs.declared.event.Event.TheVariants as event
use Rattle.node_rules.specs.declared.reply.Reply.{Reply}
use Rattle.node_rules.specs.declared.reply.StepFault.{StepFault}
use Rattle.node_rules.specs.declared.reply.StepFault.TheVariants as fault
use Rattle.node_rules.specs.State.{Setting}
use Rattle.node_rules.specs.Raises.{raised_by, least_by}
use Rattle.node_rules.specs.Datagrams.{purge_of, base_alone}
use Rattle.node_rules.specs.Step.{step}

-- The raise of a CLR without a base line, by its number line.
abbrev pub purge_by_line : Setting → Address → ℕ → Option (List ℕ) → Result (Option ℕ) HtcpFault → Option Raise
purge_by_line g from trans key (Ok None) = None
purge_by_line g from trans key (Ok (Some n)) = purge_of g from trans key n
purge_by_line g from trans key (Err fault) = None

-- The raise of a CLR, by its number line and its base line.
abbrev pub raise_by_lines : Setting → Address → ℕ → Option (List ℕ) → Result (Option ℕ) HtcpFault →
    Result (Option ℕ) HtcpFault → Option Raise
raise_by_lines g from trans key number (Ok None) = purge_by_line g from trans key number
raise_by_lines g from trans key number (Ok (Some n)) = base_alone g from trans n number
raise_by_lines g from trans key number (Err fault) = None

-- The raise of a CLR of this SPECIFIER.
abbrev pub raise_meant : Setting → Address → ℕ → Specifier → Option Raise
raise_meant g from trans spec = raise_by_lines g from trans (g.key_of spec.uri)
    (number_in_text spec.request_headers PurgeNumber) (number_in_text spec.request_headers PurgeBase)

-- The same of the content of an HTCP message.
abbrev pub raise_in_content : Setting → Address → ℕ → Content → Option Raise
raise_in_content g from trans (content.ClrAsk desired reason spec) = raise_meant g from trans spec
raise_in_content g from trans _ = None

-- The same of a message.
abbrev pub raise_in_message : Setting → Address → Message → Option Raise
raise_in_message g from (message.Icp m) = None
raise_in_message g from (message.Htcp m) = raise_in_content g from m.trans m.content

-- What an event raises, if it is a good CLR of the master: a purge or an admission.
abbrev pub raise_in : {X : Type 0} → Setting → Event X → Option Raise
raise_in g (event.Datagram from message now) = raise_in_message g from message
raise_in g _ = None

-- A node that a raise has closed: no request is pending, and the copies that were to go before the
-- commit are gone. All other copies and the next block are as they were, and the raise stands in the
-- floors, or does not. [Refusal 4]
pub record IsClosed {X : Type 0} (s : NodeState X) (raise : Raise) (next : NodeState X) : Type 0 where
  pub closed : next.closed ≡ true
  pub pending : next.pending ≡ []
  pub copies : next.copies ≡ without_all_below (least_by raise s.floors) s.copies
  pub block : next.next ≡ s.next
  pub floors : (next.floors ≡ s.floors) ⊎ (next.floors ≡ raised_by raise s.floors)

-- The node closes at this raise. Without a raise it does not.
abbrev pub ClosesOn : {X : Type 0} → NodeState X → Option Raise → NodeState X → Type 0
ClosesOn s None next = ⊥
ClosesOn s (Some raise) next = IsClosed s raise next

-- A fault at a raise closes an open node. [Refusal 4]
abbrev pub Closes : {X : Type 0} → Setting → NodeState X → Event X → NodeState X → Type 0
Closes g s e next = (s.closed ≡ false) × ClosesOn s (raise_in g e) next

-- A failed allocation changes nothing, or closes the node at a raise. [Refusal 3]
abbrev pub WantsMemory : {X : Type 0} → Setting → NodeState X → Event X → NodeState X → Type 0
WantsMemory g s e next = (s.closed ≡ false) × (next ≡ s) ⊎ Closes g s e next

-- The step gives this fault and leads to this state.
abbrev pub Refuses : {X : Type 0} → Setting → NodeState X → Event X → X → StepFault → NodeState X → Type 0
Refuses g s e mark fault.NoMemory next = WantsMemory g s e next
Refuses g s e mark fault.StoreFault next = Closes g s e next
Refuses g s e mark f next = step g s e mark ≡ record { state = next; outcome = Err f }

-- In state s, the event e with this mark may have this outcome and lead to the next state.
abbrev pub Steps : {X : Type 0} → Setting → NodeState X → Event X → X → Result (Reply X) StepFault → NodeState X →
    Type 0
Steps g s e mark (Ok reply) next = step g s e mark ≡ record { state = next; outcome = Ok reply }
Steps g s e mark (Err f) next = Refuses g s e mark f next
