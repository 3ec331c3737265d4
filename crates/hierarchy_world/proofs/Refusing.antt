-- An event is refused only with NoSuchPacket or NotPending: by cases on the event, the model has no
-- other refusal. So a World's PlacesSpent never comes from the model.
use Rattle.std.proofs.Common.{◌≡◌, ℕ, Bool, true, false, cond, List, Option, Some, None, subst}
use Rattle.htcp_wire.specs.declared.message.Content.{Content}
use Rattle.htcp_wire.specs.declared.message.Content.TheVariants as content
use Rattle.http_messages.specs.Answer.{AnswerText}
use Rattle.purge_rules.specs.declared.fault.MasterFault.{MasterFault}
use Rattle.purge_rules.specs.Needed.{nodes_of}
use Rattle.purge_rules.specs.Calls.{issue_fault, admit_fault}
use Rattle.values_tables.specs.Ranges.{is_foreign_id}
use Rattle.values_plain.specs.declared.address.Address.{Address}
use Rattle.values_plain.specs.declared.address.Udp.TheVariants as udp
use Rattle.values_tables.specs.declared.plain.Tables.{Tables}
use Rattle.roster.specs.Lookups.{is_member, is_master, member_at, is_own}
use Rattle.node_rules.specs.declared.message.Message.{Message}
use Rattle.node_rules.specs.declared.message.Message.TheVariants as message
use Rattle.node_rules.specs.declared.state.Fetch.{Fetch}
use Rattle.node_rules.specs.declared.state.Fetch.TheVariants.{Nowhere, AtPeer, AtOrigin}
use Rattle.node_rules.specs.declared.state.Pending.{Pending}
use Rattle.node_rules.specs.declared.event.Event.TheVariants as event
use Rattle.world_rules.specs.declared.event.WorldEvent.{WorldEvent}
use Rattle.world_rules.specs.declared.event.WorldEvent.TheVariants as world
use Rattle.world_rules.specs.declared.outcome.WorldFault.{WorldFault}
use Rattle.world_rules.specs.declared.outcome.WorldFault.TheVariants as fault
use Rattle.node_rules.specs.Messages.{protocol_of as udp_of}
use Rattle.node_rules.specs.Spelled.{decoded_by}
use Rattle.world_rules.specs.World.{World, Datagram, PeerAsk, PeerAnswer, item}
use Rattle.world_rules.specs.Consequence.{Consequence, NodeSteps, Ends, Refused, at_member, acknowledged_by, master_hears_htcp, master_hears, delivered_to}
use Rattle.world_rules.specs.Consequence.{delivered, octets_reach, octets_come, ask_delivered, answer_delivered, origin_by, origin_to, foreign_by, foreign_to}
use Rattle.world_rules.specs.Consequence.{fetching_at, issue_by, admit_by, consequence}

-- the two faults of refused events
abbrev IsOfEvents : WorldFault → Type 0
IsOfEvents fault.NoSuchPacket = Unit {0}
IsOfEvents fault.NotPending = Unit {0}
IsOfEvents fault.NoMemory = ⊥
IsOfEvents fault.PlacesSpent = ⊥

-- an event that is refused is refused with one of these
abbrev IsRight : Consequence → Type 0
IsRight (NodeSteps id e serial) = Unit {0}
IsRight (Ends seen world) = Unit {0}
IsRight (Refused f) = IsOfEvents f

either_right : (b : Bool) (t u : Consequence) → IsRight t → IsRight u → IsRight (cond b t u)
either_right true t u first second = first
either_right false t u first second = second

member_right : (t : Tables) (id : ℕ) (u : Consequence) → IsRight u → IsRight (at_member t id u)
member_right t id u right = either_right (is_member t id) u (Refused fault.NoSuchPacket) right tt

acknowledged_right : (t : Tables) (w : World) (number code : ℕ) (o : Option ℕ) → IsRight (acknowledged_by t w number code o)
acknowledged_right t w number code None = tt
acknowledged_right t w number code (Some id) = tt

content_right : (t : Tables) (w : World) (sender : Address) (trans : ℕ) (c : Content) → IsRight (master_hears_htcp t w sender trans c)
content_right t w sender trans (content.NopAsk desired) = tt
content_right t w sender trans content.NopAnswer = tt
content_right t w sender trans (content.TstAsk desired spec) = tt
content_right t w sender trans (content.TstHit detail) = tt
content_right t w sender trans (content.TstMiss cache) = tt
content_right t w sender trans (content.ClrAsk desired reason spec) = tt
content_right t w sender trans (content.ClrAnswer code) = acknowledged_right t w trans code (member_at t sender udp.Htcp)
content_right t w sender trans (content.Other opcode desired) = tt
content_right t w sender trans (content.Overall opcode code) = tt
content_right t w sender trans (content.OtherAnswer opcode code) = tt

hears_right : (t : Tables) (w : World) (sender : Address) (m : Message) → IsRight (master_hears t w sender m)
hears_right t w sender (message.Icp m) = tt
hears_right t w sender (message.Htcp m) = content_right t w sender m.trans m.content

found_right : (w : World) (sender : Address) (m : Message) (o : Option ℕ) → IsRight (delivered_to w sender m o)
found_right w sender m None = tt
found_right w sender m (Some id) = tt

datagram_right : (t : Tables) (w : World) (o : Option Datagram) → IsRight (delivered t w o)
datagram_right t w None = tt
datagram_right t w (Some d) =
    either_right (is_master t d.receiver) (master_hears t w d.sender d.message) (delivered_to w d.sender d.message (member_at t d.receiver (udp_of d.message)))
    (hears_right t w d.sender d.message) (found_right w d.sender d.message (member_at t d.receiver (udp_of d.message)))

reach_right : (w : World) (sender : Address) (id : ℕ) (o : Option Message) → IsRight (octets_reach w sender id o)
reach_right w sender id None = tt
reach_right w sender id (Some m) = tt

octets_right : (w : World) (sender : Address) (octets : List ℕ) (icp htcp : Option ℕ) → IsRight (octets_come w sender octets icp htcp)
octets_right w sender octets (Some id) htcp = reach_right w sender id (decoded_by udp.Icp octets)
octets_right w sender octets None (Some id) = reach_right w sender id (decoded_by udp.Htcp octets)
octets_right w sender octets None None = tt

ask_right : (t : Tables) (w : World) (o : Option PeerAsk) → IsRight (ask_delivered t w o)
ask_right t w None = tt
ask_right t w (Some a) = member_right t a.receiver (NodeSteps a.receiver (event.PeerAsk a.sender a.ask w.clock) a.serial) tt

answer_right : (t : Tables) (w : World) (serial : Option ℕ) (o : Option PeerAnswer) → IsRight (answer_delivered t w serial o)
answer_right t w serial None = tt
answer_right t w serial (Some a) = member_right t a.receiver _ tt

origin_fetch_right : (w : World) (id serial : ℕ) (answer : AnswerText) (key : List ℕ) (f : Fetch ℕ) → IsRight (origin_by w id serial answer key f)
origin_fetch_right w id serial answer key Nowhere = tt
origin_fetch_right w id serial answer key (AtPeer peer asked) = tt
origin_fetch_right w id serial answer key (AtOrigin stamp asked mark) = tt

origin_right : (w : World) (id serial : ℕ) (answer : AnswerText) (o : Option (Pending ℕ)) → IsRight (origin_to w id serial answer o)
origin_right w id serial answer None = tt
origin_right w id serial answer (Some p) = origin_fetch_right w id serial answer p.ask.key p.fetch

foreign_fetch_right : (w : World) (id serial : ℕ) (answer : AnswerText) (key : List ℕ) (f : Fetch ℕ) → IsRight (foreign_by w id serial answer key f)
foreign_fetch_right w id serial answer key Nowhere = tt
foreign_fetch_right w id serial answer key (AtPeer peer asked) = either_right (is_foreign_id peer)
    (NodeSteps id (event.ForeignAnswer serial peer key answer 0 w.clock) 0) (Refused fault.NotPending) tt tt
foreign_fetch_right w id serial answer key (AtOrigin stamp asked mark) = tt

foreign_right : (w : World) (id serial : ℕ) (answer : AnswerText) (o : Option (Pending ℕ)) → IsRight (foreign_to w id serial answer o)
foreign_right w id serial answer None = tt
foreign_right w id serial answer (Some p) = foreign_fetch_right w id serial answer p.ask.key p.fetch

issue_right : (t : Tables) (w : World) (key : List ℕ) (o : Option MasterFault) → IsRight (issue_by t w key o)
issue_right t w key None = tt
issue_right t w key (Some f) = tt

admit_right : (t : Tables) (w : World) (id : ℕ) (o : Option MasterFault) → IsRight (admit_by t w id o)
admit_right t w id None = tt
admit_right t w id (Some f) = tt

consequence_right : (t : Tables) (w : World) (e : WorldEvent) → IsRight (consequence t w e)
consequence_right t w (world.Clock now) = tt
consequence_right t w (world.Client id ask) = member_right t id _ tt
consequence_right t w (world.Datagram number) = datagram_right t w (item w.datagrams number)
consequence_right t w (world.Ask number) = ask_right t w (item w.asks number)
consequence_right t w (world.Answer number serial) = answer_right t w serial (item w.answers number)
consequence_right t w (world.Origin id serial answer) = member_right t id _ (origin_right w id serial answer (fetching_at w id serial))
consequence_right t w (world.Foreign id serial answer) = member_right t id _ (foreign_right w id serial answer (fetching_at w id serial))
consequence_right t w (world.Strange to sender octets) =
    either_right (is_own t sender) (Refused fault.NoSuchPacket) (octets_come w sender octets (member_at t to udp.Icp) (member_at t to udp.Htcp)) tt
    (octets_right w sender octets (member_at t to udp.Icp) (member_at t to udp.Htcp))
consequence_right t w (world.Fail id serial) = member_right t id _ tt
consequence_right t w (world.Expire id serial) = member_right t id _ tt
consequence_right t w (world.Fault id) = member_right t id _ tt
consequence_right t w (world.Restart id) = member_right t id _ tt
consequence_right t w (world.Issue key) = issue_right t w key (issue_fault w.master)
consequence_right t w (world.Admit id) = admit_right t w id (admit_fault (nodes_of t) w.master id)
consequence_right t w world.Resend = tt
consequence_right t w (world.Status number) = tt
consequence_right t w world.RestartMaster = tt

-- no event is refused with PlacesSpent
pub not_for_places : (t : Tables) (w : World) (e : WorldEvent) → consequence t w e ≡ Refused fault.PlacesSpent → ⊥
not_for_places t w e is = subst IsRight is (consequence_right t w e)
