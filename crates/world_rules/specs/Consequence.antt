-- What each event leads to: which actor acts, and the world after it. The last definition,
-- consequence, covers all events, one line each.
use Rattle.std.specs.Prelude.{ℕ, ◌+◌, Bool, ◌==◌, not, List, [], ◌∷◌, ◌++◌, filter, find, Option, Some, None, Result, unwrap_or, if◌then◌else◌}
use Rattle.std.specs.List.{flat_map}
use Rattle.htcp_wire.specs.declared.message.Content.{Content}
use Rattle.htcp_wire.specs.declared.message.Content.TheVariants as content
use Rattle.htcp_wire.specs.declared.message.Htcp.{Htcp}
use Rattle.http_messages.specs.Answer.{AnswerText}
use Rattle.values_tables.specs.Ranges.{is_foreign_id}
use Rattle.values_plain.specs.declared.address.Address.{Address}
use Rattle.values_plain.specs.declared.address.Udp.TheVariants as udp
use Rattle.values_tables.specs.declared.plain.Member.{Member}
use Rattle.values_tables.specs.declared.plain.Tables.{Tables}
use Rattle.roster.specs.Lookups.{member_of, is_member, member_at, is_master, is_own}
use Rattle.node_rules.specs.declared.message.Message.{Message}
use Rattle.node_rules.specs.declared.message.Message.TheVariants as message
use Rattle.node_rules.specs.declared.state.Fetch.{Fetch}
use Rattle.node_rules.specs.declared.state.Fetch.TheVariants.{AtPeer, AtOrigin}
use Rattle.node_rules.specs.declared.state.Pending.{Pending}
use Rattle.node_rules.specs.declared.state.NodeState.{NodeState}
use Rattle.node_rules.specs.declared.event.Event.{Event}
use Rattle.node_rules.specs.declared.event.Event.TheVariants as event
use Rattle.node_rules.specs.declared.reply.Reply.{Reply}
use Rattle.node_rules.specs.declared.reply.StepFault.{StepFault}
use Rattle.node_rules.specs.State.{opened, closed_node, fetch_serial}
use Rattle.purge_rules.specs.declared.calls.Status.{Status}
use Rattle.purge_rules.specs.declared.fault.MasterFault.{MasterFault}
use Rattle.purge_rules.specs.declared.purges.Admission.{Admission}
use Rattle.purge_rules.specs.Members.{is_among}
use Rattle.purge_rules.specs.Needed.{nodes_of, needed}
use Rattle.purge_rules.specs.Purges.{PurgeList, with_purge, with_admission}
use Rattle.purge_rules.specs.Calls.{issue_fault, admit_fault, acknowledged, due, status_of}
use Rattle.purge_rules.specs.Clear.{clear, base_clear, message_of}
use Rattle.world_rules.specs.declared.event.WorldEvent.{WorldEvent}
use Rattle.world_rules.specs.declared.event.WorldEvent.TheVariants as world
use Rattle.world_rules.specs.declared.outcome.WorldFault.{WorldFault}
use Rattle.world_rules.specs.declared.outcome.WorldFault.TheVariants.{NoSuchPacket, NotPending}
use Rattle.node_rules.specs.Messages.{protocol_of}
use Rattle.node_rules.specs.Spelled.{decoded_by}
use Rattle.world_rules.specs.World.{Datagram, PeerAsk, PeerAnswer, World, item, node_at, with_node}

-- what an event visibly did
pub data Seen : Type 0 where
  -- a member's node took a step, with this outcome
  Replied : (node : ℕ) (outcome : Result (Reply ℕ) StepFault) → Seen
  -- the master issued a purge under this number, or refused to
  Issued : (number : ℕ) → Seen
  NotIssued : (fault : MasterFault) → Seen
  -- the master admitted a member under this number, or refused to
  Admitted : (number : ℕ) → Seen
  NotAdmitted : (fault : MasterFault) → Seen
  -- the master reported the status of a number
  Reported : (number : ℕ) (status : Status) → Seen
  Nothing : Seen

-- what an event leads to
pub data Consequence : Type 0 where
  -- a step of a member's node; the serial is that of the member's request that the event is, else 0
  NodeSteps : (id : ℕ) (e : Event ℕ) (serial : ℕ) → Consequence
  -- no node steps; this is what is seen, and the world afterwards
  Ends : (seen : Seen) (world : World) → Consequence
  -- the event names something that does not exist, or nothing that is pending [Script 8]
  Refused : (fault : WorldFault) → Consequence

-- this consequence if the id is a member's, else the event is refused
abbrev pub at_member : Tables → ℕ → Consequence → Consequence
at_member roster id consequence = if is_member roster id then consequence else Refused NoSuchPacket

-- Parts of a world that change alone

-- the world at another time
abbrev pub with_clock : World → ℕ → World
with_clock w now = record w { clock = now }

-- the world with other purges of the master
abbrev pub with_master : World → PurgeList → World
with_master w m = record w { master = m }

-- the world after these datagrams were sent
abbrev pub with_sent : World → List Datagram → World
with_sent w sent = record w { datagrams = w.datagrams ++ sent }

-- the world with another node of the member; the members' requests that waited there are gone
abbrev pub with_member_state : World → ℕ → NodeState ℕ → World
with_member_state w id node = record w {
  states = with_node w.states id node;
  waiting =
      filter (λ x. not (x.node == id)) w.waiting;
}

-- The master

-- the CLR as a datagram from the master to the member's HTCP address, if there are both
abbrev pub clear_to : Tables → Option Htcp → Option Member → List Datagram
clear_to roster (Some m) (Some member) =
    record { sender = roster.master; receiver = member.cache.htcp; message = message.Htcp m } ∷ []
clear_to roster _ _ = []

-- the CLR of a new purge to the member with this id, if the id is one of these
abbrev pub clear_if : Tables → List ℕ → ℕ → List ℕ → ℕ → List Datagram
clear_if roster ids number key id =
    if is_among id ids then clear_to roster (Some (clear number key)) (member_of roster id) else []

-- the CLRs of a new purge, after these admissions: one to each member that it needs, in order of ids
abbrev pub clears_of : Tables → List Admission → ℕ → List ℕ → List Datagram
clears_of roster admissions number key =
    flat_map (λ id. clear_to roster (Some (clear number key)) (member_of roster id))
    (needed (nodes_of roster) admissions number)

-- the CLR of each pending number to each member that it needs and that has not acknowledged it
abbrev pub clears_due : Tables → PurgeList → List Datagram
clears_due roster purges = flat_map (λ d. clear_to roster (message_of purges d.0) (member_of roster d.1))
    (due (nodes_of roster) purges)

-- the master issues a purge under the next number and sends its CLRs, or refuses
abbrev pub issue_by : Tables → World → List ℕ → Option MasterFault → Consequence
issue_by roster w key (Some fault) = Ends (NotIssued fault) w
issue_by roster w key None =
    let number = w.master.last + 1 in
    Ends (Issued number) (with_sent (with_master w (with_purge w.master number key))
    (clears_of roster w.master.admissions number key))

-- the master admits a member under the next number and sends its CLR to that member, or refuses
abbrev pub admit_by : Tables → World → ℕ → Option MasterFault → Consequence
admit_by roster w id (Some fault) = Ends (NotAdmitted fault) w
admit_by roster w id None =
    let number = w.master.last + 1 in
    Ends (Admitted number) (with_sent (with_master w (with_admission w.master number id))
    (clear_to roster (Some (base_clear number)) (member_of roster id)))

-- the master reports the status of this number
abbrev pub reports : Tables → World → ℕ → Consequence
reports roster w number = Ends (Reported number (status_of (nodes_of roster) w.master number)) w

-- A member's response to a CLR counts for the number that is its TRANS-ID. It is counted, and the
-- status is reported.
abbrev pub acknowledged_by : Tables → World → ℕ → ℕ → Option ℕ → Consequence
acknowledged_by roster w number code None = Ends Nothing w
acknowledged_by roster w number code (Some id) =
    reports roster (with_master w (acknowledged (nodes_of roster) w.master id number code).purges) number

-- the sender of a response to a CLR is known by its HTCP address [Master 5]
abbrev pub master_hears_htcp : Tables → World → Address → ℕ → Content → Consequence
master_hears_htcp roster w sender trans (content.ClrAnswer code) =
    acknowledged_by roster w trans code (member_at roster sender udp.Htcp)
master_hears_htcp roster w sender trans _ = Ends Nothing w

-- of what reaches the master, only a member's response to a CLR counts
abbrev pub master_hears : Tables → World → Address → Message → Consequence
master_hears roster w sender (message.Icp m) = Ends Nothing w
master_hears roster w sender (message.Htcp m) = master_hears_htcp roster w sender m.trans m.content

-- Deliveries

-- a datagram reaches the member that was found
abbrev pub delivered_to : World → Address → Message → Option ℕ → Consequence
delivered_to w sender m None = Refused NoSuchPacket
delivered_to w sender m (Some id) = NodeSteps id (event.Datagram sender m w.clock) 0

-- a datagram reaches the master, or the member that answers its protocol at this address
abbrev pub delivered : Tables → World → Option Datagram → Consequence
delivered roster w None = Refused NoSuchPacket
delivered roster w (Some d) =
    if is_master roster d.receiver then master_hears roster w d.sender d.message
    else delivered_to w d.sender d.message (member_at roster d.receiver (protocol_of d.message))

-- a request reaches the member that it was sent to
abbrev pub ask_delivered : Tables → World → Option PeerAsk → Consequence
ask_delivered roster w None = Refused NoSuchPacket
ask_delivered roster w (Some a) = at_member roster a.receiver
    (NodeSteps a.receiver (event.PeerAsk a.sender a.ask w.clock) a.serial)

-- A response reaches the member that it was sent to, under the serial given, or else under that of
-- its request.
abbrev pub answer_delivered : Tables → World → Option ℕ → Option PeerAnswer → Consequence
answer_delivered roster w serial None = Refused NoSuchPacket
answer_delivered roster w serial (Some a) =
    at_member roster a.receiver
    (NodeSteps a.receiver (event.PeerAnswer (unwrap_or serial a.serial) a.sender a.key a.answer a.mark w.clock) 0)

-- octets reach a member: the message that they spell arrives; if they spell none, nothing changes
abbrev pub octets_reach : World → Address → ℕ → Option Message → Consequence
octets_reach w sender id None = Ends Nothing w
octets_reach w sender id (Some m) = delivered_to w sender m (Some id)

-- octets reach the member that was found by its ICP address, else the one that was found by its
-- HTCP address, and are read by that protocol
abbrev pub octets_come : World → Address → List ℕ → Option ℕ → Option ℕ → Consequence
octets_come w sender octets (Some id) by_htcp = octets_reach w sender id (decoded_by udp.Icp octets)
octets_come w sender octets None (Some id) = octets_reach w sender id (decoded_by udp.Htcp octets)
octets_come w sender octets None None = Refused NoSuchPacket

-- a stranger's octets reach a member; a stranger has no address of a member or of the master
abbrev pub strange_comes : Tables → World → Address → Address → List ℕ → Consequence
strange_comes roster w to sender octets =
    if is_own roster sender then Refused NoSuchPacket
    else octets_come w sender octets (member_at roster to udp.Icp) (member_at roster to udp.Htcp)

-- Responses from outside

-- whether this pending request fetches under this serial
abbrev pub is_at : ℕ → Pending ℕ → Bool
is_at serial p = fetch_serial p == serial

-- an origin responds only to a read that is pending
abbrev pub origin_by : World → ℕ → ℕ → AnswerText → List ℕ → Fetch ℕ → Consequence
origin_by w id serial answer key (AtOrigin stamp asked mark) =
    NodeSteps id (event.OriginAnswer serial key answer w.clock) 0
origin_by w id serial answer key _ = Refused NotPending

-- an origin responds under this serial, to what is pending there
abbrev pub origin_to : World → ℕ → ℕ → AnswerText → Option (Pending ℕ) → Consequence
origin_to w id serial answer None = Refused NotPending
origin_to w id serial answer (Some p) = origin_by w id serial answer p.ask.key p.fetch

-- a foreign cache responds only to a fetch from it that is pending; its copy has the mark 0
abbrev pub foreign_by : World → ℕ → ℕ → AnswerText → List ℕ → Fetch ℕ → Consequence
foreign_by w id serial answer key (AtPeer peer asked) =
    if is_foreign_id peer then NodeSteps id (event.ForeignAnswer serial peer key answer 0 w.clock) 0
    else Refused NotPending
foreign_by w id serial answer key _ = Refused NotPending

-- a foreign cache responds under this serial, to what is pending there
abbrev pub foreign_to : World → ℕ → ℕ → AnswerText → Option (Pending ℕ) → Consequence
foreign_to w id serial answer None = Refused NotPending
foreign_to w id serial answer (Some p) = foreign_by w id serial answer p.ask.key p.fetch

-- the request that fetches under this serial at a member, if any
abbrev pub fetching_at : World → ℕ → ℕ → Option (Pending ℕ)
fetching_at w id serial = find (is_at serial) (node_at w.states id).pending

-- All events

-- what each event leads to
abbrev pub consequence : Tables → World → WorldEvent → Consequence
consequence roster w (world.Clock now) = Ends Nothing (with_clock w now)
consequence roster w (world.Client id ask) = at_member roster id (NodeSteps id (event.Client ask w.clock) 0)
consequence roster w (world.Datagram number) = delivered roster w (item w.datagrams number)
consequence roster w (world.Ask number) = ask_delivered roster w (item w.asks number)
consequence roster w (world.Answer number serial) = answer_delivered roster w serial (item w.answers number)
consequence roster w (world.Origin id serial answer) = at_member roster id
    (origin_to w id serial answer (fetching_at w id serial))
consequence roster w (world.Foreign id serial answer) = at_member roster id
    (foreign_to w id serial answer (fetching_at w id serial))
consequence roster w (world.Strange to sender octets) = strange_comes roster w to sender octets
consequence roster w (world.Fail id serial) = at_member roster id (NodeSteps id (event.FetchFailed serial w.clock) 0)
consequence roster w (world.Expire id serial) = at_member roster id (NodeSteps id (event.Expired serial w.clock) 0)
consequence roster w (world.Fault id) =
    at_member roster id (Ends Nothing (with_member_state w id (closed_node (node_at w.states id))))
consequence roster w (world.Restart id) =
    at_member roster id (Ends Nothing (with_member_state w id (opened (node_at w.states id).floors)))
consequence roster w (world.Issue key) = issue_by roster w key (issue_fault w.master)
consequence roster w (world.Admit id) = admit_by roster w id (admit_fault (nodes_of roster) w.master id)
consequence roster w world.Resend = Ends Nothing (with_sent w (clears_due roster w.master))
consequence roster w (world.Status number) = reports roster w number
consequence roster w world.RestartMaster = Ends Nothing w
