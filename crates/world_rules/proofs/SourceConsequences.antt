-- Each event keeps the invariant of sources: an item that arrives was sent with a source, an
-- origin's or a foreign cache's response is its own source, and a restart only loses things.
use Rattle.std.proofs.Common.{◌≡◌, ℕ, false, List, [], Option, Some, None, refl, nat_eq, filter, not}
use Rattle.std.specs.Prelude.{unwrap_or}
use Rattle.http_messages.specs.Answer.{AnswerText}
use Rattle.htcp_wire.specs.declared.message.Content.{Content}
use Rattle.htcp_wire.specs.declared.message.Content.TheVariants as content
use Rattle.object_store.specs.declared.copy.WebCopy.{WebCopy}
use Rattle.values_tables.specs.Ranges.{is_foreign_id}
use Rattle.values_plain.specs.declared.address.Address.{Address}
use Rattle.values_plain.specs.declared.address.Udp.TheVariants as udp
use Rattle.roster.specs.Lookups.{is_master, is_member, member_at, is_own}
use Rattle.node_rules.specs.declared.message.Message.{Message}
use Rattle.node_rules.specs.declared.message.Message.TheVariants as message
use Rattle.node_rules.specs.declared.state.Fetch.{Fetch}
use Rattle.node_rules.specs.declared.state.Fetch.TheVariants.{Nowhere, AtPeer, AtOrigin}
use Rattle.node_rules.specs.declared.state.Pending.{Pending}
use Rattle.node_rules.specs.declared.state.NodeState.{NodeState}
use Rattle.node_rules.specs.declared.event.Event.{Event}
use Rattle.node_rules.specs.declared.event.Event.TheVariants as event
use Rattle.node_rules.specs.State.{opened, closed_node}
use Rattle.node_rules.proofs.Cases.{branches, true_not_false}
use Rattle.purge_rules.specs.declared.fault.MasterFault.{MasterFault}
use Rattle.purge_rules.specs.Purges.{PurgeList}
use Rattle.purge_rules.specs.Needed.{nodes_of}
use Rattle.purge_rules.specs.Calls.{issue_fault, admit_fault}
use Rattle.values_tables.specs.declared.plain.Tables.{Tables}
use Rattle.world_rules.specs.declared.event.WorldEvent.{WorldEvent}
use Rattle.world_rules.specs.declared.event.WorldEvent.TheVariants as world
use Rattle.world_rules.specs.declared.outcome.WorldFault.TheVariants.{NoSuchPacket, NotPending}
use Rattle.node_rules.specs.Messages.{protocol_of as udp_of}
use Rattle.node_rules.specs.Spelled.{decoded_by}
use Rattle.world_rules.specs.World.{Datagram, PeerAsk, PeerAnswer, Waiting, World, item, node_at}
use Rattle.world_rules.specs.Consequence.{Seen, Nothing, Consequence, NodeSteps, Ends, Refused, at_member, with_clock, with_master, with_sent}
use Rattle.world_rules.specs.Consequence.{with_member_state, issue_by, admit_by, acknowledged_by, master_hears_htcp, master_hears, delivered_to, delivered}
use Rattle.world_rules.specs.Consequence.{octets_reach}
use Rattle.world_rules.specs.Consequence.{octets_come, ask_delivered, answer_delivered, origin_by, origin_to, foreign_by, foreign_to, fetching_at, consequence}
use Rattle.world_rules.specs.Run.{Step, ServesCopy}
use Rattle.world_rules.specs.Asked.{moment}
use Rattle.world_rules.specs.Sources.{AnswerHasSource, NodeHasSources, NodeHasAsks, HasSources}
use Rattle.world_rules.proofs.MemberStates.{all_item, each_node}
use Rattle.world_rules.proofs.Sourced.{KnowsSource, each_but}
use Rattle.world_rules.proofs.Waiting.{others_restart, own_restart}

-- the consequence of an event: a node's step on an event of this time whose source is known, or a
-- world in which the invariant holds
pub record IsKnown (h : Tables) (past : List Step) (w : World) (e : Event ℕ) : Type 0 where
  pub at : moment e ≡ w.clock
  pub knows : KnowsSource h past e

pub record EndsKnown (h : Tables) (past : List Step) (seen : Seen) (w : World) : Type 0 where
  pub sources : HasSources h past w
  pub serves_none : (c : WebCopy ℕ) → ServesCopy seen c → ⊥

abbrev pub Knows : Tables → List Step → World → Consequence → Type 0
Knows h past w (NodeSteps id e serial) = IsKnown h past w e
Knows h past w (Ends seen new) = EndsKnown h past seen new
Knows h past w (Refused fault) = Unit {0}

module _ (h : Tables) (past : List Step) (w : World) (sources : HasSources h past w) where
  at_member_known : (id : ℕ) (t : Consequence) → Knows h past w t → Knows h past w (at_member h id t)
  at_member_known id t known = branches (Knows h past w) (is_member h id) t (Refused NoSuchPacket) (λ _. known) (λ _. tt)

  plainly_known : (e : Event ℕ) → moment e ≡ w.clock → KnowsSource h past e → IsKnown h past w e
  plainly_known e at knows = record { at = at; knows = knows }

  -- the same nodes, responses and requests
  same_known : (seen : Seen) (new : World) → HasSources h past new → ((c : WebCopy ℕ) → ServesCopy seen c → ⊥) → EndsKnown h past seen new
  same_known seen new kept none = record { sources = kept; serves_none = none }

  master_known : (master : PurgeList) → HasSources h past (with_master w master)
  master_known master = record { nodes = sources.nodes; answers = sources.answers; asks = sources.asks }

  sent_known : (master : PurgeList) (sent : List Datagram) → HasSources h past (with_sent (with_master w master) sent)
  sent_known master sent = record { nodes = sources.nodes; answers = sources.answers; asks = sources.asks }

  clock_known : (now : ℕ) → HasSources h past (with_clock w now)
  clock_known now = record { nodes = sources.nodes; answers = sources.answers; asks = sources.asks }

  acknowledged_known : (number code : ℕ) (o : Option ℕ) → Knows h past w (acknowledged_by h w number code o)
  acknowledged_known number code None = same_known Nothing w sources (λ c s. absurd s)
  acknowledged_known number code (Some id) = same_known _ _ (master_known _) (λ c s. absurd s)

  htcp_known : (sender : Address) (trans : ℕ) (c : Content) → Knows h past w (master_hears_htcp h w sender trans c)
  htcp_known sender trans (content.ClrAnswer code) = acknowledged_known trans code (member_at h sender udp.Htcp)
  htcp_known sender trans _ = same_known Nothing w sources (λ c s. absurd s)

  hears_known : (sender : Address) (m : Message) → Knows h past w (master_hears h w sender m)
  hears_known sender (message.Icp m) = same_known Nothing w sources (λ c s. absurd s)
  hears_known sender (message.Htcp m) = htcp_known sender m.trans m.content

  to_known : (sender : Address) (m : Message) (o : Option ℕ) → Knows h past w (delivered_to w sender m o)
  to_known sender m None = tt
  to_known sender m (Some id) = plainly_known (event.Datagram sender m w.clock) refl tt

  octets_reach_known : (sender : Address) (id : ℕ) (o : Option Message) → Knows h past w (octets_reach w sender id o)
  octets_reach_known sender id None = same_known Nothing w sources (λ c s. absurd s)
  octets_reach_known sender id (Some m) = to_known sender m (Some id)

  octets_known : (sender : Address) (octets : List ℕ) (icp htcp : Option ℕ) → Knows h past w (octets_come w sender octets icp htcp)
  octets_known sender octets (Some id) htcp = octets_reach_known sender id (decoded_by udp.Icp octets)
  octets_known sender octets None (Some id) = octets_reach_known sender id (decoded_by udp.Htcp octets)
  octets_known sender octets None None = tt

  delivered_known : (o : Option Datagram) → Knows h past w (delivered h w o)
  delivered_known None = tt
  delivered_known (Some d) =
      branches (Knows h past w) (is_master h d.receiver) (master_hears h w d.sender d.message)
      (delivered_to w d.sender d.message (member_at h d.receiver (udp_of d.message)))
      (λ _. hears_known d.sender d.message) (λ _. to_known d.sender d.message (member_at h d.receiver (udp_of d.message)))

  ask_known : (o : Option PeerAsk) → Knows h past w (ask_delivered h w o)
  ask_known None = tt
  ask_known (Some a) = at_member_known a.receiver _ (plainly_known (event.PeerAsk a.sender a.ask w.clock) refl tt)

  answer_known : (number : ℕ) (serial : Option ℕ) (o : Option PeerAnswer) → item w.answers number ≡ o → Knows h past w (answer_delivered h w serial o)
  answer_known number serial None is = tt
  answer_known number serial (Some a) is =
      at_member_known a.receiver _ (plainly_known (event.PeerAnswer (unwrap_or serial a.serial) a.sender a.key a.answer a.mark w.clock) refl
      (all_item (AnswerHasSource h past) w.answers number a sources.answers is))

  origin_by_known : (id serial : ℕ) (answer : AnswerText) (key : List ℕ) (fetch : Fetch ℕ) → Knows h past w (origin_by w id serial answer key fetch)
  origin_by_known id serial answer key (AtOrigin stamp asked mark) = plainly_known (event.OriginAnswer serial key answer w.clock) refl tt
  origin_by_known id serial answer key (AtPeer peer asked) = tt
  origin_by_known id serial answer key Nowhere = tt

  origin_known : (id serial : ℕ) (answer : AnswerText) (o : Option (Pending ℕ)) → Knows h past w (origin_to w id serial answer o)
  origin_known id serial answer None = tt
  origin_known id serial answer (Some p) = origin_by_known id serial answer p.ask.key p.fetch

  foreign_by_known : (id serial : ℕ) (answer : AnswerText) (key : List ℕ) (fetch : Fetch ℕ) → Knows h past w (foreign_by w id serial answer key fetch)
  foreign_by_known id serial answer key (AtPeer peer asked) =
      branches (Knows h past w) (is_foreign_id peer) (NodeSteps id (event.ForeignAnswer serial peer key answer 0 w.clock) 0) (Refused NotPending)
      (λ _. plainly_known (event.ForeignAnswer serial peer key answer 0 w.clock) refl refl) (λ _. tt)
  foreign_by_known id serial answer key (AtOrigin stamp asked mark) = tt
  foreign_by_known id serial answer key Nowhere = tt

  foreign_known : (id serial : ℕ) (answer : AnswerText) (o : Option (Pending ℕ)) → Knows h past w (foreign_to w id serial answer o)
  foreign_known id serial answer None = tt
  foreign_known id serial answer (Some p) = foreign_by_known id serial answer p.ask.key p.fetch

  issue_known : (key : List ℕ) (o : Option MasterFault) → Knows h past w (issue_by h w key o)
  issue_known key (Some fault) = same_known _ w sources (λ c s. absurd s)
  issue_known key None = same_known _ _ (sent_known _ _) (λ c s. absurd s)

  admit_known : (id : ℕ) (o : Option MasterFault) → Knows h past w (admit_by h w id o)
  admit_known id (Some fault) = same_known _ w sources (λ c s. absurd s)
  admit_known id None = same_known _ _ (sent_known _ _) (λ c s. absurd s)

  -- a node that has lost what waited, and its copies unless it is closed
  state_known : (id : ℕ) (s : NodeState ℕ) → NodeHasSources h past id s → s.pending ≡ [] → EndsKnown h past Nothing (with_member_state w id s)
  state_known id s node empty = same_known Nothing (with_member_state w id s)
      (record {
        nodes = each_node (λ each (s : NodeState ℕ). NodeHasSources h past each s) w.states id s node sources.nodes;
        answers = sources.answers;
        asks = each_but (λ each (s : NodeState ℕ). s.closed ≡ false → NodeHasAsks (filter (λ (x : Waiting). not (nat_eq x.node id)) w.waiting) each s) w.states
            id s
            (λ is_open. own_restart id w.waiting s empty) (λ other ne is_open. others_restart id w.waiting other (node_at w.states other) ne
            (sources.asks other is_open));
      }) (λ c s. absurd s)

  -- an event steps a node by what has a source or brings no copy, or it adds nothing that needs a source
  pub consequence_known : (cause : WorldEvent) → Knows h past w (consequence h w cause)
  consequence_known (world.Clock now) = same_known Nothing (with_clock w now) (clock_known now) (λ c s. absurd s)
  consequence_known (world.Client id ask) = at_member_known id _ (plainly_known (event.Client ask w.clock) refl tt)
  consequence_known (world.Datagram number) = delivered_known (item w.datagrams number)
  consequence_known (world.Ask number) = ask_known (item w.asks number)
  consequence_known (world.Answer number serial) = answer_known number serial (item w.answers number) refl
  consequence_known (world.Origin id serial answer) = at_member_known id _ (origin_known id serial answer (fetching_at w id serial))
  consequence_known (world.Foreign id serial answer) = at_member_known id _ (foreign_known id serial answer (fetching_at w id serial))
  consequence_known (world.Strange to sender octets) =
      branches (Knows h past w) (is_own h sender) (Refused NoSuchPacket) (octets_come w sender octets (member_at h to udp.Icp) (member_at h to udp.Htcp))
      (λ _. tt) (λ _. octets_known sender octets (member_at h to udp.Icp) (member_at h to udp.Htcp))
  consequence_known (world.Fail id serial) = at_member_known id _ (plainly_known (event.FetchFailed serial w.clock) refl tt)
  consequence_known (world.Expire id serial) = at_member_known id _ (plainly_known (event.Expired serial w.clock) refl tt)
  consequence_known (world.Fault id) = at_member_known id _ (state_known id (closed_node (node_at w.states id)) record
      { copies = λ is_open. absurd (true_not_false is_open); reads = tt } refl)
  consequence_known (world.Restart id) = at_member_known id _
      (state_known id (opened (node_at w.states id).floors) record { copies = λ is_open. tt; reads = tt } refl)
  consequence_known (world.Issue key) = issue_known key (issue_fault w.master)
  consequence_known (world.Admit id) = admit_known id (admit_fault (nodes_of h) w.master id)
  consequence_known world.Resend = same_known Nothing _ (sent_known w.master _) (λ c s. absurd s)
  consequence_known (world.Status number) = same_known _ w sources (λ c s. absurd s)
  consequence_known world.RestartMaster = same_known Nothing w sources (λ c s. absurd s)
