-- Each event keeps the invariant. What reaches a node or the master was sent rightly, by the
-- invariant; then NodeConsequences or MasterConsequences applies. The clock changes nothing that it speaks of,
-- and a fault or a restart only loses things.
use Rattle.std.proofs.Common.{◌≡◌, ℕ, ◌+◌, ◌≤◌, inl, inr, Bool, true, false, cond, ◌||◌, List, [], ◌∷◌, ◌++◌, length, Option, Some, None, Result, refl}
use Rattle.std.proofs.Common.{sym, ◌∙◌, ap, subst}
use Rattle.std.proofs.Common.{nat_eq, unwrap_or}
use Rattle.std.specs.Prelude.{◌⊎◌, find, is_some, option_map}
use Rattle.url_key.specs.Key.{IsKey}
use Rattle.std.proofs.lemmas.Option.{none-some}
use Rattle.values_plain.specs.declared.address.Address.{Address}
use Rattle.values_plain.specs.declared.address.Udp.{Udp}
use Rattle.values_plain.specs.declared.address.Udp.TheVariants as udp
use Rattle.htcp_wire.specs.declared.message.Content.{Content}
use Rattle.htcp_wire.specs.declared.message.Content.TheVariants as content
use Rattle.node_rules.specs.declared.message.Message.{Message}
use Rattle.node_rules.specs.declared.message.Message.TheVariants as message
use Rattle.http_messages.specs.Answer.{AnswerText}
use Rattle.object_store.specs.declared.copy.WebCopy.{WebCopy}
use Rattle.values_tables.specs.declared.plain.Member.{Member}
use Rattle.node_rules.specs.declared.state.Fetch.{Fetch}
use Rattle.node_rules.specs.declared.state.Fetch.TheVariants.{Nowhere, AtPeer, AtOrigin}
use Rattle.node_rules.specs.declared.state.Pending.{Pending}
use Rattle.node_rules.specs.declared.event.Event.{Event}
use Rattle.node_rules.specs.declared.event.Event.TheVariants as event
use Rattle.node_rules.specs.declared.reply.Reply.{Reply}
use Rattle.node_rules.specs.declared.reply.StepFault.{StepFault}
use Rattle.values_tables.specs.Ranges.{is_foreign_id}
use Rattle.roster.specs.Lookups.{is_master, is_member, member_at, same_address, address_by, is_own}
use Rattle.node_rules.specs.State.{opened, setting, closed_node}
use Rattle.node_rules.specs.Effect.{acknowledged as acknowledged_by_message}
use Rattle.purge_rules.specs.declared.purges.Admission.{Admission}
use Rattle.purge_rules.specs.declared.fault.MasterFault.{MasterFault}
use Rattle.purge_rules.specs.Needed.{nodes_of}
use Rattle.purge_rules.specs.Calls.{issue_fault, admit_fault, acknowledged, status_of}
use Rattle.htcp_wire.specs.Clearing.{is_acknowledging}
use Rattle.node_rules.proofs.Cases.{branches, same_Some, true_not_false}
use Rattle.node_rules.proofs.Lawful.{steps_are_lawful}
use Rattle.values_tables.specs.declared.plain.Tables.{Tables}
use Rattle.roster.specs.Judged.{IsRoster}
use Rattle.node_rules.specs.Messages.{protocol_of as udp_of}
use Rattle.node_rules.specs.Spelled.{decoded_by}
use Rattle.world_rules.specs.World.{Datagram, PeerAsk, PeerAnswer, World, item, node_at, after_node}
use Rattle.world_rules.specs.declared.event.WorldEvent.{WorldEvent}
use Rattle.world_rules.specs.declared.event.WorldEvent.TheVariants as world
use Rattle.world_rules.specs.declared.outcome.WorldFault.TheVariants.{NoSuchPacket}
use Rattle.world_rules.specs.Consequence.{Seen, Replied, NotIssued, NotAdmitted, Reported, Nothing, Consequence, NodeSteps, Ends, Refused, at_member}
use Rattle.world_rules.specs.Consequence.{with_clock}
use Rattle.world_rules.specs.Consequence.{with_master, with_member_state, issue_by, admit_by, reports, acknowledged_by, master_hears_htcp, master_hears}
use Rattle.world_rules.specs.Consequence.{delivered_to}
use Rattle.world_rules.specs.Consequence.{delivered, octets_reach, octets_come, ask_delivered, answer_delivered, origin_by, origin_to, foreign_by, foreign_to}
use Rattle.world_rules.specs.Consequence.{fetching_at, consequence}
use Rattle.world_rules.specs.Run.{Step, Takes, IsOfKey, Happens, given_by, TellsDone, ServesCopy}
use Rattle.world_rules.specs.Lineage.{HasObeyed, IsClearFor, IsMastersRightly, IsObeyed, IsSentAnswer, IsOutside, IsAdmitted, NodeHasLineage}
use Rattle.world_rules.specs.Lineage.{AllHaveObeyed, HasLineage}
use Rattle.world_rules.proofs.Later.{rises_itself}
use Rattle.world_rules.proofs.MemberStates.{same_id, all_item}
use Rattle.world_rules.proofs.NodeConsequences.{ComesRightly, takes_keeps, silent_keeps}
use Rattle.world_rules.proofs.MasterConsequences.{clock_keeps, resend_keeps, acknowledge_keeps, reported_obeyed}
use Rattle.world_rules.proofs.Counting.{with_step, as_step, counted, left_number, left_admission, issue_keeps, admit_keeps}

-- the consequence of an event: a node's step on what was sent rightly, or a world in which the
-- invariant holds
pub record IsRightStep (h : Tables) (past : List Step) (admissions : List Admission) (id : ℕ) (e : Event ℕ) : Type 0 where
  pub comes : ComesRightly h past admissions id e
  pub member : is_member h id ≡ true

pub record IsRightEnd (h : Tables) (past : List Step) (event : WorldEvent) (seen : Seen) (w : World) : Type 0 where
  pub lineage : HasLineage h (with_step past event seen) w
  pub serves_none : (c : WebCopy ℕ) → ServesCopy seen c → ⊥

abbrev pub IsRight : Tables → List Step → List Admission → WorldEvent → Consequence → Type 0
IsRight h past admissions event (NodeSteps id e serial) = IsRightStep h past admissions id e
IsRight h past admissions event (Ends seen w) = IsRightEnd h past event seen w
IsRight h past admissions event (Refused fault) = Unit {0}

-- Look-ups

-- the id found by an address is a member's
found_known : (members : List Member) (test : Member → Bool) (c : Member) → find test members ≡ Some c →
    is_some (find (λ m. nat_eq m.cache.id c.cache.id) members) ≡ true
found_known [] test c e = absurd (none-some c e)
found_known (d ∷ members) test c e =
    (branches (λ (o : Option Member). o ≡ Some c → is_some (find (λ m. nat_eq m.cache.id c.cache.id) (d ∷ members)) ≡ true) (test d) (Some d)
    (find test members)
    (λ _ f. ap (λ b. is_some (cond b (Some d) (find (λ m. nat_eq m.cache.id c.cache.id) members)))
    (subst (λ (x : Member). nat_eq d.cache.id x.cache.id ≡ true) (same_Some d c f) (same_id d.cache.id)))
    (λ _ f. branches (λ (o : Option Member). is_some o ≡ true) (nat_eq d.cache.id c.cache.id) (Some d) (find (λ m. nat_eq m.cache.id c.cache.id) members)
    (λ _. refl) (λ _. found_known members test c f))) e

member_by : (members : List Member) (test : Member → Bool) (o : Option Member) (id : ℕ) → find test members ≡ o →
    option_map (λ (c : Member). c.cache.id) o ≡ Some id → is_some (find (λ m. nat_eq m.cache.id id) members) ≡ true
member_by members test None id is e = absurd (none-some id e)
member_by members test (Some c) id is e = subst (λ n. is_some (find (λ m. nat_eq m.cache.id n) members) ≡ true) (same_Some c.cache.id id e)
    (found_known members test c is)

member_at_known : (h : Tables) (by : Udp) (address : Address) (id : ℕ) → member_at h address by ≡ Some id → is_member h id ≡ true
member_at_known h by address id e = member_by h.members (λ c. same_address address (address_by by c.cache)) _ id refl e

or_false : (a b : Bool) → (a || b) ≡ false → a ≡ false
or_false true b h = h
or_false false b h = refl

module _ (h : Tables) (proper : IsRoster h) (past : List Step) (w : World) (lineage : HasLineage h past w) where
  -- a consequence at a member is right if it is right when the id is a member's
  at_member_right : (event : WorldEvent) (id : ℕ) (t : Consequence) → (is_member h id ≡ true → IsRight h past w.master.admissions event t) →
      IsRight h past w.master.admissions event (at_member h id t)
  at_member_right event id t right = branches (IsRight h past w.master.admissions event) (is_member h id) t (Refused NoSuchPacket) right (λ _. tt)

  -- an event without a node's step that issues nothing
  end_right : (event : WorldEvent) (seen : Seen) (new : World) → given_by event seen ≡ None → HasLineage h past new →
      ((number : ℕ) → TellsDone number seen → (number ≤ new.master.last) × AllHaveObeyed h past new number) → ((c : WebCopy ℕ) → ServesCopy seen c → ⊥) →
      IsRight h past w.master.admissions event (Ends seen new)
  end_right event seen new silent kept tells none = record {
    lineage = counted h past event seen new silent record { lineage = kept; tells = tells };
    serves_none = none;
  }

  quiet_right : (event : WorldEvent) (new : World) → given_by event Nothing ≡ None → HasLineage h past new →
      IsRight h past w.master.admissions event (Ends Nothing new)
  quiet_right event new silent kept = end_right event Nothing new silent kept (λ number t. absurd t) (λ c s. absurd s)

  -- The master

  reported_right : (event : WorldEvent) (number : ℕ) (new : World) →
      ((s : Seen) → given_by event (Reported number (status_of (nodes_of h) new.master number)) ≡ None) → HasLineage h past new →
      IsRight h past w.master.admissions event (reports h new number)
  reported_right event number new silent kept = end_right event (Reported number (status_of (nodes_of h) new.master number)) new (silent Nothing) kept
      (λ n t. reported_obeyed h proper past new kept number n t) (λ c s. absurd s)

  acknowledged_right : (which : ℕ) (number code : ℕ) (o : Option ℕ) →
      ((id : ℕ) → o ≡ Some id → is_acknowledging code ≡ true → HasObeyed past (node_at w.states id) number) →
      IsRight h past w.master.admissions (world.Datagram which) (acknowledged_by h w number code o)
  acknowledged_right which number code None raised = quiet_right (world.Datagram which) w refl lineage
  acknowledged_right which number code (Some id) raised =
      reported_right (world.Datagram which) number (with_master w (acknowledged (nodes_of h) w.master id number code).purges) (λ s. refl)
      (acknowledge_keeps h proper past w lineage id number code (raised id refl))

  master_htcp_right : (which : ℕ) (sender : Address) (minor trans : ℕ) (c : Content) →
      ((number : ℕ) → acknowledged_by_message (message.Htcp record { minor = minor; trans = trans; content = c }) ≡ Some number → (id : ℕ) →
      member_at h sender udp.Htcp ≡ Some id → HasObeyed past (node_at w.states id) number) →
      IsRight h past w.master.admissions (world.Datagram which) (master_hears_htcp h w sender trans c)
  master_htcp_right which sender minor trans (content.ClrAnswer code) raised =
      acknowledged_right which trans code (member_at h sender udp.Htcp) (λ id from counts. raised trans (ap (λ b. cond b (Some trans) None) counts) id from)
  master_htcp_right which sender minor trans _ raised = quiet_right (world.Datagram which) w refl lineage

  master_right : (which : ℕ) (sender : Address) (m : Message) →
      ((number : ℕ) → acknowledged_by_message m ≡ Some number → (id : ℕ) → member_at h sender udp.Htcp ≡ Some id →
      HasObeyed past (node_at w.states id) number) → IsRight h past w.master.admissions (world.Datagram which) (master_hears h w sender m)
  master_right which sender (message.Icp m) raised = quiet_right (world.Datagram which) w refl lineage
  master_right which sender (message.Htcp m) raised = master_htcp_right which sender m.minor m.trans m.content raised

  issue_right : (key : List ℕ) → IsKey key → (o : Option MasterFault) → issue_fault w.master ≡ o →
      IsRight h past w.master.admissions (world.Issue key) (issue_by h w key o)
  issue_right key is_key (Some fault) left = end_right (world.Issue key) (NotIssued fault) w refl lineage (λ number t. absurd t) (λ c s. absurd s)
  issue_right key is_key None left =
      record { lineage = issue_keeps h proper past w lineage key is_key (left_number w.master left); serves_none = λ c s. absurd s }

  admit_right : (id : ℕ) (o : Option MasterFault) → admit_fault (nodes_of h) w.master id ≡ o →
      IsRight h past w.master.admissions (world.Admit id) (admit_by h w id o)
  admit_right id (Some fault) left = end_right (world.Admit id) (NotAdmitted fault) w refl lineage (λ number t. absurd t) (λ c s. absurd s)
  admit_right id None left =
      record {
        lineage = admit_keeps h proper past w lineage id (left_number w.master (left_admission (nodes_of h) w.master id left));
        serves_none = λ c s. absurd s;
      }

  -- Deliveries

  to_right : (event : WorldEvent) (sender : Address) (m : Message) (by : Udp) (address : Address) →
      (is_master h sender ≡ true → (id : ℕ) → member_at h address by ≡ Some id → IsClearFor h past w.master.admissions id m) →
      (o : Option ℕ) → member_at h address by ≡ o → IsRight h past w.master.admissions event (delivered_to w sender m o)
  to_right event sender m by address right None at = tt
  to_right event sender m by address right (Some id) at = record { comes = λ master. right master id at; member = member_at_known h by address id at }

  octets_reach_right : (to sender : Address) (octets : List ℕ) (by : Udp) (id : ℕ) → is_master h sender ≡ false → member_at h to by ≡ Some id →
      (o : Option Message) → IsRight h past w.master.admissions (world.Strange to sender octets) (octets_reach w sender id o)
  octets_reach_right to sender octets by id other at None = quiet_right (world.Strange to sender octets) w refl lineage
  octets_reach_right to sender octets by id other at (Some m) =
      to_right (world.Strange to sender octets) sender m by to (λ master who found. absurd (true_not_false (sym master ∙ other))) (Some id) at

  octets_right : (to sender : Address) (octets : List ℕ) → is_master h sender ≡ false → (icp htcp : Option ℕ) → member_at h to udp.Icp ≡ icp →
      member_at h to udp.Htcp ≡ htcp → IsRight h past w.master.admissions (world.Strange to sender octets) (octets_come w sender octets icp htcp)
  octets_right to sender octets other (Some id) htcp by_icp by_htcp = octets_reach_right to sender octets udp.Icp id other by_icp
      (decoded_by udp.Icp octets)
  octets_right to sender octets other None (Some id) by_icp by_htcp = octets_reach_right to sender octets udp.Htcp id other by_htcp
      (decoded_by udp.Htcp octets)
  octets_right to sender octets other None None by_icp by_htcp = tt

  delivered_right : (which : ℕ) (o : Option Datagram) → item w.datagrams which ≡ o → IsRight h past w.master.admissions (world.Datagram which) (delivered h w o)
  delivered_right which None is = tt
  delivered_right which (Some d) is =
      let masters : IsMastersRightly h past w.master.admissions d =
      all_item (IsMastersRightly h past w.master.admissions) w.datagrams which d lineage.masters is in
      let obeyed : IsObeyed h past w.states d = all_item (IsObeyed h past w.states) w.datagrams which d lineage.obeyed is in
      branches (IsRight h past w.master.admissions (world.Datagram which)) (is_master h d.receiver) (master_hears h w d.sender d.message)
      (delivered_to w d.sender d.message (member_at h d.receiver (udp_of d.message)))
      (λ to_master. master_right which d.sender d.message (obeyed to_master))
      (λ _. to_right (world.Datagram which) d.sender d.message (udp_of d.message) d.receiver masters (member_at h d.receiver (udp_of d.message)) refl)

  ask_right : (which : ℕ) (o : Option PeerAsk) → IsRight h past w.master.admissions (world.Ask which) (ask_delivered h w o)
  ask_right which None = tt
  ask_right which (Some a) = at_member_right (world.Ask which) a.receiver (NodeSteps a.receiver (event.PeerAsk a.sender a.ask w.clock) a.serial)
      (λ member. record { comes = tt; member = member })

  answer_right : (which : ℕ) (serial : Option ℕ) (o : Option PeerAnswer) → item w.answers which ≡ o →
      IsRight h past w.master.admissions (world.Answer which serial) (answer_delivered h w serial o)
  answer_right which serial None is = tt
  answer_right which serial (Some a) is =
      at_member_right (world.Answer which serial) a.receiver
      (NodeSteps a.receiver (event.PeerAnswer (unwrap_or serial a.serial) a.sender a.key a.answer a.mark w.clock) 0)
      (λ member. record { comes = all_item (IsSentAnswer past) w.answers which a lineage.answers is; member = member })

  -- Responses from outside

  origin_by_right : (id serial : ℕ) (answer : AnswerText) (key : List ℕ) (fetch : Fetch ℕ) → is_member h id ≡ true →
      IsRight h past w.master.admissions (world.Origin id serial answer) (origin_by w id serial answer key fetch)
  origin_by_right id serial answer key (AtOrigin stamp asked mark) member = record { comes = tt; member = member }
  origin_by_right id serial answer key (AtPeer peer asked) member = tt
  origin_by_right id serial answer key Nowhere member = tt

  origin_right : (id serial : ℕ) (answer : AnswerText) (o : Option (Pending ℕ)) → is_member h id ≡ true →
      IsRight h past w.master.admissions (world.Origin id serial answer) (origin_to w id serial answer o)
  origin_right id serial answer None member = tt
  origin_right id serial answer (Some p) member = origin_by_right id serial answer p.ask.key p.fetch member

  foreign_by_right : (id serial : ℕ) (answer : AnswerText) (key : List ℕ) (fetch : Fetch ℕ) → is_member h id ≡ true →
      IsRight h past w.master.admissions (world.Foreign id serial answer) (foreign_by w id serial answer key fetch)
  foreign_by_right id serial answer key (AtPeer peer asked) member =
      branches (IsRight h past w.master.admissions (world.Foreign id serial answer)) (is_foreign_id peer) _ _ (λ _. record { comes = tt; member = member })
      (λ _. tt)
  foreign_by_right id serial answer key (AtOrigin stamp asked mark) member = tt
  foreign_by_right id serial answer key Nowhere member = tt

  foreign_right : (id serial : ℕ) (answer : AnswerText) (o : Option (Pending ℕ)) → is_member h id ≡ true →
      IsRight h past w.master.admissions (world.Foreign id serial answer) (foreign_to w id serial answer o)
  foreign_right id serial answer None member = tt
  foreign_right id serial answer (Some p) member = foreign_by_right id serial answer p.ask.key p.fetch member

  -- Faults and restarts

  closed_joins : (id : ℕ) → IsOutside (node_at w.states id) ⊎ IsAdmitted past id (node_at w.states id) →
      IsOutside (closed_node (node_at w.states id)) ⊎ IsAdmitted past id (closed_node (node_at w.states id))
  closed_joins id was = elim was [
    | inl is ↦ inl (record { base = is.base; copies = λ is_open. absurd (true_not_false is_open); pending = refl })
    | inr is ↦ inr (record { number = is.number; item = is.item; base = is.base; copies = λ is_open. absurd (true_not_false is_open) })
  ]

  opened_joins : (id : ℕ) → IsOutside (node_at w.states id) ⊎ IsAdmitted past id (node_at w.states id) →
      IsOutside (opened (node_at w.states id).floors) ⊎ IsAdmitted past id (opened (node_at w.states id).floors)
  opened_joins id was = elim was [
    | inl is ↦ inl (record { base = is.base; copies = λ is_open. refl; pending = refl })
    | inr is ↦ inr (record { number = is.number; item = is.item; base = is.base; copies = λ is_open. tt })
  ]

  closed_right : (id : ℕ) → NodeHasLineage h past id (closed_node (node_at w.states id))
  closed_right id = record {
    seen_issued = (lineage.nodes id).seen_issued;
    copies = λ is_open. absurd (true_not_false is_open);
    reads = tt;
    above = λ is_open. absurd (true_not_false is_open);
    joins = λ joins. closed_joins id ((lineage.nodes id).joins joins);
  }

  opened_right : (id : ℕ) → NodeHasLineage h past id (opened (node_at w.states id).floors)
  opened_right id = record {
    seen_issued = (lineage.nodes id).seen_issued;
    copies = λ is_open. tt;
    reads = tt;
    above = λ is_open. tt;
    joins = λ joins. opened_joins id ((lineage.nodes id).joins joins);
  }

  -- each event's consequence is right
  pub consequence_right : (event : WorldEvent) → IsOfKey event → IsRight h past w.master.admissions event (consequence h w event)
  consequence_right (world.Clock now) key = quiet_right (world.Clock now) (with_clock w now) refl (clock_keeps h proper past w lineage now)
  consequence_right (world.Client id ask) key = at_member_right (world.Client id ask) id (NodeSteps id (event.Client ask w.clock) 0)
      (λ member. record { comes = tt; member = member })
  consequence_right (world.Datagram number) key = delivered_right number (item w.datagrams number) refl
  consequence_right (world.Ask number) key = ask_right number (item w.asks number)
  consequence_right (world.Answer number serial) key = answer_right number serial (item w.answers number) refl
  consequence_right (world.Origin id serial answer) key = at_member_right (world.Origin id serial answer) id _
      (origin_right id serial answer (fetching_at w id serial))
  consequence_right (world.Foreign id serial answer) key = at_member_right (world.Foreign id serial answer) id _
      (foreign_right id serial answer (fetching_at w id serial))
  consequence_right (world.Fail id serial) key = at_member_right (world.Fail id serial) id (NodeSteps id (event.FetchFailed serial w.clock) 0)
      (λ member. record { comes = tt; member = member })
  consequence_right (world.Expire id serial) key = at_member_right (world.Expire id serial) id (NodeSteps id (event.Expired serial w.clock) 0)
      (λ member. record { comes = tt; member = member })
  consequence_right (world.Fault id) key = at_member_right (world.Fault id) id _
      (λ member. quiet_right (world.Fault id) (with_member_state w id (closed_node (node_at w.states id))) refl
      (silent_keeps h past w lineage id _ (rises_itself (node_at w.states id).floors) (closed_right id)))
  consequence_right (world.Restart id) key = at_member_right (world.Restart id) id _
      (λ member. quiet_right (world.Restart id) (with_member_state w id (opened (node_at w.states id).floors)) refl
      (silent_keeps h past w lineage id _ (rises_itself (node_at w.states id).floors) (opened_right id)))
  consequence_right (world.Issue key) is_key = issue_right key is_key (issue_fault w.master) refl
  consequence_right (world.Admit id) key = admit_right id (admit_fault (nodes_of h) w.master id) refl
  consequence_right world.Resend key = quiet_right world.Resend _ refl (resend_keeps h proper past w lineage)
  consequence_right (world.Status number) key = reported_right (world.Status number) number w (λ s. refl) lineage
  consequence_right world.RestartMaster key = quiet_right world.RestartMaster w refl lineage
  consequence_right (world.Strange to sender octets) key =
      branches (IsRight h past w.master.admissions (world.Strange to sender octets)) (is_own h sender) (Refused NoSuchPacket) _ (λ _. tt)
      (λ strange. octets_right to sender octets (or_false (is_master h sender) _ strange) (member_at h to udp.Icp) (member_at h to udp.Htcp) refl refl)

-- a node's step gives no number
gives_nothing : (event : WorldEvent) (id : ℕ) (outcome : Result (Reply ℕ) StepFault) → given_by event (Replied id outcome) ≡ None
gives_nothing (world.Issue key) id outcome = refl
gives_nothing (world.Admit who) id outcome = refl
gives_nothing _ id outcome = refl

module _ (h : Tables) (proper : IsRoster h) (past : List Step) (old : World) (lineage : HasLineage h past old) (event : WorldEvent) (seen : Seen) (new : World)
  where
    takes_on : (t : Consequence) → IsRight h past old.master.admissions event t → Takes h (length past + 1) old t seen new →
        HasLineage h (with_step past event seen) new
    takes_on (NodeSteps id e serial) right (outcome, next, steps, is_seen, is_new) =
        let law = steps_are_lawful (setting h id) (node_at old.states id) e (length past + 1) outcome next steps in
        let kept : HasLineage h past (after_node h old id e serial outcome next) =
        takes_keeps h proper past old lineage id right.member e right.comes serial outcome next steps
        law
        in
        rw (is_seen, is_new) (counted h past event (Replied id outcome) (after_node h old id e serial outcome next) (gives_nothing event id outcome) record
        { lineage = kept; tells = λ number t. absurd t })
    takes_on (Ends what world) right (is_seen, is_new) = rw (is_seen, is_new) right.lineage
    takes_on (Refused fault) right takes = absurd takes

    -- each event keeps the invariant
    pub happens_keeps : Happens h (length past + 1) old event seen new → HasLineage h (past ++ record { event = event; seen = seen } ∷ []) new
    happens_keeps (key, takes) = subst (λ steps. HasLineage h steps new) (as_step past event seen)
        (takes_on (consequence h old event) (consequence_right h proper past old lineage event key) takes)
