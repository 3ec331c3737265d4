-- A report of the master's book is a report in the world. The entry of a last acknowledgement
-- stands for a datagram that makes the master report, and the number is pending no more, so it is
-- done; the entry of a status stands for the same status.
use Rattle.std.proofs.Common.{◌≡◌, ℕ, ◌+◌, ◌≤◌, Bool, true, false, cond, not, ◌||◌, ◌&&◌, List, [], ◌∷◌, filter, length, Option, Some, None, Result, Ok}
use Rattle.std.proofs.Common.{refl, sym, ◌∙◌, ap, subst, nat_eq, nat_lt, inl, inr, arith}
use Rattle.std.specs.Prelude.{find}
use Rattle.std.proofs.lemmas.Option.{none-some, same_Some}
use Rattle.htcp_wire.specs.declared.message.Content.{Content}
use Rattle.htcp_wire.specs.declared.message.Content.TheVariants as content
use Rattle.values_plain.specs.declared.address.Address.{Address}
use Rattle.values_tables.specs.declared.plain.Tables.{Tables}
use Rattle.values_plain.specs.declared.address.Udp.TheVariants as udp
use Rattle.roster.specs.Judged.{IsRoster}
use Rattle.roster.specs.Lookups.{is_master, member_at}
use Rattle.node_rules.specs.declared.message.Message.{Message}
use Rattle.node_rules.specs.declared.message.Message.TheVariants as message
use Rattle.node_rules.proofs.Cases.{branches}
use Rattle.node_rules.proofs.Pendings.{found, found_passes}
use Rattle.purge_rules.specs.declared.nodes.Nodes.{Nodes}
use Rattle.purge_rules.specs.declared.purges.Purge.{Purge}
use Rattle.purge_rules.specs.declared.purges.Admission.{Admission}
use Rattle.purge_rules.specs.declared.calls.Status.{Status}
use Rattle.purge_rules.specs.declared.calls.Status.TheVariants as status
use Rattle.purge_rules.specs.declared.calls.MasterCall.{MasterCall}
use Rattle.purge_rules.specs.declared.calls.MasterCall.TheVariants as call
use Rattle.purge_rules.specs.declared.calls.MasterAnswer.{MasterAnswer}
use Rattle.purge_rules.specs.declared.calls.MasterAnswer.TheVariants as answer
use Rattle.purge_rules.specs.declared.fault.MasterFault.{MasterFault}
use Rattle.purge_rules.specs.Members.{is_among, are_among, with_id}
use Rattle.purge_rules.specs.Needed.{nodes_of, admission_in, needed}
use Rattle.purge_rules.specs.Purges.{PurgeList, is_numbered, pending_at, admission_at, admission_marks, marks_by, marks_at, with_mark, ended, ended_at}
use Rattle.purge_rules.specs.Purges.{with_done}
use Rattle.purge_rules.specs.Calls.{MasterState, Called, Acknowledged, unchanged, counted, acknowledged, missing, status_by, status_of, called}
use Rattle.purge_rules.specs.Calls.{closed_call, open_call}
use Rattle.htcp_wire.specs.Clearing.{is_acknowledging}
use Rattle.purge_rules.specs.Calls.{Calls as MasterCalls}
use Rattle.world_rules.specs.declared.event.WorldEvent.{WorldEvent}
use Rattle.world_rules.specs.declared.event.WorldEvent.TheVariants as world
use Rattle.node_rules.specs.Messages.{protocol_of as udp_of}
use Rattle.world_rules.specs.World.{World, Datagram, item}
use Rattle.world_rules.specs.Consequence.{Seen, Reported, Nothing, Consequence, Ends, with_master, reports, acknowledged_by, master_hears_htcp, master_hears}
use Rattle.world_rules.specs.Consequence.{delivered_to, delivered}
use Rattle.world_rules.specs.Run.{Step, Run, Takes, Happens, IsItem, Given, OfPurge, OfAdmission, numbers, IsIssuedAt, IsReportedAt}
use Rattle.world_rules.specs.Lineage.{PurgeHasLineage, AdmissionHasLineage, HasLineage}
use Rattle.world_rules.proofs.Items.{item_within}
use Rattle.world_rules.proofs.Runs.{run_lineage}
use Rattle.world_rules.proofs.MemberStates.{ids_same, pending-found}
use Rattle.run_rules.specs.Notes.{Note, Opens, Steps, Closes, Calls}
use Rattle.run_rules.specs.Recorded.{Progress, Goes, CallsIn, event_step}
use Rattle.run_laws.specs.Entries.{Issues, Reports}
use Rattle.run_laws.proofs.Placing.{IsReached, Placed}

-- A datagram that makes the master report a number's status

abbrev reported_number : Seen → ℕ
reported_number (Reported number s) = number
reported_number _ = 0

abbrev reported_status : Seen → Status
reported_status (Reported number s) = s
reported_status _ = status.Unknown

module _ (t : Tables) (place : ℕ) (w : World) (number : ℕ) (s : Status) (new : World) where
  -- a consequence that is seen so reports the status in the world that it leaves
  abbrev TellsRight : Consequence → Type 0
  TellsRight consequence = Takes t place w consequence (Reported number s) new → s ≡ status_of (nodes_of t) new.master number

  reported_right : (which : ℕ) (left : World) → TellsRight (reports t left which)
  reported_right which left (is_seen, is_new) =
      ap reported_status is_seen
      ∙ ap (λ n. status_of (nodes_of t) left.master n) (sym (ap reported_number is_seen))
      ∙ ap (λ (x : World). status_of (nodes_of t) x.master number) (sym is_new)

  quiet_right : (left : World) → TellsRight (Ends Nothing left)
  quiet_right left (is_seen, is_new) = cc

  acknowledged_right : (trans code : ℕ) (o : Option ℕ) → TellsRight (acknowledged_by t w trans code o)
  acknowledged_right trans code None takes = quiet_right w takes
  acknowledged_right trans code (Some id) takes = reported_right trans (with_master w (acknowledged (nodes_of t) w.master id trans code).purges) takes

  htcp_right : (sender : Address) (trans : ℕ) (c : Content) → TellsRight (master_hears_htcp t w sender trans c)
  htcp_right sender trans (content.ClrAnswer code) takes = acknowledged_right trans code (member_at t sender udp.Htcp) takes
  htcp_right sender trans _ takes = quiet_right w takes

  hears_right : (sender : Address) (m : Message) → TellsRight (master_hears t w sender m)
  hears_right sender (message.Icp m) takes = quiet_right w takes
  hears_right sender (message.Htcp m) takes = htcp_right sender m.trans m.content takes

  member_right : (sender : Address) (m : Message) (o : Option ℕ) → TellsRight (delivered_to w sender m o)
  member_right sender m None takes = absurd takes
  member_right sender m (Some id) (outcome, next, steps, is_seen, is_new) = cc

  delivered_right : (o : Option Datagram) → TellsRight (delivered t w o)
  delivered_right None = λ takes. absurd takes
  delivered_right (Some d) =
      branches TellsRight (is_master t d.receiver) (master_hears t w d.sender d.message)
      (delivered_to w d.sender d.message (member_at t d.receiver (udp_of d.message)))
      (λ _. hears_right d.sender d.message) (λ _. member_right d.sender d.message (member_at t d.receiver (udp_of d.message)))

  datagram_tells : (which : ℕ) → Happens t place w (world.Datagram which) (Reported number s) new → s ≡ status_of (nodes_of t) new.master number
  datagram_tells which (key, takes) = delivered_right (item w.datagrams which) takes

-- The acknowledgement that makes a number done

-- the number was pending, and is done
record Finishes (before after : PurgeList) (trans number : ℕ) : Type 0 where
  same : number ≡ trans
  marks : List ℕ
  pending : marks_at before trans ≡ Some marks
  left : after ≡ with_done before trans

module _ (nodes : Nodes) (before : PurgeList) (id trans code number : ℕ) where
  abbrev Ending : Acknowledged → Type 0
  Ending a = a.done ≡ Some number → Finishes before a.purges trans number

  counted_ends : (needs : List ℕ) (o : Option (List ℕ)) → marks_at before trans ≡ o → Ending (counted needs before id trans o)
  counted_ends needs None is = λ done. absurd (none-some number done)
  counted_ends needs (Some marked) is =
      branches Ending (are_among needs (with_id id marked)) record { purges = with_done before trans; done = Some trans } record
      { purges = with_mark before trans id; done = None }
      (λ _ done. record { same = sym (same_Some trans number done); marks = marked; pending = is; left = refl })
      (λ _ done. absurd (none-some number done))

  acknowledged_ends : Ending (acknowledged nodes before id trans code)
  acknowledged_ends =
      let needs = needed nodes before.admissions trans in
      branches Ending (is_acknowledging code && is_among id needs) (counted needs before id trans (marks_at before trans)) (unchanged before)
      (λ _. counted_ends needs (marks_at before trans) refl) (λ _ done. absurd (none-some number done))

abbrev finished_in : Result MasterAnswer MasterFault → Option ℕ
finished_in (Ok (answer.Acknowledge finished)) = finished
finished_in _ = None

module _ (nodes : Nodes) (m next : MasterState) (id trans code number : ℕ) where
  abbrev Ends_so : Called → Type 0
  Ends_so c = c ≡ record { state = next; outcome = Ok (answer.Acknowledge (Some number)) } → Finishes m.purges next.purges trans number

  call_ends : Ends_so (called nodes m (call.Acknowledge id trans code))
  call_ends =
      branches Ends_so m.closed (closed_call nodes m (call.Acknowledge id trans code)) (open_call nodes m.purges (call.Acknowledge id trans code))
      (λ _ is. absurd (none-some number (ap (λ (c : Called). finished_in c.outcome) is)))
      (λ _ is. subst (λ (p : PurgeList). Finishes m.purges p trans number) (ap (λ (c : Called). c.state.purges) is)
      (acknowledged_ends nodes m.purges id trans code number (ap (λ (c : Called). finished_in c.outcome) is)))

-- What is done

not_true : (b : Bool) → not b ≡ true → b ≡ false
not_true true is = cc
not_true false is = refl

-- a purge that is done is not found
gone : (number : ℕ) (pending : List Purge) → find (is_numbered number) (filter (λ p. not (is_numbered number p)) pending) ≡ None
gone number [] = refl
gone number (p ∷ pending) =
    branches (λ (ps : List Purge). find (is_numbered number) ps ≡ None) (not (is_numbered number p)) (p ∷ filter (λ q. not (is_numbered number q)) pending)
    (filter (λ q. not (is_numbered number q)) pending)
    (λ stays. ap (λ b. cond b (Some p) (find (is_numbered number) (filter (λ q. not (is_numbered number q)) pending))) (not_true (is_numbered number p) stays)
    ∙ gone number pending)
    (λ _. gone number pending)

-- an admission that is done has no marks
ended_here : (number : ℕ) (admissions : List Admission) → admission_marks (admission_in (ended_at number admissions) number) ≡ None
ended_here number [] = refl
ended_here number (a ∷ admissions) =
    branches (λ (x : Admission). admission_marks (cond (nat_eq x.number number) (Some x) (admission_in (ended_at number admissions) number)) ≡ None)
    (nat_eq a.number number) (ended a) a
    (λ yes. ap (λ b. admission_marks (cond b (Some (ended a)) (admission_in (ended_at number admissions) number))) yes)
    (λ no. ap (λ b. admission_marks (cond b (Some a) (admission_in (ended_at number admissions) number))) no ∙ ended_here number admissions)

marks_gone : (number : ℕ) (purges : PurgeList) → marks_at (with_done purges number) number ≡ None
marks_gone number purges =
    ap (λ (o : Option Purge). marks_by o (admission_at (with_done purges number) number)) (gone number purges.pending) ∙ ended_here number purges.admissions

done_status : (nodes : Nodes) (all : PurgeList) (number : ℕ) → 1 ≤ number → number ≤ all.last → marks_at all number ≡ None →
    status_of nodes all number ≡ status.Done
done_status nodes all number low high none =
    branches (λ s. s ≡ status.Done) (nat_eq number 0 || nat_lt all.last number) status.Unknown
    (status_by (missing nodes all number) (marks_at all number))
    (λ unknown. absurd (grind (arith, unknown, low, high))) (λ _. ap (status_by (missing nodes all number)) none)

module _ (t : Tables) (proper : IsRoster t) (from : Progress) (reached : IsReached t from) where
  lineage : HasLineage t reached.past from.world
  lineage = run_lineage t proper reached.past from.world reached.run

  -- a pending number was given

  item_given : (number : ℕ) (given : Given) → IsItem (numbers reached.past) number given → (1 ≤ number) × (number ≤ from.world.master.last)
  item_given number given it = (it.0, omega (arith, item_within (numbers reached.past) number given it, lineage.last))

  purge_given : (number : ℕ) (p : Purge) → pending_at from.world.master number ≡ Some p → (1 ≤ number) × (number ≤ from.world.master.last)
  purge_given number p is =
      let it : PurgeHasLineage reached.past from.world.states p = found (PurgeHasLineage reached.past from.world.states) (is_numbered number)
      from.world.master.pending p lineage.pending is in
      subst (λ n. (1 ≤ n) × (n ≤ from.world.master.last)) (pending-found from.world.master.pending number p is) (item_given p.number (OfPurge p.key) it.item)

  admission_given : (number : ℕ) (marks : List ℕ) (o : Option Admission) → admission_at from.world.master number ≡ o → admission_marks o ≡ Some marks →
      (1 ≤ number) × (number ≤ from.world.master.last)
  admission_given number marks None is e = absurd (none-some marks e)
  admission_given number marks (Some a) is e =
      let it : AdmissionHasLineage reached.past a = found (AdmissionHasLineage reached.past) (λ (b : Admission). nat_eq b.number number)
      from.world.master.admissions a lineage.admissions is in
      subst (λ n. (1 ≤ n) × (n ≤ from.world.master.last))
      (ids_same a.number number (found_passes (λ (b : Admission). nat_eq b.number number) from.world.master.admissions a is))
      (item_given a.number (OfAdmission a.member) it)

  given_by_purge : (number : ℕ) (marks : List ℕ) (o : Option Purge) → pending_at from.world.master number ≡ o →
      marks_by o (admission_at from.world.master number) ≡ Some marks → (1 ≤ number) × (number ≤ from.world.master.last)
  given_by_purge number marks (Some p) is e = purge_given number p is
  given_by_purge number marks None is e = admission_given number marks (admission_at from.world.master number) refl e

  pending_given : (number : ℕ) (marks : List ℕ) → marks_at from.world.master number ≡ Some marks → (1 ≤ number) × (number ≤ from.world.master.last)
  pending_given number marks is = given_by_purge number marks (pending_at from.world.master number) refl is

  finished_status : (next : PurgeList) (trans number : ℕ) → Finishes from.master.purges next trans number → status_of (nodes_of t) next trans ≡ status.Done
  finished_status next trans number it =
      let (low, high) = pending_given trans it.marks (ap (λ (p : PurgeList). marks_at p trans) reached.master ∙ it.pending) in
      ap (λ (p : PurgeList). status_of (nodes_of t) p trans) it.left
      ∙ done_status (nodes_of t) (with_done from.master.purges trans) trans low (subst (λ (p : PurgeList). trans ≤ p.last) reached.master high)
      (marks_gone trans from.master.purges)

  -- the event that an entry stands for reports the number done
  record IsDoneBy (here : List Step) (number : ℕ) : Type 0 where
    happens : WorldEvent
    is : here ≡ event_step happens (Reported number status.Done) ∷ []

  acknowledgement_reports : (to : Progress) (here : List Step) (id trans code number : ℕ) (next : MasterState) →
      MasterCalls (nodes_of t) from.master (call.Acknowledge id trans code) (Ok (answer.Acknowledge (Some number))) next →
      CallsIn t from (call.Acknowledge id trans code) (Ok (answer.Acknowledge (Some number))) here → Goes t from here next to → IsDoneBy here number
  acknowledgement_reports to here id trans code number next calls (which, d, tells, there, its, these) goes =
      let ends : Finishes from.master.purges next.purges trans number = call_ends (nodes_of t) from.master next id trans code number calls in
      let (middle, happens, same) : Run t from.place from.world (event_step (world.Datagram which) (Reported trans tells) ∷ []) to.world =
      subst (λ (s : List Step). Run t from.place from.world s to.world) these goes.run in
      let left : middle.master ≡ next.purges = ap (λ (w : World). w.master) (sym same) ∙ goes.purges ∙ ap (λ (m : MasterState). m.purges) goes.master in
      let is_done : tells ≡ status.Done =
      datagram_tells t from.place from.world trans tells middle which happens
      ∙ ap (λ (p : PurgeList). status_of (nodes_of t) p trans) left
      ∙ finished_status next.purges trans number ends in
      record {
        happens = world.Datagram which;
        is = these ∙ ap (λ s. event_step (world.Datagram which) (Reported trans s) ∷ []) is_done
            ∙ ap (λ n. event_step (world.Datagram which) (Reported n status.Done) ∷ []) (sym ends.same);
      }

  acknowledge_reports : (to : Progress) (here : List Step) (c : MasterCall) (number : ℕ) (next : MasterState) →
      MasterCalls (nodes_of t) from.master c (Ok (answer.Acknowledge (Some number))) next → CallsIn t from c (Ok (answer.Acknowledge (Some number))) here →
      Goes t from here next to → IsDoneBy here number
  acknowledge_reports to here (call.Acknowledge id trans code) number next calls these goes =
      acknowledgement_reports to here id trans code number next calls these goes
  acknowledge_reports to here _ number next calls these goes = absurd these

-- The first event of a note

first_is : (here : List Step) (step : Step) → here ≡ step ∷ [] → IsItem here 1 step
first_is here step is = subst (λ (s : List Step). IsItem s 1 step) (sym is) (omega arith, refl)

abbrev DoneReported : (t : Tables) (steps : List Step) (note : Note) → Placed t steps note → ℕ → Type 0
DoneReported t steps note it number = IsReportedAt steps (it.offset + 1) number × (1 ≤ length it.here)

is_reported : (t : Tables) (steps : List Step) (note : Note) (it : Placed t steps note) (happens : WorldEvent) (number : ℕ) →
    it.here ≡ event_step happens (Reported number status.Done) ∷ [] → DoneReported t steps note it number
is_reported t steps note it happens number is =
    let step : Step = event_step happens (Reported number status.Done) in
    ((step, it.at 1 step (first_is it.here step is), refl), subst (λ (s : List Step). 1 ≤ length s) (sym is) (omega arith))

pub reports_done : (t : Tables) → IsRoster t → (steps : List Step) (note : Note) (it : Placed t steps note) (number : ℕ) → Reports note number →
    DoneReported t steps note it number
reports_done t proper steps (Calls e is_closed) it number (inl acknowledges) =
    let (next, calls, these, goes) = it.stands in
    let by = acknowledge_reports t proper it.from it.reached it.to it.here e.call number next
    (subst (λ a. MasterCalls (nodes_of t) it.from.master e.call a next) acknowledges calls)
    (subst (λ a. CallsIn t it.from e.call a it.here) acknowledges these) goes in
    is_reported t steps (Calls e is_closed) it by.happens number by.is
reports_done t proper steps (Calls e is_closed) it number (inr (asks, tells)) =
    let (next, calls, these, goes) = it.stands in
    let is : it.here ≡ event_step (world.Status number) (Reported number status.Done) ∷ [] =
    subst (λ a. CallsIn t it.from (call.Status number) a it.here) tells (subst (λ c. CallsIn t it.from c e.answer it.here) asks these) in
    is_reported t steps (Calls e is_closed) it (world.Status number) number is
reports_done t proper steps (Opens id state) it number gives = absurd gives
reports_done t proper steps (Steps id e is_closed kept) it number gives = absurd gives
reports_done t proper steps (Closes id place state) it number gives = absurd gives

pub issues_purge : (t : Tables) (steps : List Step) (note : Note) (it : Placed t steps note) (number : ℕ) (key : List ℕ) → Issues note number key →
    IsIssuedAt steps (it.offset + 1) number key
issues_purge t steps (Calls e is_closed) it number key (issues, gives) =
    let (next, calls, these, goes) = it.stands in
    it.at 1 _
    (first_is it.here _ (subst (λ a. CallsIn t it.from (call.Issue key) a it.here) gives (subst (λ c. CallsIn t it.from c e.answer it.here) issues these)))
issues_purge t steps (Opens id state) it number key issues = absurd issues
issues_purge t steps (Steps id e is_closed kept) it number key issues = absurd issues
issues_purge t steps (Closes id place state) it number key issues = absurd issues
