-- The invariant over one more step. If the step gives no number, the numbers stay the same, so what
-- held still holds. If it issues a purge or admits a member, that gets the next number, and is pending.
use Rattle.std.proofs.Common.{◌≡◌, ℕ, ◌+◌, ◌≤◌, not, ◌&&◌, ◌||◌, List, [], ◌∷◌, ◌++◌, length, Option, Some, None, refl, sym, ◌∙◌, ap, subst, nat_eq}
use Rattle.std.proofs.Common.{nat_le, inl, inr, arith}
use Rattle.std.proofs.Common.{length-append, true}
use Rattle.std.specs.Prelude.{◌≢◌, ◌⊎◌, if◌then◌else◌}
use Rattle.std.specs.List.{AllByRecursion}
use Rattle.std.proofs.Math.Decide.{ℕ_discrete}
use Rattle.std.proofs.lemmas.Option.{none-some}
use Rattle.roster.specs.Lookups.{member_of}
use Rattle.roster.specs.Judged.{IsRoster}
use Rattle.node_rules.proofs.Cases.{branches, true_not_false}
use Rattle.node_rules.proofs.Pendings.{all_mapped, all_joined}
use Rattle.purge_rules.specs.declared.nodes.Nodes.{Nodes}
use Rattle.purge_rules.specs.declared.purges.Admission.{Admission}
use Rattle.purge_rules.specs.declared.fault.MasterFault.{MasterFault}
use Rattle.purge_rules.specs.declared.fault.MasterFault.TheVariants.{NumbersSpent, TooManyPending, NotJoining}
use Rattle.purge_rules.specs.Members.{is_among}
use Rattle.purge_rules.specs.Needed.{nodes_of, admission_in, needs_by, needs}
use Rattle.purge_rules.specs.Purges.{PurgeList, admission_at, is_admitted, pending_count, marks_at, unmarked, with_purge, admission_of, with_admission}
use Rattle.purge_rules.specs.Calls.{issue_fault, admit_fault}
use Rattle.purge_rules.specs.Clear.{base_clear}
use Rattle.url_key.specs.Key.{IsKey}
use Rattle.values_tables.specs.declared.plain.Tables.{Tables}
use Rattle.world_rules.specs.declared.event.WorldEvent.{WorldEvent}
use Rattle.world_rules.specs.declared.event.WorldEvent.TheVariants.{Issue, Admit}
use Rattle.world_rules.specs.World.{Datagram, World, node_at}
use Rattle.world_rules.specs.Consequence.{Seen, Issued, Admitted, with_master, with_sent, clear_to, clears_of}
use Rattle.world_rules.specs.Run.{Step, IsItem, Given, OfPurge, OfAdmission, given_by, numbers, TellsDone, IsReportedAt}
use Rattle.world_rules.specs.Lineage.{IsMastersRightly, IsObeyed, PurgeHasLineage, AdmissionHasLineage, is_listed, AllHaveObeyed, HasLineage}
use Rattle.world_rules.proofs.Items.{item_pushed, item_cases, item_last, item_within, append_nil}
use Rattle.world_rules.proofs.Issues.{numbers-append}
use Rattle.world_rules.proofs.MemberStates.{same_id}
use Rattle.world_rules.proofs.Marks.{find_last, any_front, any_last, none_above, purge_pushed, purge_pending, admission_pushed, admission_pending}
use Rattle.world_rules.proofs.Needing.{agree_pushed}
use Rattle.world_rules.proofs.Later.{grows_itself, Extends, extends_by, Agree, agrees_itself, node_later, answers_later, masters_later, obeyed_later}
use Rattle.world_rules.proofs.Later.{purges_later}
use Rattle.world_rules.proofs.Later.{admissions_later, all_later}
use Rattle.world_rules.proofs.MasterConsequences.{to_right, to_obeyed, new_right, new_obeyed}

-- these steps, and then one more
pub with_step : List Step → WorldEvent → Seen → List Step
with_step past event seen = past ++ record { event = event; seen = seen } ∷ []

pub as_step : (past : List Step) (event : WorldEvent) (seen : Seen) → with_step past event seen ≡ past ++ record { event = event; seen = seen } ∷ []
unfolding with_step
as_step past event seen = refl

extends_step : (past : List Step) (event : WorldEvent) (seen : Seen) → Extends past (with_step past event seen)
unfolding with_step
extends_step past event seen = extends_by past (record { event = event; seen = seen } ∷ [])

-- what holds after an event that gives no number, before its step is added
pub record Leaves (h : Tables) (past : List Step) (seen : Seen) (w : World) : Type 0 where
  pub lineage : HasLineage h past w
  pub tells : (number : ℕ) → TellsDone number seen → (number ≤ w.master.last) × AllHaveObeyed h past w number

module _ (h : Tables) (past : List Step) (event : WorldEvent) (seen : Seen) (w : World) (silent : given_by event seen ≡ None) (leaves : Leaves h past seen w)
  where
    step_all : (number : ℕ) → number ≤ w.master.last → AllHaveObeyed h past w number → AllHaveObeyed h (with_step past event seen) w number
    step_all number low = all_later past (with_step past event seen) (extends_step past event seen) h w w (grows_itself w.states)
        (agrees_itself h (length (numbers past)) w.master.admissions) number (omega (arith, leaves.lineage.last, low))

    step_same : numbers (with_step past event seen) ≡ numbers past
    unfolding with_step
    step_same =
        let e : numbers (record { event = event; seen = seen } ∷ []) ≡ [] = rw silent in
        numbers-append past (record { event = event; seen = seen } ∷ []) ∙ ap (λ l. numbers past ++ l) e ∙ append_nil (numbers past)

    step_last : w.master.last ≡ length (numbers (with_step past event seen))
    step_last = leaves.lineage.last ∙ sym (ap length step_same)

    step_reported : (place number : ℕ) → IsReportedAt (with_step past event seen) place number →
        (number ≤ w.master.last) × AllHaveObeyed h (with_step past event seen) w number
    unfolding with_step
    step_reported place number (step, is, tells) = elim (item_cases past (record { event = event; seen = seen }) place step is) [
      | inl was ↦ let had = leaves.lineage.reported place number (step, was, tells) in (had.0, step_all number had.0 had.1)
      | inr this ↦ let had = leaves.tells number (rw (← this) at tells) in (had.0, step_all number had.0 had.1)
    ]

    pub counted : HasLineage h (with_step past event seen) w
    counted = record {
      last = step_last;
      small = leaves.lineage.small;
      nodes = λ id. node_later past (with_step past event seen) (extends_step past event seen) h id (node_at w.states id) (leaves.lineage.nodes id);
      masters = masters_later past (with_step past event seen) (extends_step past event seen) h w.master.admissions w.master.admissions
          (agrees_itself h (length (numbers past)) w.master.admissions) w.datagrams leaves.lineage.masters;
      obeyed = obeyed_later past (with_step past event seen) (extends_step past event seen) h w.states w.states (grows_itself w.states) w.datagrams
          leaves.lineage.obeyed;
      answers = answers_later past (with_step past event seen) (extends_step past event seen) w.answers leaves.lineage.answers;
      pending = purges_later past (with_step past event seen) (extends_step past event seen) h w.states w.states (grows_itself w.states) w.master.pending
          leaves.lineage.pending;
      admissions = admissions_later past (with_step past event seen) (extends_step past event seen) w.master.admissions leaves.lineage.admissions;
      listed = λ number id item. leaves.lineage.listed number id (subst (λ items. IsItem items number (OfAdmission id)) step_same item);
      done = λ number low high none. step_all number high (leaves.lineage.done number low high none);
      reported = step_reported;
    }

-- A number is given

-- if the master gives a number, it is at most 2^32 - 1
pub left_number : (m : PurgeList) → issue_fault m ≡ None → m.last + 1 ≤ 4294967295
left_number m e =
    (branches (λ (o : Option MasterFault). o ≡ None → m.last + 1 ≤ 4294967295) (nat_le 4294967295 m.last) (Some NumbersSpent)
    (if nat_le 1024 (pending_count m) then Some TooManyPending else None)
    (λ spent f. absurd (none-some NumbersSpent (sym f))) (λ left f. grind (arith, left))) e

pub left_admission : (nodes : Nodes) (m : PurgeList) (id : ℕ) → admit_fault nodes m id ≡ None → issue_fault m ≡ None
left_admission nodes m id e =
    (branches (λ (o : Option MasterFault). o ≡ None → issue_fault m ≡ None) (not (is_among id nodes.joining) || is_admitted m id) (Some NotJoining)
    (issue_fault m) (λ _ f. absurd (none-some NotJoining (sym f))) (λ _ f. f)) e

module _ (h : Tables) (past : List Step) (w : World) (lineage : HasLineage h past w) (event : WorldEvent) (seen : Seen) (given : Given)
    (gives : given_by event seen ≡ Some given) (silent : (number : ℕ) → TellsDone number seen → ⊥) (small : w.master.last + 1 ≤ 4294967295) where
  now_extends : Extends past (with_step past event seen)
  now_extends = extends_step past event seen

  -- the new number is the last of those given
  now_numbers : numbers (with_step past event seen) ≡ numbers past ++ given ∷ []
  unfolding with_step
  now_numbers =
      let e : numbers (record { event = event; seen = seen } ∷ []) ≡ given ∷ [] = rw gives in
      numbers-append past (record { event = event; seen = seen } ∷ []) ∙ ap (λ l. numbers past ++ l) e

  now_last : w.master.last + 1 ≡ length (numbers (with_step past event seen))
  now_last =
      let e : length (numbers (with_step past event seen)) ≡ length (numbers past) + 1 = ap length now_numbers ∙ length-append (numbers past) (given ∷ []) in
      omega (arith, lineage.last)

  pub now_item : IsItem (numbers (with_step past event seen)) (w.master.last + 1) given
  now_item =
      let e : w.master.last + 1 ≡ length (numbers past) + 1 = omega (arith, lineage.last) in
      subst (λ n. IsItem (numbers (with_step past event seen)) n given) (sym e)
      (subst (λ items. IsItem items (length (numbers past) + 1) given) (sym now_numbers) (item_pushed (numbers past) given))

  -- a number is one that was given before, or the new one
  pub now_cases : (number : ℕ) (other : Given) → IsItem (numbers (with_step past event seen)) number other →
      IsItem (numbers past) number other ⊎ ((number ≡ w.master.last + 1) × (given ≡ other))
  now_cases number other item = elim (item_last (numbers past) given number other (subst (λ items. IsItem items number other) now_numbers item)) [
    | inl was ↦ inl was
    | inr last ↦ inr (omega (arith, last.0, lineage.last), last.1)
  ]

  module _ (m : PurgeList) (sent : List Datagram) (last : m.last ≡ w.master.last + 1)
      (agree : Agree h (length (numbers past)) w.master.admissions m.admissions) where
    now_all : (number : ℕ) → number ≤ w.master.last → AllHaveObeyed h past w number →
        AllHaveObeyed h (with_step past event seen) (with_sent (with_master w m) sent) number
    now_all number low = all_later past (with_step past event seen) now_extends h w (with_sent (with_master w m) sent) (grows_itself w.states) agree number
        (omega (arith, lineage.last, low))

    now_reported : (place number : ℕ) → IsReportedAt (with_step past event seen) place number →
        (number ≤ m.last) × AllHaveObeyed h (with_step past event seen) (with_sent (with_master w m) sent) number
    unfolding with_step
    now_reported place number (step, is, tells) = elim (item_cases past (record { event = event; seen = seen }) place step is) [
      | inl was ↦ let had = lineage.reported place number (step, was, tells) in (omega (arith, last, had.0), now_all number had.0 had.1)
      | inr this ↦ absurd (silent number (rw (← this) at tells))
    ]

    now_done : ((number : ℕ) → number ≢ w.master.last + 1 → marks_at m number ≡ None → marks_at w.master number ≡ None) →
        (marks_at m (w.master.last + 1) ≡ None → ⊥) → (number : ℕ) → 1 ≤ number → number ≤ m.last → marks_at m number ≡ None →
        AllHaveObeyed h (with_step past event seen) (with_sent (with_master w m) sent) number
    now_done before pending number low high none = elim (ℕ_discrete number (w.master.last + 1)) [
      | yes e ↦ absurd (pending (subst (λ n. marks_at m n ≡ None) e none))
      | no ne ↦
          let under : number ≤ w.master.last = omega (arith, last, high, ne) in
          now_all number under (lineage.done number low under (before number ne none))
    ]

    -- with the new number, the invariant holds
    pub number_keeps : AllByRecursion (IsMastersRightly h (with_step past event seen) m.admissions) sent →
        AllByRecursion (IsObeyed h (with_step past event seen) w.states) sent →
        AllByRecursion (PurgeHasLineage (with_step past event seen) w.states) m.pending →
        AllByRecursion (AdmissionHasLineage (with_step past event seen)) m.admissions →
        ((number id : ℕ) → IsItem (numbers (with_step past event seen)) number (OfAdmission id) → is_listed m.admissions number id ≡ true) →
        ((number : ℕ) → number ≢ w.master.last + 1 → marks_at m number ≡ None → marks_at w.master number ≡ None) →
        (marks_at m (w.master.last + 1) ≡ None → ⊥) → HasLineage h (with_step past event seen) (with_sent (with_master w m) sent)
    number_keeps masters obeyed pending admissions listed before open_now = record {
      last = last ∙ now_last;
      small = omega (arith, last, small);
      nodes = λ id. node_later past (with_step past event seen) now_extends h id (node_at w.states id) (lineage.nodes id);
      masters = all_joined (IsMastersRightly h (with_step past event seen) m.admissions) w.datagrams sent
          (masters_later past (with_step past event seen) now_extends h w.master.admissions m.admissions agree w.datagrams lineage.masters) masters;
      obeyed = all_joined (IsObeyed h (with_step past event seen) w.states) w.datagrams sent
          (obeyed_later past (with_step past event seen) now_extends h w.states w.states (grows_itself w.states) w.datagrams lineage.obeyed) obeyed;
      answers = answers_later past (with_step past event seen) now_extends w.answers lineage.answers;
      pending = pending;
      admissions = admissions;
      listed = listed;
      done = now_done before open_now;
      reported = now_reported;
    }

-- A purge is issued

module _ (h : Tables) (proper : IsRoster h) (past : List Step) (w : World) (lineage : HasLineage h past w) (key : List ℕ) (is_key : IsKey key)
    (small : w.master.last + 1 ≤ 4294967295) where
  issued_now : List Step
  issued_now = with_step past (Issue key) (Issued (w.master.last + 1))

  issue_item : IsItem (numbers issued_now) (w.master.last + 1) (OfPurge key)
  unfolding issued_now
  issue_item = now_item h past w lineage (Issue key) (Issued (w.master.last + 1)) (OfPurge key) refl (λ number tells. tells) small

  issue_short : length (numbers issued_now) ≤ 4294967295
  unfolding issued_now
  issue_short = omega (arith, now_last h past w lineage (Issue key) (Issued (w.master.last + 1)) (OfPurge key) refl (λ number tells. tells) small, small)

  new_purge_right : PurgeHasLineage issued_now w.states (unmarked (w.master.last + 1) key)
  new_purge_right = record { item = issue_item; is_key = is_key; marked = λ id has. absurd (true_not_false (sym has)) }

  issue_listed : (number id : ℕ) → IsItem (numbers issued_now) number (OfAdmission id) → is_listed w.master.admissions number id ≡ true
  unfolding issued_now
  issue_listed number id item =
      elim (now_cases h past w lineage (Issue key) (Issued (w.master.last + 1)) (OfPurge key) refl (λ number tells. tells) small number (OfAdmission id) item) [
        | inl was ↦ lineage.listed number id was
        | inr this ↦ (let bad : OfPurge key ≡ OfAdmission id = this.1 in cc)
      ]

  pub issue_keeps : HasLineage h (with_step past (Issue key) (Issued (w.master.last + 1)))
      (with_sent (with_master w (with_purge w.master (w.master.last + 1) key)) (clears_of h w.master.admissions (w.master.last + 1) key))
  unfolding issued_now
  issue_keeps = number_keeps h past w lineage (Issue key) (Issued (w.master.last + 1)) (OfPurge key) refl (λ number tells. tells) small
      (with_purge w.master (w.master.last + 1) key) (clears_of h w.master.admissions (w.master.last + 1) key) refl
      (agrees_itself h (length (numbers past)) w.master.admissions)
      (new_right h proper issued_now w.master.admissions w.states (w.master.last + 1) key issue_item issue_short is_key)
      (new_obeyed h proper issued_now w.master.admissions w.states (w.master.last + 1) key)
      (all_joined (PurgeHasLineage issued_now w.states) w.master.pending (unmarked (w.master.last + 1) key ∷ [])
      (purges_later past issued_now (extends_step past (Issue key) (Issued (w.master.last + 1))) h w.states w.states (grows_itself w.states) w.master.pending
      lineage.pending) (new_purge_right, tt))
      (admissions_later past issued_now (extends_step past (Issue key) (Issued (w.master.last + 1))) w.master.admissions lineage.admissions) issue_listed
      (λ number ne none. purge_pushed w.master (w.master.last + 1) key number none) (purge_pending w.master (w.master.last + 1) key)

-- A member is admitted

-- the member of an admission
member_in : Given → ℕ
member_in (OfAdmission id) = id
member_in (OfPurge key) = 0

member_same : (id who : ℕ) → OfAdmission id ≡ OfAdmission who → id ≡ who
unfolding member_in
member_same id who e = ap member_in e

both_same : (m n id who : ℕ) → m ≡ n → id ≡ who → (nat_eq m n && nat_eq id who) ≡ true
both_same m n id who e f = subst (λ k. (nat_eq m k && nat_eq id who) ≡ true) e
    (subst (λ k. (nat_eq m m && nat_eq id k) ≡ true) f (ap (λ b. b && nat_eq id id) (same_id m) ∙ same_id id))

module _ (h : Tables) (proper : IsRoster h) (past : List Step) (w : World) (lineage : HasLineage h past w) (id : ℕ)
    (small : w.master.last + 1 ≤ 4294967295) where
  admitted_now : List Step
  admitted_now = with_step past (Admit id) (Admitted (w.master.last + 1))

  admit_item : IsItem (numbers admitted_now) (w.master.last + 1) (OfAdmission id)
  unfolding admitted_now
  admit_item = now_item h past w lineage (Admit id) (Admitted (w.master.last + 1)) (OfAdmission id) refl (λ number tells. tells) small

  admit_short : length (numbers admitted_now) ≤ 4294967295
  unfolding admitted_now
  admit_short = omega (arith, now_last h past w lineage (Admit id) (Admitted (w.master.last + 1)) (OfAdmission id) refl (λ number tells. tells) small, small)

  -- no admission has the new number yet
  admit_new : admission_at w.master (w.master.last + 1) ≡ None
  admit_new = none_above w.master.admissions w.master.last (w.master.last + 1)
      (all_mapped (AdmissionHasLineage past) (λ (a : Admission). a.number ≤ w.master.last)
      (λ a is. omega (arith, item_within (numbers past) a.number (OfAdmission a.member) is, lineage.last)) w.master.admissions lineage.admissions) (omega arith)

  -- the admission needs the member
  admit_needs : needs (nodes_of h) (w.master.admissions ++ admission_of (w.master.last + 1) id ∷ []) (w.master.last + 1) id ≡ true
  admit_needs =
      let found : admission_in (w.master.admissions ++ admission_of (w.master.last + 1) id ∷ []) (w.master.last + 1)
      ≡ Some (admission_of (w.master.last + 1) id) =
      find_last (λ (a : Admission). nat_eq a.number (w.master.last + 1)) w.master.admissions (admission_of (w.master.last + 1) id) admit_new
      (same_id (w.master.last + 1)) in
      ap (λ o. needs_by (nodes_of h) (w.master.admissions ++ admission_of (w.master.last + 1) id ∷ []) (w.master.last + 1) o id) found ∙ same_id id

  admit_listed : (number who : ℕ) → IsItem (numbers admitted_now) number (OfAdmission who) →
      is_listed (w.master.admissions ++ admission_of (w.master.last + 1) id ∷ []) number who ≡ true
  unfolding admitted_now
  admit_listed number who item =
      elim (now_cases h past w lineage (Admit id) (Admitted (w.master.last + 1)) (OfAdmission id) refl (λ number tells. tells) small number (OfAdmission who)
      item) [
        | inl was ↦ any_front (λ (a : Admission). nat_eq a.number number && nat_eq a.member who) w.master.admissions (admission_of (w.master.last + 1) id)
            (lineage.listed number who was)
        | inr this ↦ any_last (λ (a : Admission). nat_eq a.number number && nat_eq a.member who) w.master.admissions (admission_of (w.master.last + 1) id)
            (both_same (w.master.last + 1) number id who (sym this.0) (member_same id who this.1))
      ]

  pub admit_keeps : HasLineage h (with_step past (Admit id) (Admitted (w.master.last + 1)))
      (with_sent (with_master w (with_admission w.master (w.master.last + 1) id)) (clear_to h (Some (base_clear (w.master.last + 1))) (member_of h id)))
  unfolding admitted_now
  admit_keeps = number_keeps h past w lineage (Admit id) (Admitted (w.master.last + 1)) (OfAdmission id) refl (λ number tells. tells) small
      (with_admission w.master (w.master.last + 1) id) (clear_to h (Some (base_clear (w.master.last + 1))) (member_of h id)) refl
      (agree_pushed h (length (numbers past)) w.master.admissions (admission_of (w.master.last + 1) id) (omega (arith, lineage.last)))
      (to_right h proper admitted_now (w.master.admissions ++ admission_of (w.master.last + 1) id ∷ []) (w.master.last + 1) (OfAdmission id) admit_item
      admit_short tt id admit_needs (member_of h id) refl)
      (to_obeyed h admitted_now w.states (w.master.last + 1) (OfAdmission id) (member_of h id))
      (purges_later past admitted_now (extends_step past (Admit id) (Admitted (w.master.last + 1))) h w.states w.states (grows_itself w.states) w.master.pending
      lineage.pending)
      (all_joined (AdmissionHasLineage admitted_now) w.master.admissions (admission_of (w.master.last + 1) id ∷ [])
      (admissions_later past admitted_now (extends_step past (Admit id) (Admitted (w.master.last + 1))) w.master.admissions lineage.admissions)
      (admit_item, tt)) admit_listed (λ number ne none. admission_pushed w.master (w.master.last + 1) id number ne none)
      (admission_pending w.master (w.master.last + 1) id admit_new)
