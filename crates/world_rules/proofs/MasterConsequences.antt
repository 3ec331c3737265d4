-- What the master does keeps the invariant. The CLRs that it sends are of numbers that were given, and
-- go to members that the numbers need. A mark is set only at a member's acknowledgement, and that
-- member has obeyed the number. A number is done only when all members that it needs are marked.
use Rattle.std.proofs.Common.{◌≡◌, ℕ, ◌≤◌, Bool, true, not, ◌||◌, ◌&&◌, List, [], ◌∷◌, map, filter, length, Option, Some, None, refl, sym, ◌∙◌, ap, subst}
use Rattle.std.proofs.Common.{nat_eq, nat_lt, cond, inl, inr, arith}
use Rattle.std.specs.List.{AllByRecursion, flat_map}
use Rattle.std.proofs.Math.Decide.{ℕ_discrete}
use Rattle.std.proofs.lemmas.Option.{none-some}
use Rattle.htcp_wire.specs.declared.message.Htcp.{Htcp}
use Rattle.values_plain.specs.declared.address.Udp.TheVariants as udp
use Rattle.values_tables.specs.declared.plain.Member.{Member}
use Rattle.roster.specs.Lookups.{member_of}
use Rattle.roster.specs.Judged.{IsRoster}
use Rattle.node_rules.specs.declared.message.Message.TheVariants as message
use Rattle.node_rules.specs.Effect.{acknowledged as acknowledged_by}
use Rattle.node_rules.proofs.Cases.{branches, same_Some, true_not_false}
use Rattle.node_rules.proofs.Pendings.{all_joined, all_left, found, found_passes}
use Rattle.purge_rules.specs.declared.purges.Purge.{Purge}
use Rattle.purge_rules.specs.declared.purges.Admission.{Admission}
use Rattle.purge_rules.specs.declared.calls.Status.{Status}
use Rattle.purge_rules.specs.declared.calls.Status.TheVariants as status
use Rattle.purge_rules.specs.Members.{numbers as numbers_from, is_among, with_id, are_among, members_of}
use Rattle.purge_rules.specs.Needed.{nodes_of, needs, needed}
use Rattle.purge_rules.specs.Purges.{PurgeList, is_numbered, pending_at, admission_at, admission_marks, marks_by, marks_at, marked_by, with_mark, ended}
use Rattle.purge_rules.specs.Purges.{with_done}
use Rattle.purge_rules.specs.Calls.{Acknowledged, unchanged, unmarked_of, missing, counted, acknowledged, due_of, due, status_by, status_of}
use Rattle.htcp_wire.specs.Clearing.{is_acknowledging}
use Rattle.purge_rules.specs.Clear.{clear, base_clear, message_of_admission, message_by, message_of}
use Rattle.values_tables.specs.declared.plain.Tables.{Tables}
use Rattle.world_rules.specs.World.{MemberState, World, node_at}
use Rattle.world_rules.specs.Consequence.{Reported, with_clock, with_master, with_sent, clear_to, clears_of, clears_due}
use Rattle.world_rules.specs.Run.{Step, IsItem, Given, OfPurge, OfAdmission, numbers, TellsDone}
use Rattle.world_rules.specs.Lineage.{HasObeyed, clear_of, IsOfUrl, IsMastersRightly, IsObeyed, PurgeHasLineage, AdmissionHasLineage, AllHaveObeyed}
use Rattle.world_rules.specs.Lineage.{is_listed, HasLineage}
use Rattle.world_rules.proofs.Items.{item_within}
use Rattle.world_rules.proofs.MemberStates.{ids_same, and_parts, pending-found, mark_cases, among_has}
use Rattle.world_rules.proofs.Members.{member_counts, kept_among}
use Rattle.world_rules.proofs.Later.{extends_itself, grows_itself, Agree, agrees_itself, masters_later, all_later}
use Rattle.world_rules.proofs.Marks.{ended_if, any_ended, mark_pending, done_pending}
use Rattle.world_rules.proofs.Needing.{agree_ended}

pub all_flat : {A B : Type 0} (P : A → Type 0) (Q : B → Type 0) (f : A → List B) → ((x : A) → P x → AllByRecursion Q (f x)) → (xs : List A) →
    AllByRecursion P xs → AllByRecursion Q (flat_map f xs)
all_flat P Q f each [] all = tt
all_flat P Q f each (x ∷ xs) all = all_joined Q (f x) (flat_map f xs) (each x all.0) (all_flat P Q f each xs all.1)

pub all_any : {A : Type 0} (xs : List A) → AllByRecursion (λ x. Unit {0}) xs
all_any [] = tt
all_any (x ∷ xs) = (tt, all_any xs)

-- what is left of a list passes the test
all_filtered : {A : Type 0} (test : A → Bool) (xs : List A) → AllByRecursion (λ x. test x ≡ true) (filter test xs)
all_filtered test [] = tt
all_filtered test (x ∷ xs) = branches (AllByRecursion (λ y. test y ≡ true)) (test x) (x ∷ filter test xs) (filter test xs)
    (λ passes. (passes, all_filtered test xs)) (λ _. all_filtered test xs)

all_pairs : {A B : Type 0} (P : A → Type 0) (Q : B → Type 0) (f : A → B) → ((x : A) → P x → Q (f x)) → (xs : List A) → AllByRecursion P xs →
    AllByRecursion Q (map f xs)
all_pairs P Q f each [] all = tt
all_pairs P Q f each (x ∷ xs) all = (each x all.0, all_pairs P Q f each xs all.1)

-- CLRs

-- the CLR of a number acknowledges nothing
no_acknowledgement : (number : ℕ) (given : Given) → acknowledged_by (message.Htcp (clear_of number given)) ≡ None
no_acknowledgement number (OfPurge key) = refl
no_acknowledgement number (OfAdmission id) = refl

module _ (h : Tables) (proper : IsRoster h) (past : List Step) (admissions : List Admission) (number : ℕ) (given : Given)
    (item : IsItem (numbers past) number given) (short : length (numbers past) ≤ 4294967295) (of_url : IsOfUrl given) where
  -- the CLR of a number that was given goes to a member that the number needs
  pub to_right : (id : ℕ) → needs (nodes_of h) admissions number id ≡ true → (o : Option Member) → member_of h id ≡ o →
      AllByRecursion (IsMastersRightly h past admissions) (clear_to h (Some (clear_of number given)) o)
  to_right id needed None entry = tt
  to_right id needed (Some member) entry = (
    (λ from other at.
        let same : id ≡ other = same_Some id other (sym (proper.own.found id member entry) ∙ at) in
        let small : number ≤ 4294967295 = omega (arith, item_within (numbers past) number given item, short) in
        record {
          clear = record { number = number; given = given; is_clear = refl; item = item; small = small; of_url = of_url };
          needed = subst (λ n. needs (nodes_of h) admissions number n ≡ true) same needed;
        }),
    tt,
  )

pub to_obeyed : (h : Tables) (past : List Step) (states : List MemberState) (number : ℕ) (given : Given) (o : Option Member) →
    AllByRecursion (IsObeyed h past states) (clear_to h (Some (clear_of number given)) o)
to_obeyed h past states number given None = tt
to_obeyed h past states number given (Some member) =
    ((λ to n acknowledges. absurd (none-some n (sym (no_acknowledgement number given) ∙ acknowledges))), tt)

module _ (h : Tables) (proper : IsRoster h) (past : List Step) (admissions : List Admission) (states : List MemberState) (number : ℕ) (key : List ℕ) where
  -- the CLRs of a new purge
  pub new_right : IsItem (numbers past) number (OfPurge key) → length (numbers past) ≤ 4294967295 → IsOfUrl (OfPurge key) →
      AllByRecursion (IsMastersRightly h past admissions) (clears_of h admissions number key)
  new_right item short of_url = all_flat (λ id. needs (nodes_of h) admissions number id ≡ true) (IsMastersRightly h past admissions)
      (λ id. clear_to h (Some (clear number key)) (member_of h id))
      (λ id is. to_right h proper past admissions number (OfPurge key) item short of_url id is (member_of h id) refl)
      (needed (nodes_of h) admissions number) (all_filtered (needs (nodes_of h) admissions number) (members_of h))

  pub new_obeyed : AllByRecursion (IsObeyed h past states) (clears_of h admissions number key)
  new_obeyed = all_flat (λ id. Unit {0}) (IsObeyed h past states) (λ id. clear_to h (Some (clear number key)) (member_of h id))
      (λ id is. to_obeyed h past states number (OfPurge key) (member_of h id)) (needed (nodes_of h) admissions number)
      (all_any (needed (nodes_of h) admissions number))

module _ (h : Tables) (proper : IsRoster h) (past : List Step) (w : World) (lineage : HasLineage h past w) where
  pub clock_keeps : (now : ℕ) → HasLineage h past (with_clock w now)
  clock_keeps now = record {
    last = lineage.last;
    small = lineage.small;
    nodes = lineage.nodes;
    masters = lineage.masters;
    obeyed = lineage.obeyed;
    answers = lineage.answers;
    pending = lineage.pending;
    admissions = lineage.admissions;
    listed = lineage.listed;
    done = lineage.done;
    reported = lineage.reported;
  }

  -- What is due

  short : length (numbers past) ≤ 4294967295
  short = omega (arith, lineage.last, lineage.small)

  unmarked_needed : (number : ℕ) (marks : Option (List ℕ)) → AllByRecursion (λ id. needs (nodes_of h) w.master.admissions number id ≡ true)
      (unmarked_of (needed (nodes_of h) w.master.admissions number) marks)
  unmarked_needed number None = tt
  unmarked_needed number (Some marked) =
      all_left (λ id. needs (nodes_of h) w.master.admissions number id ≡ true) (λ id. not (is_among id marked))
      (needed (nodes_of h) w.master.admissions number) (all_filtered (needs (nodes_of h) w.master.admissions number) (members_of h))

  all_due : AllByRecursion (λ (d : ℕ × ℕ). needs (nodes_of h) w.master.admissions d.0 d.1 ≡ true) (due (nodes_of h) w.master)
  all_due = all_flat (λ (number : ℕ). Unit {0}) (λ (d : ℕ × ℕ). needs (nodes_of h) w.master.admissions d.0 d.1 ≡ true) (due_of (nodes_of h) w.master)
      (λ number any. all_pairs (λ id. needs (nodes_of h) w.master.admissions number id ≡ true)
      (λ (d : ℕ × ℕ). needs (nodes_of h) w.master.admissions d.0 d.1 ≡ true) (λ id. (number, id)) (λ id is. is) (missing (nodes_of h) w.master number)
      (unmarked_needed number (marks_at w.master number))) (numbers_from 1 w.master.last) (all_any (numbers_from 1 w.master.last))

  -- the CLR of a purge

  purge_right : (number id : ℕ) → needs (nodes_of h) w.master.admissions number id ≡ true → (p : Purge) → pending_at w.master number ≡ Some p →
      AllByRecursion (IsMastersRightly h past w.master.admissions) (clear_to h (Some (clear p.number p.key)) (member_of h id))
  purge_right number id is p some =
      let has : PurgeHasLineage past w.states p = found (PurgeHasLineage past w.states) (is_numbered number) w.master.pending p lineage.pending some in
      let same : number ≡ p.number = sym (pending-found w.master.pending number p some) in
      to_right h proper past w.master.admissions p.number (OfPurge p.key) has.item short has.is_key id
      (subst (λ n. needs (nodes_of h) w.master.admissions n id ≡ true) same is) (member_of h id) refl

  -- the CLR of an admission, if it is pending

  admission_right : (number id : ℕ) → needs (nodes_of h) w.master.admissions number id ≡ true → (o : Option Admission) → admission_at w.master number ≡ o →
      AllByRecursion (IsMastersRightly h past w.master.admissions) (clear_to h (message_of_admission o) (member_of h id))
  admission_right number id is None some = tt
  admission_right number id is (Some a) some =
      let has : AdmissionHasLineage past a =
      found (AdmissionHasLineage past) (λ (b : Admission). nat_eq b.number number) w.master.admissions a lineage.admissions some in
      let same : number ≡ a.number =
      sym (ids_same a.number number (found_passes (λ (b : Admission). nat_eq b.number number) w.master.admissions a some)) in
      branches (λ (m : Option Htcp). AllByRecursion (IsMastersRightly h past w.master.admissions) (clear_to h m (member_of h id))) a.is_done None
      (Some (base_clear a.number)) (λ _. tt)
      (λ _. to_right h proper past w.master.admissions a.number (OfAdmission a.member) has short tt id
      (subst (λ n. needs (nodes_of h) w.master.admissions n id ≡ true) same is) (member_of h id) refl)

  one_right : (number id : ℕ) → needs (nodes_of h) w.master.admissions number id ≡ true → (o : Option Purge) → pending_at w.master number ≡ o →
      AllByRecursion (IsMastersRightly h past w.master.admissions) (clear_to h (message_by o (admission_at w.master number)) (member_of h id))
  one_right number id is (Some p) some = purge_right number id is p some
  one_right number id is None none = admission_right number id is (admission_at w.master number) refl

  one_obeyed : (o : Option Purge) (a : Option Admission) (m : Option Member) → AllByRecursion (IsObeyed h past w.states) (clear_to h (message_by o a) m)
  one_obeyed (Some p) a m = to_obeyed h past w.states p.number (OfPurge p.key) m
  one_obeyed None None m = tt
  one_obeyed None (Some a) m =
      branches (λ (x : Option Htcp). AllByRecursion (IsObeyed h past w.states) (clear_to h x m)) a.is_done None (Some (base_clear a.number)) (λ _. tt)
      (λ _. to_obeyed h past w.states a.number (OfAdmission a.member) m)

  -- what is due is sent again
  pub resend_keeps : HasLineage h past (with_sent w (clears_due h w.master))
  resend_keeps = record {
    last = lineage.last;
    small = lineage.small;
    nodes = lineage.nodes;
    masters = all_joined (IsMastersRightly h past w.master.admissions) w.datagrams (clears_due h w.master) lineage.masters
        (all_flat (λ (d : ℕ × ℕ). needs (nodes_of h) w.master.admissions d.0 d.1 ≡ true) (IsMastersRightly h past w.master.admissions)
        (λ d. clear_to h (message_of w.master d.0) (member_of h d.1)) (λ d is. one_right d.0 d.1 is (pending_at w.master d.0) refl)
        (due (nodes_of h) w.master) all_due);
    obeyed = all_joined (IsObeyed h past w.states) w.datagrams (clears_due h w.master) lineage.obeyed
        (all_flat (λ (d : ℕ × ℕ). Unit {0}) (IsObeyed h past w.states) (λ d. clear_to h (message_of w.master d.0) (member_of h d.1))
        (λ d any. one_obeyed (pending_at w.master d.0) (admission_at w.master d.0) (member_of h d.1)) (due (nodes_of h) w.master)
        (all_any (due (nodes_of h) w.master)));
    answers = lineage.answers;
    pending = lineage.pending;
    admissions = lineage.admissions;
    listed = lineage.listed;
    done = lineage.done;
    reported = lineage.reported;
  }

  -- Acknowledgements

  -- only what is pending changes, and no number is given
  module _ (m : PurgeList) (last : m.last ≡ w.master.last) (agree : Agree h (length (numbers past)) w.master.admissions m.admissions) where
    still : (number : ℕ) → number ≤ w.master.last → AllHaveObeyed h past w number → AllHaveObeyed h past (with_master w m) number
    still number low all =
        all_later past past (extends_itself past) h w (with_master w m) (grows_itself w.states) agree number (omega (arith, lineage.last, low)) all

    alone_keeps : AllByRecursion (PurgeHasLineage past w.states) m.pending → AllByRecursion (AdmissionHasLineage past) m.admissions →
        ((number id : ℕ) → IsItem (numbers past) number (OfAdmission id) → is_listed m.admissions number id ≡ true) →
        ((number : ℕ) → 1 ≤ number → number ≤ w.master.last → marks_at m number ≡ None → AllHaveObeyed h past w number) → HasLineage h past (with_master w m)
    alone_keeps pending admissions listed done = record {
      last = last ∙ lineage.last;
      small = omega (arith, last, lineage.small);
      nodes = lineage.nodes;
      masters = masters_later past past (extends_itself past) h w.master.admissions m.admissions agree w.datagrams lineage.masters;
      obeyed = lineage.obeyed;
      answers = lineage.answers;
      pending = pending;
      admissions = admissions;
      listed = listed;
      done = λ number low high none. still number (omega (arith, last, high)) (done number low (omega (arith, last, high)) none);
      reported = λ place number told. (
        omega (arith, last, (lineage.reported place number told).0),
        still number (lineage.reported place number told).0
            (lineage.reported place number told).1,
      );
    }

  module _ (id number : ℕ) (obeyed : HasObeyed past (node_at w.states id) number) where
    -- each member that is marked has obeyed the number
    mark_obeyed : (p : Purge) → p.number ≡ number → PurgeHasLineage past w.states p → (other : ℕ) → is_among other (with_id id p.marked) ≡ true →
        HasObeyed past (node_at w.states other) p.number
    mark_obeyed p same is other has = elim (mark_cases p.marked id other has) [
      | inl was ↦ is.marked other was
      | inr this ↦ subst (λ n. HasObeyed past (node_at w.states n) p.number) (sym this) (subst (HasObeyed past (node_at w.states id)) (sym same) obeyed)
    ]

    marked_right : (p : Purge) → p.number ≡ number → PurgeHasLineage past w.states p → PurgeHasLineage past w.states (marked_by id p)
    marked_right p same is = record { item = is.item; is_key = is.is_key; marked = mark_obeyed p same is }

    all_marked : (due : List Purge) → AllByRecursion (PurgeHasLineage past w.states) due →
        AllByRecursion (PurgeHasLineage past w.states) (map (λ p. cond (is_numbered number p) (marked_by id p) p) due)
    all_marked [] all = tt
    all_marked (p ∷ due) all = (
      branches (PurgeHasLineage past w.states) (nat_eq p.number number) (marked_by id p) p
          (λ same. marked_right p (ids_same p.number number same) all.0) (λ _. all.0),
      all_marked due all.1,
    )

    -- these marks are of members that have obeyed the number

    purge_marks : (marked : List ℕ) (p : Purge) → pending_at w.master number ≡ Some p → p.marked ≡ marked → (other : ℕ) → is_among other marked ≡ true →
        HasObeyed past (node_at w.states other) number
    purge_marks marked p some same other has =
        let is : PurgeHasLineage past w.states p = found (PurgeHasLineage past w.states) (is_numbered number) w.master.pending p lineage.pending some in
        subst (HasObeyed past (node_at w.states other)) (pending-found w.master.pending number p some)
        (is.marked other (subst (λ ids. is_among other ids ≡ true) (sym same) has))

    admission_none : (marked : List ℕ) (a : Option Admission) → admission_marks a ≡ Some marked → marked ≡ []
    admission_none marked None e = absurd (none-some marked e)
    admission_none marked (Some a) e =
        (branches (λ (o : Option (List ℕ)). o ≡ Some marked → marked ≡ []) a.is_done None (Some []) (λ _ f. absurd (none-some marked f))
        (λ _ f. sym (same_Some [] marked f))) e

    marks_obeyed : (marked : List ℕ) (o : Option Purge) → pending_at w.master number ≡ o → marks_by o (admission_at w.master number) ≡ Some marked →
        (other : ℕ) → is_among other marked ≡ true → HasObeyed past (node_at w.states other) number
    marks_obeyed marked (Some p) some e other has = purge_marks marked p some (same_Some p.marked marked e) other has
    marks_obeyed marked None none e other has =
        absurd (true_not_false (sym has ∙ ap (is_among other) (admission_none marked (admission_at w.master number) e)))

    with_mark_obeyed : (marked : List ℕ) → marks_at w.master number ≡ Some marked → (other : ℕ) → is_among other (with_id id marked) ≡ true →
        HasObeyed past (node_at w.states other) number
    with_mark_obeyed marked is other has = elim (mark_cases marked id other has) [
      | inl was ↦ marks_obeyed marked (pending_at w.master number) refl is other was
      | inr this ↦ subst (λ n. HasObeyed past (node_at w.states n) number) (sym this) obeyed
    ]

    -- if all members that the number needs are marked, all have obeyed it
    complete_obeyed : (marked : List ℕ) → marks_at w.master number ≡ Some marked →
        are_among (needed (nodes_of h) w.master.admissions number) (with_id id marked) ≡ true → AllHaveObeyed h past w number
    complete_obeyed marked is complete = λ other member need.
        with_mark_obeyed marked is other (among_has (needed (nodes_of h) w.master.admissions number) (with_id id marked) other complete
        (kept_among (needs (nodes_of h) w.master.admissions number) (members_of h) other need (member_counts h proper.ranges other member)))

    done_keeps : (marked : List ℕ) → marks_at w.master number ≡ Some marked →
        are_among (needed (nodes_of h) w.master.admissions number) (with_id id marked) ≡ true → HasLineage h past (with_master w (with_done w.master number))
    done_keeps marked is complete =
        alone_keeps (with_done w.master number) refl (agree_ended h (length (numbers past)) w.master.admissions number)
        (all_left (PurgeHasLineage past w.states) (λ q. not (is_numbered number q)) w.master.pending lineage.pending)
        (all_pairs (AdmissionHasLineage past) (AdmissionHasLineage past) (ended_if number)
        (λ a has. branches (AdmissionHasLineage past) (nat_eq a.number number) (ended a) a (λ _. has) (λ _. has)) w.master.admissions lineage.admissions)
        (λ which who item. any_ended (λ (a : Admission). nat_eq a.number which && nat_eq a.member who) (λ a. refl) w.master.admissions number
        ∙ lineage.listed which who item)
        (λ other low high none. elim (ℕ_discrete other number) [
          | yes e ↦ subst (AllHaveObeyed h past w) (sym e) (complete_obeyed marked is complete)
          | no ne ↦ lineage.done other low high (done_pending w.master number other ne none)
        ])

    mark_keeps : HasLineage h past (with_master w (with_mark w.master number id))
    mark_keeps = alone_keeps (with_mark w.master number id) refl (agrees_itself h (length (numbers past)) w.master.admissions)
        (all_marked w.master.pending lineage.pending) lineage.admissions lineage.listed
        (λ other low high none. lineage.done other low high (mark_pending w.master number id other none))

    counted_keeps : (o : Option (List ℕ)) → marks_at w.master number ≡ o →
        HasLineage h past (with_master w (counted (needed (nodes_of h) w.master.admissions number) w.master id number o).purges)
    counted_keeps None is = lineage
    counted_keeps (Some marked) is =
        branches (λ (a : Acknowledged). HasLineage h past (with_master w a.purges))
        (are_among (needed (nodes_of h) w.master.admissions number) (with_id id marked))
        record { purges = with_done w.master number; done = Some number } record { purges = with_mark w.master number id; done = None }
        (λ complete. done_keeps marked is complete) (λ _. mark_keeps)

  pub acknowledge_keeps : (id number code : ℕ) → (is_acknowledging code ≡ true → HasObeyed past (node_at w.states id) number) →
      HasLineage h past (with_master w (acknowledged (nodes_of h) w.master id number code).purges)
  acknowledge_keeps id number code obeyed =
      let needs_these = needed (nodes_of h) w.master.admissions number in
      branches (λ (a : Acknowledged). HasLineage h past (with_master w a.purges)) (is_acknowledging code && is_among id needs_these)
      (counted needs_these w.master id number (marks_at w.master number)) (unchanged w.master)
      (λ counts. counted_keeps id number (obeyed (and_parts (is_acknowledging code) (is_among id needs_these) counts).0) (marks_at w.master number) refl)
      (λ _. lineage)

  -- What the master reports

  none_by : (needs_these : List ℕ) (o : Option (List ℕ)) → status_by needs_these o ≡ status.Done → o ≡ None
  none_by needs_these None e = refl
  none_by needs_these (Some marked) e = cc

  status_done : (number : ℕ) → status_of (nodes_of h) w.master number ≡ status.Done → (1 ≤ number) × (number ≤ w.master.last)
      × (marks_at w.master number ≡ None)
  status_done number =
      branches (λ s. s ≡ status.Done → (1 ≤ number) × (number ≤ w.master.last) × (marks_at w.master number ≡ None))
      (nat_eq number 0 || nat_lt w.master.last number) status.Unknown (status_by (missing (nodes_of h) w.master number) (marks_at w.master number))
      (λ _ e. cc) (λ known e. (grind (arith, known), grind (arith, known), none_by _ (marks_at w.master number) e))

  reported_by : (number : ℕ) (s : Status) → status_of (nodes_of h) w.master number ≡ s → (told : ℕ) → TellsDone told (Reported number s) →
      (told ≤ w.master.last) × AllHaveObeyed h past w told
  reported_by number status.Done is told e =
      let known = status_done number is in
      subst (λ n. (n ≤ w.master.last) × AllHaveObeyed h past w n) e (known.1, lineage.done number known.0 known.1 known.2)
  reported_by number _ is told e = absurd e

  -- if the master reports a number done, all members that it needs have obeyed it
  pub reported_obeyed : (number told : ℕ) → TellsDone told (Reported number (status_of (nodes_of h) w.master number)) →
      (told ≤ w.master.last) × AllHaveObeyed h past w told
  reported_obeyed number told e = reported_by number (status_of (nodes_of h) w.master number) refl told e
