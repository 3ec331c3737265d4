-- Safety from the invariant. After the report of purge n, each member that serves a copy has a floor of at
-- least n: the purge needed it and it has raised its floor, or it was admitted under a greater number,
-- which is its base. One that was not admitted serves nothing. A served copy's stamp is at least the
-- floor, so at least n numbers were given before its mark: its reading began after purge n was issued.
-- The law of siblings is that of one step.
use Rattle.std.proofs.Common.{◌≡◌, ℕ, ◌+◌, ◌-◌, ◌≤◌, Bool, true, false, List, [], ◌∷◌, ◌++◌, length, take, drop, Option, Some, None, Result, ap, ◌∙◌, sym}
use Rattle.std.proofs.Common.{subst}
use Rattle.std.proofs.Common.{refl, inl, inr, arith}
use Rattle.std.proofs.lemmas.Option.{none-some}
use Rattle.std.proofs.lemmas.List.{take-append-drop}
use native.Mathlib.Decide.{dec_lt}
use Rattle.object_store.specs.declared.copy.WebCopy.{WebCopy}
use Rattle.node_rules.specs.declared.reply.Reply.{Reply}
use Rattle.node_rules.specs.declared.reply.StepFault.{StepFault}
use Rattle.floor_rules.specs.Floors.{floor}
use Rattle.node_rules.specs.Effect.{copy_served, sent}
use Rattle.node_rules.specs.Questions.{BeginsNothing}
use Rattle.node_rules.proofs.Lawful.{steps_are_lawful}
use Rattle.values_tables.specs.declared.plain.Tables.{Tables}
use Rattle.roster.specs.Judged.{IsRoster}
use Rattle.node_rules.specs.State.{setting}
use Rattle.purge_rules.specs.declared.fault.MasterFault.{MasterFault}
use Rattle.purge_rules.specs.Calls.{issue_fault}
use Rattle.purge_rules.specs.Members.{is_among, joining_of}
use Rattle.roster.specs.Lookups.{is_member, is_founding}
use Rattle.world_rules.specs.declared.event.WorldEvent.{WorldEvent}
use Rattle.world_rules.specs.declared.event.WorldEvent.TheVariants.{Issue}
use Rattle.world_rules.specs.World.{World, new_world, node_at}
use Rattle.world_rules.specs.Consequence.{Seen, Replied, Issued, Consequence, NodeSteps, Ends, Refused, issue_by, consequence}
use Rattle.world_rules.specs.Run.{Step, Run, Takes, Happens, IsItem, OfPurge, OfAdmission, numbers, issued, IsIssuedAt, ServesCopy}
use Rattle.world_rules.specs.Lineage.{IsStamped, HasReached, AllHaveObeyed, IsOutside, HasLineage}
use Rattle.world_rules.specs.Safety.{NothingOldIsServed, SendsBack, SiblingsAskNothing}
use Rattle.world_rules.proofs.Items.{item_pushed, item_later, item_front, item_taken, same_item, parted}
use Rattle.world_rules.proofs.Issues.{numbers-append, issued_later, issued_up}
use Rattle.world_rules.proofs.MemberStates.{node_at-same}
use Rattle.world_rules.proofs.Needing.{founding_is_not, IsWanted, purge_needs}
use Rattle.world_rules.proofs.NodeConsequences.{outside_test, copy_stamped}
use Rattle.world_rules.proofs.Consequences.{IsRight, consequence_right}
use Rattle.world_rules.proofs.Runs.{lineage_before}
use Rattle.world_rules.proofs.Back.{sibling_sends_back}

-- a copy that is served keeps the invariant, and its stamp is at least the floor of its key at the
-- member that serves it, which is not outside
record IsServedRightly (h : Tables) (past : List Step) (w : World) (c : WebCopy ℕ) : Type 0 where
  id : ℕ
  member : is_member h id ≡ true
  inside : is_founding h id ≡ false → IsOutside (node_at w.states id) → ⊥
  current : floor (node_at w.states id).floors c.key ≤ c.stamp
  stamped : IsStamped past c.stamp c.tag

module _ (h : Tables) (proper : IsRoster h) (past : List Step) (old : World) (lineage : HasLineage h past old) (event : WorldEvent) (seen : Seen) (new : World)
    (c : WebCopy ℕ) (serves : ServesCopy seen c) where
  consequence_served : (t : Consequence) → IsRight h past old.master.admissions event t → Takes h (length past + 1) old t seen new →
      IsServedRightly h past old c
  consequence_served (NodeSteps id e serial) right (outcome, next, steps, is_seen, is_new) =
      let law = steps_are_lawful (setting h id) (node_at old.states id) e (length past + 1) outcome next steps in
      let served : copy_served outcome ≡ Some c = subst (λ (s : Seen). ServesCopy s c) is_seen serves in
      record {
        id = id;
        member = right.member;
        inside = λ joins is. none-some c (sym (law.outside (outside_test (is_founding h id) (node_at old.states id).floors.base joins is.base) is.pending).0
            ∙ served);
        current = omega (arith, law.floors c.key, law.current c served);
        stamped = copy_stamped h past old.master.admissions id (node_at old.states id) (lineage.nodes id) e right.comes c (law.serves c served);
      }
  consequence_served (Ends what world) right (is_seen, is_new) = absurd (right.serves_none c (subst (λ (s : Seen). ServesCopy s c) is_seen serves))
  consequence_served (Refused fault) right takes = absurd takes

  served_rightly : Happens h (length past + 1) old event seen new → IsServedRightly h past old c
  served_rightly (key, takes) = consequence_served (consequence h old event) (consequence_right h proper past old lineage event key) takes

-- A member that serves a copy has a floor of at least the number of each purge that is reported done

module _ (h : Tables) (proper : IsRoster h) (past : List Step) (w : World) (lineage : HasLineage h past w) (number : ℕ) (key : List ℕ)
    (item : IsItem (numbers past) number (OfPurge key)) (all : AllHaveObeyed h past w number) (id : ℕ) (member : is_member h id ≡ true) where
  -- the purge needs it
  needed_raised : IsWanted h past number (OfPurge key) id → number ≤ floor (node_at w.states id).floors key
  needed_raised is =
      let obeyed = all id member (purge_needs h past w.master.admissions lineage.admissions lineage.listed number key item id is) in
      let same : obeyed.0 ≡ OfPurge key = same_item (numbers past) number obeyed.0 (OfPurge key) obeyed.1 item in
      subst (HasReached (node_at w.states id).floors number) same obeyed.2

  -- it was admitted under another number
  admitted_raised : (which : ℕ) → IsItem (numbers past) which (OfAdmission id) → which ≤ (node_at w.states id).floors.base →
      number ≤ floor (node_at w.states id).floors key
  admitted_raised which admitted low = elim (dec_lt which number) [
    | yes before ↦ needed_raised (inr (which, admitted, before))
    | no after ↦ (let up : (node_at w.states id).floors.base ≤ floor (node_at w.states id).floors key = omega arith in omega (arith, after, low, up))
  ]

  joining_raised : (is_founding h id ≡ false → IsOutside (node_at w.states id) → ⊥) → (b : Bool) → is_founding h id ≡ b →
      number ≤ floor (node_at w.states id).floors key
  joining_raised inside true founding = needed_raised (inl (founding_is_not h id founding (is_among id (joining_of h)) refl))
  joining_raised inside false joins = elim ((lineage.nodes id).joins joins) [
    | inl outside ↦ absurd (inside joins outside)
    | inr is ↦ admitted_raised is.number is.item is.base
  ]

-- the number under which an event issues a purge is the next
given_number : Seen → ℕ
given_number (Issued number) = number
given_number _ = 0

issue_number : (h : Tables) (place : ℕ) (old : World) (key : List ℕ) (number : ℕ) (new : World) (o : Option MasterFault) →
    Takes h place old (issue_by h old key o) (Issued number) new → number ≡ old.master.last + 1
unfolding given_number
issue_number h place old key number new (Some fault) (is_seen, is_new) = cc
issue_number h place old key number new None (is_seen, is_new) = ap given_number is_seen

-- the purge that is issued after some steps has the next number and its key
issued_item : (steps part rest : List Step) (number : ℕ) (key : List ℕ) → steps ≡ (part ++ record { event = Issue key; seen = Issued number } ∷ []) ++ rest →
    number ≡ length (numbers part) + 1 → IsItem (numbers steps) number (OfPurge key)
issued_item steps part rest number key e f =
    let g : numbers steps ≡ (numbers part ++ OfPurge key ∷ []) ++ numbers rest =
    ap (λ l. numbers l) e ∙ numbers-append (part ++ record { event = Issue key; seen = Issued number } ∷ []) rest
    ∙ ap (λ l. l ++ numbers rest) (numbers-append part (record { event = Issue key; seen = Issued number } ∷ [])) in
    let i : IsItem (numbers steps) (length (numbers part) + 1) (OfPurge key) =
    rw g (item_later (numbers part ++ OfPurge key ∷ []) (numbers rest) (length (numbers part) + 1) (OfPurge key) (item_pushed (numbers part) (OfPurge key))) in
    subst (λ n. IsItem (numbers steps) n (OfPurge key)) (sym f) i

module _ (h : Tables) (proper : IsRoster h) (steps : List Step) (w : World) (run : Run h 1 (new_world h) steps w) where
  -- a purge's number is one more than the count of numbers given before it
  issued_number : (place number : ℕ) (key : List ℕ) → IsIssuedAt steps place number key → number ≡ issued steps place + 1
  issued_number place number key is =
      let (before, after, lineage, happens) = lineage_before h proper steps w run place (record { event = Issue key; seen = Issued number }) is in
      omega (arith, issue_number h (length (take (place - 1) steps) + 1) before key number after (issue_fault before.master) happens.1, lineage.last)

  issued_key : (place number : ℕ) (key : List ℕ) → IsIssuedAt steps place number key → IsItem (numbers steps) number (OfPurge key)
  issued_key place number key is =
      let t = parted steps (place - 1) (record { event = Issue key; seen = Issued number }) is.1 in
      issued_item steps (take (place - 1) steps) t.0 number key t.1 (issued_number place number key is)

  -- The floor where the copy is served, and so the copy's stamp, is at least the purge's number. So as many
  -- numbers were given before the copy's mark, and the mark is later than the issue.
  pub nothing_old_is_served : NothingOldIsServed steps
  nothing_old_is_served number key issue_place report_place serve_place c is_issued (report, is_reported, tells) before (step, is_served, serves) same_key =
      let (old, new, lineage, happens) = lineage_before h proper steps w run serve_place step is_served in
      let part : List Step = take (serve_place - 1) steps in
      let rest : List Step = drop (serve_place - 1) steps in
      let right = served_rightly h proper part old lineage step.event step.seen new c serves happens in
      let told = lineage.reported report_place number (report, item_taken steps report_place serve_place report before is_reported, tells) in
      let whole : part ++ rest ≡ steps = take-append-drop (serve_place - 1) steps in
      let known : IsItem (numbers (part ++ rest)) number (OfPurge key) = subst (λ l. IsItem (numbers l) number (OfPurge key)) (sym whole)
      (issued_key issue_place number key is_issued) in
      let item : IsItem (numbers part) number (OfPurge key) = item_front (numbers part) (numbers rest) number (OfPurge key)
      (omega (arith, told.0, lineage.last)) (subst (λ l. IsItem l number (OfPurge key)) (numbers-append part rest) known) in
      let raised : number ≤ floor (node_at old.states right.id).floors key =
      joining_raised h proper part old lineage number key item told.1 right.id right.member right.inside (is_founding h right.id) refl in
      let low : number ≤ floor (node_at old.states right.id).floors c.key =
      subst (λ u. number ≤ floor (node_at old.states right.id).floors u) (sym same_key) raised in
      let later : issued part c.tag ≤ issued steps c.tag = rw whole at (issued_later part rest c.tag) in
      let next : number ≡ issued steps issue_place + 1 = issued_number issue_place number key is_issued in
      elim (dec_lt issue_place c.tag) [
        | yes after ↦ after
        | no early ↦
            (let old_mark : c.tag ≤ issue_place = omega arith in
            let few : issued steps c.tag ≤ issued steps issue_place = issued_up steps c.tag issue_place old_mark in
            absurd (omega (arith, low, right.current, right.stamped, later, next, few)))
      ]

-- Siblings

-- the outcome that is seen
abbrev pub seen_outcome : Seen → Result (Reply ℕ) StepFault → Result (Reply ℕ) StepFault
seen_outcome (Replied id outcome) other = outcome
seen_outcome _ other = other

pub siblings_ask_nothing : (h : Tables) (steps : List Step) → SiblingsAskNothing h steps
siblings_ask_nothing h steps past rest event id outcome before after e serial is_step runs (key, takes) is_consequence asks =
    let (result, next, node_steps, is_seen, is_new) =
    subst (λ (t : Consequence). Takes h (length past + 1) before t (Replied id outcome) after) is_consequence takes in
    let law = steps_are_lawful (setting h id) (node_at before.states id) e (length past + 1) result next node_steps in
    let same : outcome ≡ result = ap (λ (s : Seen). seen_outcome s outcome) is_seen in
    let at_id : node_at after.states id ≡ next = ap (λ (w : World). node_at w.states id) is_new ∙ node_at-same before.states id next in
    let none : BeginsNothing (node_at before.states id) result next = law.siblings asks in
    let back : SendsBack e (sent result) = sibling_sends_back (setting h id) (node_at before.states id) e (length past + 1) result next asks node_steps in (
      subst (λ r. BeginsNothing (node_at before.states id) r (node_at after.states id)) (sym same)
          (subst (BeginsNothing (node_at before.states id) result) (sym at_id) none),
      subst (λ (r : Result (Reply ℕ) StepFault). SendsBack e (sent r)) (sym same) back,
    )
