-- A node's step keeps the invariant. It uses only laws of node_rules (steps_are_lawful, and that
-- copies stay above their floors): copies and reads come from what the node had or got, floors and
-- base never fall, an acknowledgement is sent only with the floor or the base raised, and an outside
-- node serves and begins nothing.
use Rattle.std.proofs.Common.{◌≡◌, ℕ, ◌+◌, ◌≤◌, Bool, true, false, cond, not, ◌&&◌, nat_eq, nat_le, List, [], ◌∷◌, ◌++◌, map, length, Option, Some, None}
use Rattle.std.proofs.Common.{Result, Ok, Err, refl, sym, ◌∙◌, ap, subst, unwrap_or, inl, inr, arith}
use Rattle.std.specs.Prelude.{◌⊎◌, Contains}
use Rattle.std.specs.List.{AllByRecursion}
use Rattle.std.proofs.lemmas.Option.{none-some}
use Rattle.values_plain.specs.declared.address.Address.{Address}
use Rattle.values_plain.specs.declared.address.Udp.TheVariants as udp
use Rattle.node_rules.specs.declared.message.Message.{Message}
use Rattle.node_rules.specs.declared.message.Message.TheVariants as message
use Rattle.node_rules.specs.declared.message.Outgoing.{Outgoing}
use Rattle.http_messages.specs.Answer.{AnswerText}
use Rattle.object_store.specs.declared.copy.WebCopy.{WebCopy}
use Rattle.values_tables.specs.declared.plain.Member.{Member}
use Rattle.node_rules.specs.declared.state.Fetch.{Fetch}
use Rattle.node_rules.specs.declared.state.Fetch.TheVariants.{Nowhere, AtPeer, AtOrigin}
use Rattle.node_rules.specs.declared.state.Pending.{Pending}
use Rattle.node_rules.specs.declared.state.NodeState.{NodeState}
use Rattle.node_rules.specs.declared.event.Event.{Event}
use Rattle.node_rules.specs.declared.event.Event.TheVariants as event
use Rattle.node_rules.specs.declared.reply.Served.{Served}
use Rattle.node_rules.specs.declared.reply.Served.TheVariants.{Copy, Status}
use Rattle.node_rules.specs.declared.reply.Serve.{Serve}
use Rattle.node_rules.specs.declared.reply.Reply.{Reply}
use Rattle.node_rules.specs.declared.reply.StepFault.{StepFault}
use Rattle.floor_rules.specs.Floors.{floor}
use Rattle.values_tables.specs.Ranges.{are_tables}
use Rattle.roster.specs.Lookups.{is_member, is_founding, is_master, member_of, member_at, address_by}
use Rattle.purge_rules.specs.declared.purges.Admission.{Admission}
use Rattle.purge_rules.specs.Purges.{PurgeList}
use Rattle.node_rules.specs.declared.raising.Raise.{Raise}
use Rattle.node_rules.specs.declared.raising.Raise.TheVariants.{Floor, Base}
use Rattle.node_rules.specs.Good.{IsAbove, AllAbove}
use Rattle.node_rules.specs.Arrivals.{is_gateway_fault}
use Rattle.htcp_wire.specs.declared.message.Content.{Content}
use Rattle.htcp_wire.specs.declared.message.Content.TheVariants as content
use Rattle.htcp_wire.specs.declared.fault.HtcpFault.{HtcpFault}
use Rattle.node_rules.specs.Datagrams.{is_masters, purge_of, base_alone}
use Rattle.node_rules.specs.Relation.{Steps, raise_in, raise_by_lines, purge_by_line, raise_in_content, raise_in_message}
use Rattle.node_rules.specs.Effect as effect
use Rattle.node_rules.specs.Effect.{copy_in, copy_in_serve, IsBareStatus, IsBareInServe, sent, acknowledged, ComesFrom, Acknowledges, IsObedient, IsReadFrom}
use Rattle.node_rules.specs.Effect.{IsReadOf, IsFromPeer, IsAnswerOf}
use Rattle.node_rules.specs.Lawful.{number_of_raise, LiftsBase, KeepsBase, HasOrGets, Lawful}
use Rattle.node_rules.proofs.Cases.{same_Some, true_not_false}
use Rattle.node_rules.proofs.Pendings.{all_mapped, all_joined, contained}
use Rattle.node_rules.proofs.Lawful.{steps_are_lawful}
use Rattle.node_rules.proofs.Stepping.{stays_above}
use Rattle.values_tables.specs.declared.plain.Tables.{Tables}
use Rattle.roster.specs.Judged.{IsRoster}
use Rattle.node_rules.specs.Messages.{protocol_of as udp_of}
use Rattle.node_rules.specs.State.{Setting, setting}
use Rattle.world_rules.specs.World.{MemberState, Datagram, PeerAsk, PeerAnswer, Waiting, World, node_at, with_node, datagrams_from, Answered, answer_of}
use Rattle.world_rules.specs.World.{mark_of, answer_to, asked_by, answers_in, reply_in, after_node}
use Rattle.world_rules.specs.Consequence.{with_member_state}
use Rattle.world_rules.specs.Run.{Step, IsItem, Given, OfPurge, OfAdmission, numbers, issued}
use Rattle.world_rules.specs.Lineage.{IsStamped, IsStampedCopy, IsStampedFetch, IsStampedRead, IsStampedAnswer, IsSentAnswer, HasObeyed, AllHaveObeyed, IsClear}
use Rattle.world_rules.specs.Lineage.{IsClearFor, IsMastersRightly, IsObeyed, IsOutside, IsAdmitted, NodeHasLineage, AdmissionHasLineage, is_listed, HasLineage}
use Rattle.world_rules.proofs.Items.{item_within}
use Rattle.world_rules.proofs.Issues.{issued_here}
use Rattle.world_rules.proofs.MemberStates.{node_at-same, each_node}
use Rattle.world_rules.proofs.Later.{extends_itself, Rises, Grows, grows_by, Agree, agrees_itself, obeyed_later, purges_later, all_later}
use Rattle.world_rules.proofs.Numbers.{raise_of, number_of_raised, clear_is_raise}
use Rattle.world_rules.proofs.Needing.{joining_is, IsWanted, wanted}
use Rattle.world_rules.proofs.Asked.{steps_answer_asks}

-- what the invariant says of an event that reaches a node
abbrev pub ComesRightly : Tables → List Step → List Admission → ℕ → Event ℕ → Type 0
ComesRightly h past admissions id (event.Datagram from m now) = is_master h from ≡ true → IsClearFor h past admissions id m
ComesRightly h past admissions id (event.PeerAnswer serial peer key answer tag now) = IsStampedAnswer past answer tag
ComesRightly h past admissions id _ = Unit {0}

-- the master's CLR brings the raise of its number
clear_brings : (h : Tables) → (past : List Step) (id : ℕ) (from : Address) (m : Message) → is_master h from ≡ true → (is : IsClear past m) →
    raise_in_message (setting h id) from m ≡ Some (raise_of is.number is.given)
clear_brings h past id from m master is =
    ap (λ (m : Message). raise_in_message (setting h id) from m) is.is_clear
    ∙ clear_is_raise h id is.number from master is.item.0 is.small is.given is.of_url

-- a datagram that is not from the master brings no raise

strange_number : (h : Tables) (id : ℕ) (from : Address) (trans n : ℕ) → is_master h from ≡ false → is_masters (setting h id) from trans n ≡ false
strange_number h id from trans n other = ap (λ b. b && nat_eq n trans && nat_le 1 n) other

strange_purge : (h : Tables) (id : ℕ) (from : Address) (trans : ℕ) → is_master h from ≡ false → (key : Option (List ℕ)) (n : ℕ) →
    purge_of (setting h id) from trans key n ≡ None
strange_purge h id from trans other None n = refl
strange_purge h id from trans other (Some key) n = ap (λ b. cond b (Some (Floor key n)) None) (strange_number h id from trans n other)

strange_line : (h : Tables) (id : ℕ) (from : Address) (trans : ℕ) → is_master h from ≡ false → (key : Option (List ℕ)) (line : Result (Option ℕ) HtcpFault) →
    purge_by_line (setting h id) from trans key line ≡ None
strange_line h id from trans other key (Ok None) = refl
strange_line h id from trans other key (Ok (Some n)) = strange_purge h id from trans other key n
strange_line h id from trans other key (Err fault) = refl

strange_base : (h : Tables) (id : ℕ) (from : Address) (trans n : ℕ) → is_master h from ≡ false → (line : Result (Option ℕ) HtcpFault) →
    base_alone (setting h id) from trans n line ≡ None
strange_base h id from trans n other (Ok None) = ap (λ b. cond b (Some (Base n)) None) (strange_number h id from trans n other)
strange_base h id from trans n other (Ok (Some number)) = refl
strange_base h id from trans n other (Err fault) = refl

strange_lines : (h : Tables) (id : ℕ) (from : Address) (trans : ℕ) → is_master h from ≡ false → (key : Option (List ℕ))
    (number base : Result (Option ℕ) HtcpFault) → raise_by_lines (setting h id) from trans key number base ≡ None
strange_lines h id from trans other key number (Ok None) = strange_line h id from trans other key number
strange_lines h id from trans other key number (Ok (Some n)) = strange_base h id from trans n other number
strange_lines h id from trans other key number (Err fault) = refl

strange_content : (h : Tables) (id : ℕ) (from : Address) (trans : ℕ) → is_master h from ≡ false → (c : Content) →
    raise_in_content (setting h id) from trans c ≡ None
strange_content h id from trans other (content.ClrAsk desired reason spec) = strange_lines h id from trans other _ _ _
strange_content h id from trans other _ = refl

strange_message : (h : Tables) (id : ℕ) (from : Address) → is_master h from ≡ false → (m : Message) → raise_in_message (setting h id) from m ≡ None
strange_message h id from other (message.Icp m) = refl
strange_message h id from other (message.Htcp m) = strange_content h id from m.trans other m.content

datagram_number : (h : Tables) → (past : List Step) (admissions : List Admission) (id : ℕ) (from : Address) (m : Message) (b : Bool) → is_master h from ≡ b →
    (is_master h from ≡ true → IsClearFor h past admissions id m) → number_of_raise (raise_in_message (setting h id) from m) ≤ length (numbers past)
datagram_number h past admissions id from m true master comes =
    let is : IsClear past m = (comes master).clear in
    let within : is.number ≤ length (numbers past) = item_within (numbers past) is.number is.given is.item in
    subst (λ o. number_of_raise o ≤ length (numbers past)) (sym (clear_brings h past id from m master is))
    (subst (λ n. n ≤ length (numbers past)) (sym (number_of_raised is.number is.given)) within)
datagram_number h past admissions id from m false other comes =
    subst (λ o. number_of_raise o ≤ length (numbers past)) (sym (strange_message h id from other m)) (omega arith)

-- A joining member, when a raise lifts its base

lifts_up : (o : Option Raise) (old new : ℕ) → LiftsBase o old new → old ≤ new
lifts_up None old new lifts = absurd lifts
lifts_up (Some raise) old new lifts = lifts.0

pub base_up : (g : Setting) (s : NodeState ℕ) (e : Event ℕ) (next : NodeState ℕ) → KeepsBase g s e next → s.floors.base ≤ next.floors.base
base_up g s e next keeps = elim keeps [ inl same ↦ omega (arith, same) | inr lifts ↦ lifts_up (raise_in g e) s.floors.base next.floors.base lifts ]

-- no copy of a node is below its base
base_below : (s : NodeState ℕ) (number : ℕ) → number ≤ s.floors.base → (s.closed ≡ false → AllAbove s) → s.closed ≡ false →
    AllByRecursion (λ (c : WebCopy ℕ). number ≤ c.stamp) s.copies
base_below s number low above is_open = all_mapped (IsAbove s.floors) (λ (c : WebCopy ℕ). number ≤ c.stamp)
    (λ c is. let up : s.floors.base ≤ floor s.floors c.key = omega arith in omega (arith, low, up, is)) s.copies (above is_open)

no_item : {A : Type 0} (P : A → Type 0) (xs : List A) → AllByRecursion P xs → ((x : A) → P x → ⊥) → xs ≡ []
no_item P [] all none = refl
no_item P (x ∷ xs) all none = absurd (none x all.0)

none_contained : {A : Type 0} (xs : List A) (x : A) → xs ≡ [] → Contains xs x → ⊥
none_contained xs x none has = let few : length xs ≡ 0 = ap length none in absurd (omega (arith, few, has.1))

pub outside_test : (founding : Bool) (base : ℕ) → founding ≡ false → base ≡ 0 → (not founding && nat_eq base 0) ≡ true
outside_test founding base joins zero = ap (λ f. not f && nat_eq base 0) joins ∙ ap (λ n. nat_eq n 0) zero

module _ (h : Tables) (fit : are_tables h ≡ true) (past : List Step) (admissions : List Admission)
    (all : AllByRecursion (AdmissionHasLineage past) admissions)
    (listed : (number id : ℕ) → IsItem (numbers past) number (OfAdmission id) → is_listed admissions number id ≡ true) (id : ℕ)
    (member : is_member h id ≡ true) (joins : is_founding h id ≡ false) (old next : NodeState ℕ) (above : next.closed ≡ false → AllAbove next) where
  -- the member's number, by that of the CLR that it got
  joined_by : (number : ℕ) (given : Given) → IsItem (numbers past) number given → IsWanted h past number given id → number ≤ next.floors.base →
      IsAdmitted past id next
  joined_by number (OfPurge key) item is low = elim is [
    | inl not ↦ absurd (true_not_false (sym (joining_is h fit id member joins) ∙ not))
    | inr (earlier, it, less) ↦ record {
      number = earlier;
      item = it;
      base = omega (arith, less, low);
      copies = λ is_open. base_below next earlier (omega (arith, less, low)) above is_open;
    }
  ]
  joined_by number (OfAdmission who) item is low = record {
    number = number;
    item = subst (λ n. IsItem (numbers past) number (OfAdmission n)) is item;
    base = low;
    copies = λ is_open. base_below next number low above is_open;
  }

  datagram_joins : (from : Address) (m : Message) (b : Bool) → is_master h from ≡ b → (is_master h from ≡ true → IsClearFor h past admissions id m) →
      LiftsBase (raise_in_message (setting h id) from m) old.floors.base next.floors.base → IsAdmitted past id next
  datagram_joins from m true master comes lifts =
      let is : IsClearFor h past admissions id m = comes master in
      let lifted = subst (λ o. LiftsBase o old.floors.base next.floors.base) (clear_brings h past id from m master is.clear) lifts in
      let low : is.clear.number ≤ next.floors.base = subst (λ n. n ≤ next.floors.base) (number_of_raised is.clear.number is.clear.given) lifted.1 in
      joined_by is.clear.number is.clear.given is.clear.item
      (wanted h past admissions all listed is.clear.number is.clear.given is.clear.item id is.needed) low
  datagram_joins from m false other comes lifts =
      absurd (subst (λ o. LiftsBase o old.floors.base next.floors.base) (strange_message h id from other m) lifts)

  event_joins : (e : Event ℕ) → ComesRightly h past admissions id e → LiftsBase (raise_in (setting h id) e) old.floors.base next.floors.base →
      IsAdmitted past id next
  event_joins (event.Datagram from m now) comes lifts = datagram_joins from m (is_master h from) refl comes lifts
  event_joins _ comes lifts = absurd lifts

  -- an outside node stays so, or has joined
  outside_goes : (e : Event ℕ) → ComesRightly h past admissions id e → (mark : ℕ) (outcome : Result (Reply ℕ) StepFault) →
      Lawful (setting h id) old e mark outcome next → IsOutside old → IsOutside next ⊎ IsAdmitted past id next
  outside_goes e comes mark outcome law is = elim law.base [
    | inl same ↦ inl (record {
      base = same ∙ is.base;
      copies = λ is_open. no_item (HasOrGets old e) next.copies (law.held is_open) (λ c has. elim has.1 [
        | inl held ↦ none_contained old.copies c (is.copies has.0) held
        | inr gets ↦ none_contained old.pending gets.0 is.pending gets.1
      ]);
      pending = (law.outside (outside_test (is_founding h id) old.floors.base joins is.base) is.pending).1.pending_same ∙ is.pending;
    })
    | inr lifts ↦ inr (event_joins e comes lifts)
  ]

  joins_on : (e : Event ℕ) → ComesRightly h past admissions id e → (mark : ℕ) (outcome : Result (Reply ℕ) StepFault) →
      Lawful (setting h id) old e mark outcome next → IsOutside old ⊎ IsAdmitted past id old → IsOutside next ⊎ IsAdmitted past id next
  joins_on e comes mark outcome law was = elim was [
    | inl outside ↦ outside_goes e comes mark outcome law outside
    | inr is ↦
        let up : old.floors.base ≤ next.floors.base = base_up (setting h id) old e next law.base in
        inr (record {
          number = is.number;
          item = is.item;
          base = omega (arith, is.base, up);
          copies = λ is_open. base_below next is.number (omega (arith, is.base, up)) above is_open;
        })
  ]

module _ (h : Tables) (past : List Step) (admissions : List Admission) (id : ℕ) (old : NodeState ℕ) (lineage : NodeHasLineage h past id old) where
  -- Stamps

  peer_stamped : (serial peer : ℕ) (key : List ℕ) (stamp : ℕ) (answer : AnswerText) (tag : ℕ) (p : Pending ℕ) (c : WebCopy ℕ) →
      IsFromPeer serial peer key stamp answer tag p c → (is_gateway_fault answer.status ≡ true) ⊎ IsStamped past stamp tag → IsStampedCopy past c
  peer_stamped serial peer key stamp answer tag p c is known = elim known [
    | inl bare ↦ absurd (true_not_false (sym bare ∙ is.status))
    | inr stamped ↦ omega (arith, stamped, is.stamp_same, ap (issued past) is.tag_same)
  ]

  answer_stamped : (e : Event ℕ) → ComesRightly h past admissions id e → (c : WebCopy ℕ) → IsAnswerOf old e c → IsStampedCopy past c
  answer_stamped (event.OriginAnswer serial key answer now) comes c is = subst (IsStampedFetch past) is.2.reads
      (contained (IsStampedRead past) old.pending is.0 lineage.reads is.1)
  answer_stamped (event.PeerAnswer serial peer key answer tag now) comes c is = peer_stamped serial peer key (unwrap_or answer.stamp 0) answer tag is.0 c is.2
      comes
  answer_stamped (event.ForeignAnswer serial peer key answer tag now) comes c is = peer_stamped serial peer key 0 answer tag is.0 c is.2 (inr (omega arith))
  answer_stamped _ comes c is = absurd is.2

  pub copy_stamped : (e : Event ℕ) → ComesRightly h past admissions id e → (c : WebCopy ℕ) → HasOrGets old e c → IsStampedCopy past c
  copy_stamped e comes c has = elim has.1 [
    | inl held ↦ contained (IsStampedCopy past) old.copies c (lineage.copies has.0) held
    | inr gets ↦ answer_stamped e comes c gets
  ]

  fetch_stamped : (outcome : Result (Reply ℕ) StepFault) (p : Pending ℕ) (fetch : Fetch ℕ) → p.fetch ≡ fetch →
      IsReadFrom old (length past + 1) outcome p fetch → IsStampedFetch past fetch
  fetch_stamped outcome p (AtOrigin stamp asked mark) same is = elim is [
    | inl was ↦ subst (IsStampedFetch past) (was.fetch ∙ same) (contained (IsStampedRead past) old.pending was.was lineage.reads was.waits)
    | inr begins ↦ omega (arith, begins.stamp_seen, lineage.seen_issued, issued_here past, ap (issued past) begins.mark_same)
  ]
  fetch_stamped outcome p (AtPeer peer asked) same is = tt
  fetch_stamped outcome p Nowhere same is = tt

  number_issued : (e : Event ℕ) → ComesRightly h past admissions id e → number_of_raise (raise_in (setting h id) e) ≤ length (numbers past)
  number_issued (event.Datagram from m now) comes = datagram_number h past admissions id from m (is_master h from) refl comes
  number_issued _ comes = omega arith

  module _ (fit : are_tables h ≡ true) (all : AllByRecursion (AdmissionHasLineage past) admissions)
      (listed : (number id : ℕ) → IsItem (numbers past) number (OfAdmission id) → is_listed admissions number id ≡ true) (member : is_member h id ≡ true)
      (e : Event ℕ) (comes : ComesRightly h past admissions id e) (outcome : Result (Reply ℕ) StepFault) (next : NodeState ℕ)
      (steps : Steps (setting h id) old e (length past + 1) outcome next) where
    law : Lawful (setting h id) old e (length past + 1) outcome next
    law = steps_are_lawful (setting h id) old e (length past + 1) outcome next steps

    above : next.closed ≡ false → AllAbove next
    above is_open = stays_above (setting h id) old e (length past + 1) outcome next
        (lineage.above ((steps_answer_asks (setting h id) old (length past + 1) e outcome next steps).opens is_open)) steps is_open

    pub node_keeps : NodeHasLineage h past id next
    node_keeps = record {
      seen_issued = omega (arith, law.seen_bound, lineage.seen_issued, number_issued e comes);
      copies = λ is_open. all_mapped (HasOrGets old e) (IsStampedCopy past) (copy_stamped e comes) next.copies (law.held is_open);
      reads = all_mapped (IsReadOf old (length past + 1) outcome) (IsStampedRead past) (λ p is. fetch_stamped outcome p p.fetch refl is) next.pending law.reads;
      above = above;
      joins = λ joins. joins_on h fit past admissions all listed id member joins old next above e comes (length past + 1) outcome law (lineage.joins joins);
    }

-- A member's node changes, and its floors never fall

module _ (h : Tables) (past : List Step) (w : World) (lineage : HasLineage h past w) (id : ℕ) (s : NodeState ℕ)
    (floors : Rises (node_at w.states id).floors s.floors) (node : NodeHasLineage h past id s) where
  grown : Grows w.states (with_node w.states id s)
  grown = grows_by w.states id s floors

  -- who has obeyed a number still has
  still : (new : World) → new.states ≡ with_node w.states id s → new.master ≡ w.master → (number : ℕ) → number ≤ w.master.last →
      AllHaveObeyed h past w number → AllHaveObeyed h past new number
  still new states master number low all =
      all_later past past (extends_itself past) h w new (subst (Grows w.states) (sym states) grown)
      (subst (λ (m : PurgeList). Agree h (length (numbers past)) w.master.admissions m.admissions) (sym master)
      (agrees_itself h (length (numbers past)) w.master.admissions)) number (omega (arith, lineage.last, low)) all

  -- the world with what was sent
  abbrev pub posted : List Datagram → List PeerAsk → List PeerAnswer → List Waiting → World
  posted datagrams asks answers waiting = record {
    states = with_node w.states id s;
    master = w.master;
    clock = w.clock;
    datagrams = w.datagrams ++ datagrams;
    asks = asks;
    answers = w.answers ++ answers;
    waiting = waiting;
  }

  -- with what was sent, the invariant holds
  pub state_keeps : (datagrams : List Datagram) (asks : List PeerAsk) (answers : List PeerAnswer) (waiting : List Waiting) →
      AllByRecursion (IsMastersRightly h past w.master.admissions) datagrams → AllByRecursion (IsObeyed h past (with_node w.states id s)) datagrams →
      AllByRecursion (IsSentAnswer past) answers →
      HasLineage h past (posted datagrams asks answers waiting)
  state_keeps datagrams asks answers waiting masters obeyed stamped = record {
    last = lineage.last;
    small = lineage.small;
    nodes = each_node (λ each (now : NodeState ℕ). NodeHasLineage h past each now) w.states id s node lineage.nodes;
    masters = all_joined (IsMastersRightly h past w.master.admissions) w.datagrams datagrams lineage.masters masters;
    obeyed = all_joined (IsObeyed h past (with_node w.states id s)) w.datagrams datagrams
        (obeyed_later past past (extends_itself past) h w.states (with_node w.states id s) grown w.datagrams lineage.obeyed) obeyed;
    answers = all_joined (IsSentAnswer past) w.answers answers lineage.answers stamped;
    pending = purges_later past past (extends_itself past) h w.states (with_node w.states id s) grown w.master.pending lineage.pending;
    admissions = lineage.admissions;
    listed = lineage.listed;
    done = λ number low high none. still (posted datagrams asks answers waiting) refl refl number high (lineage.done number low high none);
    reported = λ place number told. (
      (lineage.reported place number told).0,
      still (posted datagrams asks answers waiting) refl refl number (lineage.reported place number told).0
          (lineage.reported place number told).1,
    );
  }

  -- it also holds if nothing was sent
  pub silent_keeps : HasLineage h past (with_member_state w id s)
  silent_keeps = record {
    last = lineage.last;
    small = lineage.small;
    nodes = each_node (λ each (now : NodeState ℕ). NodeHasLineage h past each now) w.states id s node lineage.nodes;
    masters = lineage.masters;
    obeyed = obeyed_later past past (extends_itself past) h w.states (with_node w.states id s) grown w.datagrams lineage.obeyed;
    answers = lineage.answers;
    pending = purges_later past past (extends_itself past) h w.states (with_node w.states id s) grown w.master.pending lineage.pending;
    admissions = lineage.admissions;
    listed = lineage.listed;
    done = λ number low high none. still (with_member_state w id s) refl refl number high (lineage.done number low high none);
    reported = λ place number told. (
      (lineage.reported place number told).0,
      still (with_member_state w id s) refl refl number (lineage.reported place number told).0
          (lineage.reported place number told).1,
    );
  }

-- What a node sends

-- an acknowledgement is an HTCP message
htcp_only : (m : Message) (number : ℕ) → acknowledged m ≡ Some number → udp_of m ≡ udp.Htcp
htcp_only (message.Icp m) number e = absurd (none-some number e)
htcp_only (message.Htcp m) number e = refl

module _ (h : Tables) (proper : IsRoster h) (past : List Step) (admissions : List Admission) (id : ℕ) (next : NodeState ℕ) where
  -- a node that acknowledges the CLR of a number has obeyed it

  reached_by : (number : ℕ) (given : Given) (named : ℕ) → IsItem (numbers past) number given →
      effect.HasRaised next.floors (Some (raise_of number given)) named → HasObeyed past next named
  reached_by number (OfPurge key) named item raised = (OfPurge key, subst (λ n. IsItem (numbers past) n (OfPurge key)) raised.0 item, raised.1)
  reached_by number (OfAdmission who) named item raised = (OfAdmission who, subst (λ n. IsItem (numbers past) n (OfAdmission who)) raised.0 item, raised.1)

  raised_by : (from : Address) (m : Message) (number : ℕ) → is_master h from ≡ true → IsClear past m →
      effect.HasRaised next.floors (raise_in_message (setting h id) from m) number → HasObeyed past next number
  raised_by from m number master is raised = reached_by is.number is.given number is.item
      (subst (λ o. effect.HasRaised next.floors o number) (clear_brings h past id from m master is) raised)

  event_raised : (e : Event ℕ) → ComesRightly h past admissions id e → (to : Address) (number : ℕ) → is_master h to ≡ true → ComesFrom e to →
      effect.HasRaised next.floors (raise_in (setting h id) e) number → HasObeyed past next number
  event_raised (event.Datagram from m now) comes to number master same raised =
      let from_master : is_master h from ≡ true = subst (λ a. is_master h a ≡ true) (sym same) master in
      raised_by from m number from_master (comes from_master).clear raised
  event_raised _ comes to number master same raised = absurd same

  module _ (states : List MemberState) (at_id : node_at states id ≡ next) (e : Event ℕ) (comes : ComesRightly h past admissions id e) (c : Member)
      (entry : member_of h id ≡ Some c) where
    sent_datagram : Outgoing → Datagram
    sent_datagram o = record { sender = address_by (udp_of o.message) c.cache; receiver = o.to; message = o.message }

    outgoing_obeyed : (o : Outgoing) → IsObedient (setting h id) e next.floors o → IsObeyed h past states (sent_datagram o)
    unfolding sent_datagram
    outgoing_obeyed o obeys to_master number acknowledges other from =
        let both = subst (Acknowledges (setting h id) e next.floors o.to) acknowledges obeys in
        let address : address_by (udp_of o.message) c.cache ≡ c.cache.htcp = ap (λ by. address_by by c.cache) (htcp_only o.message number acknowledges) in
        let same : id ≡ other = same_Some id other (sym (proper.own.found id c entry) ∙ ap (λ a. member_at h a udp.Htcp) (sym address) ∙ from) in
        subst (λ n. HasObeyed past (node_at states n) number) same
        (subst (λ s. HasObeyed past s number) (sym at_id) (event_raised e comes o.to number to_master both.0 both.1))

    outgoing_masters : (o : Outgoing) → IsMastersRightly h past admissions (sent_datagram o)
    unfolding sent_datagram
    outgoing_masters o from = absurd (true_not_false (sym from ∙ proper.own.apart id c (udp_of o.message) entry))

    all_obeyed : (sent : List Outgoing) → AllByRecursion (IsObedient (setting h id) e next.floors) sent →
        AllByRecursion (IsObeyed h past states) (map sent_datagram sent)
    all_obeyed [] all = tt
    all_obeyed (o ∷ sent) all = (outgoing_obeyed o all.0, all_obeyed sent all.1)

    all_masters : (sent : List Outgoing) → AllByRecursion (IsMastersRightly h past admissions) (map sent_datagram sent)
    all_masters [] = tt
    all_masters (o ∷ sent) = (outgoing_masters o, all_masters sent)

  module _ (states : List MemberState) (at_id : node_at states id ≡ next) (e : Event ℕ) (comes : ComesRightly h past admissions id e)
      (sent : List Outgoing) where
    datagrams_obeyed : (o : Option Member) → member_of h id ≡ o → AllByRecursion (IsObedient (setting h id) e next.floors) sent →
        AllByRecursion (IsObeyed h past states) (datagrams_from o sent)
    unfolding sent_datagram
    datagrams_obeyed None entry all = tt
    datagrams_obeyed (Some c) entry all = all_obeyed states at_id e comes c entry sent all

    datagrams_masters : (o : Option Member) → member_of h id ≡ o → AllByRecursion (IsMastersRightly h past admissions) (datagrams_from o sent)
    unfolding sent_datagram
    datagrams_masters None entry = tt
    datagrams_masters (Some c) entry = all_masters states at_id e comes c entry sent

-- the responses that a node sends keep the invariant
served_stamped : (past : List Step) (served : Served ℕ) → IsBareStatus served → ((c : WebCopy ℕ) → copy_in served ≡ Some c → IsStampedCopy past c) →
    IsStampedAnswer past (answer_of served) (mark_of served)
served_stamped past (Copy c age) bare stamped = inr (stamped c refl)
served_stamped past (Status status) bare stamped = inl bare

answer_sent : (past : List Step) (id : ℕ) (asker : Option ℕ) (served : Served ℕ) (a : Option Answered) →
    IsStampedAnswer past (answer_of served) (mark_of served) → AllByRecursion (IsSentAnswer past) (answer_to id asker served a)
answer_sent past id (Some asker) served (Some a) is = (is, tt)
answer_sent past id (Some asker) served None is = tt
answer_sent past id None served a is = tt

answers_sent : (past : List Step) (waiting : List Waiting) (id : ℕ) (e : Event ℕ) (serial : ℕ) (serve : Option (Serve ℕ)) → IsBareInServe serve →
    ((c : WebCopy ℕ) → copy_in_serve serve ≡ Some c → IsStampedCopy past c) → AllByRecursion (IsSentAnswer past) (answers_in waiting id e serial serve)
answers_sent past waiting id e serial None bare stamped = tt
answers_sent past waiting id e serial (Some serve) bare stamped = answer_sent past id serve.asker serve.served (asked_by waiting id e serial serve.waiter)
    (served_stamped past serve.served bare stamped)

-- A node's step

module _ (h : Tables) (proper : IsRoster h) (past : List Step) (w : World) (lineage : HasLineage h past w) (id : ℕ) (member : is_member h id ≡ true)
    (e : Event ℕ) (comes : ComesRightly h past w.master.admissions id e) (serial : ℕ) where
  result_keeps : (outcome : Result (Reply ℕ) StepFault) (next : NodeState ℕ) → Steps (setting h id) (node_at w.states id) e (length past + 1) outcome next →
      Lawful (setting h id) (node_at w.states id) e (length past + 1) outcome next →
      AllByRecursion (IsObedient (setting h id) e next.floors) (reply_in outcome).send → IsBareInServe (reply_in outcome).serve →
      ((c : WebCopy ℕ) → copy_in_serve (reply_in outcome).serve ≡ Some c → IsStampedCopy past c) →
      HasLineage h past (after_node h w id e serial outcome next)
  result_keeps outcome next steps law obeys bare stamped =
      let at_id : node_at (with_node w.states id next) id ≡ next = node_at-same w.states id next in
      let rises : Rises (node_at w.states id).floors next.floors =
      record { floors = law.floors; base = base_up (setting h id) (node_at w.states id) e next law.base } in
      state_keeps h past w lineage id next rises
      (node_keeps h past w.master.admissions id (node_at w.states id) (lineage.nodes id) proper.ranges lineage.admissions lineage.listed member e comes outcome
      next steps) _ _ _ _
      (datagrams_masters h proper past w.master.admissions id next (with_node w.states id next) at_id e comes (reply_in outcome).send (member_of h id) refl)
      (datagrams_obeyed h proper past w.master.admissions id next (with_node w.states id next) at_id e comes (reply_in outcome).send
      (member_of h id) refl obeys)
      (answers_sent past w.waiting id e serial (reply_in outcome).serve bare stamped)

  pub takes_keeps : (outcome : Result (Reply ℕ) StepFault) (next : NodeState ℕ) → Steps (setting h id) (node_at w.states id) e (length past + 1) outcome next →
      Lawful (setting h id) (node_at w.states id) e (length past + 1) outcome next → HasLineage h past (after_node h w id e serial outcome next)
  takes_keeps (Ok reply) next steps law = result_keeps (Ok reply) next steps law law.acknowledges law.statuses
      (λ c is. copy_stamped h past w.master.admissions id (node_at w.states id) (lineage.nodes id) e comes c (law.serves c is))
  takes_keeps (Err fault) next steps law = result_keeps (Err fault) next steps law tt tt (λ c is. absurd (none-some c is))
