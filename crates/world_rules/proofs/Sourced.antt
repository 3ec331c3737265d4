-- A step of a member's node keeps the invariant of sources. By steps_are_lawful a copy was there or
-- is the event's response; by Asked it is served to the request that it is for; a read that begins
-- takes this step's place as its mark.
use Rattle.std.proofs.Common.{◌≡◌, ◌≢◌, ℕ, ◌+◌, true, false, List, [], ◌∷◌, ◌++◌, length, Option, Some, None, Result, Ok, Err, refl, sym, ◌∙◌, ap, subst, inl}
use Rattle.std.proofs.Common.{inr, append_assoc}
use Rattle.std.specs.Prelude.{◌⊎◌}
use Rattle.std.specs.List.{AllByRecursion, Contains}
use Rattle.std.proofs.Math.Decide.{ℕ_discrete}
use Rattle.std.proofs.lemmas.Option.{none-some}
use Rattle.http_messages.specs.declared.ask.Ask.{Ask}
use Rattle.http_messages.specs.Answer.{AnswerText}
use Rattle.object_store.specs.declared.copy.WebCopy.{WebCopy}
use Rattle.node_rules.specs.declared.state.Fetch.{Fetch}
use Rattle.node_rules.specs.declared.state.Fetch.TheVariants.{Nowhere, AtPeer, AtOrigin}
use Rattle.node_rules.specs.declared.state.Pending.{Pending}
use Rattle.node_rules.specs.declared.state.NodeState.{NodeState}
use Rattle.node_rules.specs.declared.event.Event.{Event}
use Rattle.node_rules.specs.declared.event.Event.TheVariants as event
use Rattle.node_rules.specs.declared.reply.Served.{Served}
use Rattle.node_rules.specs.declared.reply.Served.TheVariants.{Copy, Status}
use Rattle.node_rules.specs.declared.reply.Serve.{Serve}
use Rattle.node_rules.specs.declared.reply.Reply.{Reply}
use Rattle.node_rules.specs.declared.reply.StepFault.{StepFault}
use Rattle.node_rules.specs.Arrivals.{is_gateway_fault}
use Rattle.node_rules.specs.Fetching.{origin_ask}
use Rattle.node_rules.specs.State.{fetch_serial, setting}
use Rattle.node_rules.specs.Relation.{Steps}
use Rattle.node_rules.specs.Effect.{copy_in, copy_in_serve, IsBareStatus, IsBareInServe, IsReadFrom, IsReadOf, IsAnswerOf, IsFromPeer}
use Rattle.node_rules.specs.Lawful.{HasOrGets, Lawful}
use Rattle.node_rules.proofs.Cases.{true_not_false, same_Some}
use Rattle.node_rules.proofs.Pendings.{all_mapped, all_joined, contained}
use Rattle.node_rules.proofs.Lawful.{steps_are_lawful}
use Rattle.values_tables.specs.declared.plain.Tables.{Tables}
use Rattle.world_rules.specs.declared.event.WorldEvent.{WorldEvent}
use Rattle.world_rules.specs.World.{MemberState, PeerAnswer, World, new_world, node_at, with_node, Answered, answer_of, mark_of, answer_to, asked_before}
use Rattle.world_rules.specs.World.{asked_by, answers_in, reply_in, after_node}
use Rattle.world_rules.specs.Consequence.{Replied, NodeSteps, consequence}
use Rattle.world_rules.specs.Run.{Step, Run}
use Rattle.world_rules.specs.Asked.{IsFor, IsServedRightly, IsRightlyIn, AnswersAsks}
use Rattle.world_rules.specs.Provenance.{NodeStepAt, HasContent, BeginsReadAt, HasSource, IsSourcedCopy}
use Rattle.world_rules.specs.Sources.{FetchHasBegun, ReadHasBegun, AnswerHasSource, NodeHasSources, NodeHasAsks, IsKept, HasSources}
use Rattle.world_rules.proofs.Items.{append_nil}
use Rattle.world_rules.proofs.MemberStates.{node_at-same, node_at-other, each_node}
use Rattle.world_rules.proofs.Asked.{steps_answer_asks}
use Rattle.world_rules.proofs.Waiting.{asks_after, others_after}

-- Sources stay as the run goes on

module _ (h : Tables) (past more : List Step) where
  node_step_later : {place id : ℕ} {e : Event ℕ} {outcome : Result (Reply ℕ) StepFault} → NodeStepAt h past place id e outcome →
      NodeStepAt h (past ++ more) place id e outcome
  node_step_later s = record {
    past = s.past;
    before = s.before;
    cause = s.cause;
    serial = s.serial;
    rest = s.rest ++ more;
    place_is = s.place_is;
    parts = ap (λ l. l ++ more) s.parts ∙ append_assoc _ s.rest more;
    runs = s.runs;
    meets = s.meets;
  }

  begins_later : (place id serial : ℕ) (key : List ℕ) → BeginsReadAt h past place id serial key → BeginsReadAt h (past ++ more) place id serial key
  begins_later place id serial key b = record { e = b.e; outcome = b.outcome; step = node_step_later b.step; ask = b.ask; begins = b.begins; asks = b.asks }

  -- the steps that a source names stand in the longer run too, at the same places
  pub source_later : (key : List ℕ) (mark : ℕ) (held : AnswerText) → HasSource h past key mark held → HasSource h (past ++ more) key mark held
  unfolding node_step_later
  source_later key mark held is = elim is [
    | inl o ↦ inl record {
      id = o.id;
      serial = o.serial;
      begins = begins_later mark o.id o.serial key o.begins;
      place = o.place;
      answer = o.answer;
      now = o.now;
      outcome = o.outcome;
      comes = node_step_later o.comes;
      read = o.read;
      waits = o.waits;
      as_serial = o.as_serial;
      stamp = o.stamp;
      asked = o.asked;
      since_mark = o.since_mark;
      content = o.content;
    }
    | inr f ↦ inr record {
      id = f.id;
      serial = f.serial;
      peer = f.peer;
      place = f.place;
      answer = f.answer;
      now = f.now;
      outcome = f.outcome;
      unmarked = f.unmarked;
      comes = node_step_later f.comes;
      content = f.content;
    }
  ]

  fetch_later : (id serial : ℕ) (key : List ℕ) (fetch : Fetch ℕ) → FetchHasBegun h past id serial key fetch → FetchHasBegun h (past ++ more) id serial key fetch
  fetch_later id serial key (AtOrigin stamp asked mark) is = begins_later mark id serial key is
  fetch_later id serial key (AtPeer peer asked) is = tt
  fetch_later id serial key Nowhere is = tt

  pub answers_sourced_later : (answers : List PeerAnswer) → AllByRecursion (AnswerHasSource h past) answers →
      AllByRecursion (AnswerHasSource h (past ++ more)) answers
  answers_sourced_later answers all = all_mapped (AnswerHasSource h past) (AnswerHasSource h (past ++ more))
      (λ a is. elim is [ inl bare ↦ inl bare | inr has ↦ inr (source_later a.key a.mark a.answer has) ]) answers all

  pub node_sources_later : (id : ℕ) (s : NodeState ℕ) → NodeHasSources h past id s → NodeHasSources h (past ++ more) id s
  node_sources_later id s is = record {
    copies = λ is_open. all_mapped (IsSourcedCopy h past) (IsSourcedCopy h (past ++ more)) (λ c has. source_later c.key c.tag c.answer has) s.copies
        (is.copies is_open);
    reads = all_mapped (ReadHasBegun h past id) (ReadHasBegun h (past ++ more) id) (λ p has. fetch_later id (fetch_serial p) p.ask.key p.fetch has) s.pending
        is.reads;
  }

  pub sources_later : (w : World) → HasSources h past w → HasSources h (past ++ more) w
  sources_later w is = record {
    nodes = λ id. node_sources_later id (node_at w.states id) (is.nodes id);
    answers = answers_sourced_later w.answers is.answers;
    asks = is.asks;
  }

-- what the invariant says of an event that reaches a node
abbrev pub KnowsSource : Tables → List Step → Event ℕ → Type 0
KnowsSource h past (event.PeerAnswer serial peer key answer tag now) = (is_gateway_fault answer.status ≡ true) ⊎ HasSource h past key tag answer
KnowsSource h past (event.ForeignAnswer serial peer key answer tag now) = tag ≡ 0
KnowsSource h past _ = Unit {0}

-- what holds of the changed node, and of each other one, holds of all
pub each_but : (P : ℕ → NodeState ℕ → Type 0) (states : List MemberState) (id : ℕ) (s : NodeState ℕ) → P id s →
    ((other : ℕ) → other ≢ id → P other (node_at states other)) → (each : ℕ) → P each (node_at (with_node states id s) each)
each_but P states id s this those each = elim (ℕ_discrete each id) [
  | yes e ↦ subst (λ n. P n (node_at (with_node states id s) n)) (sym e) (subst (P id) (sym (node_at-same states id s)) this)
  | no ne ↦ subst (P each) (sym (node_at-other states id each s ne)) (those each ne)
]

same_content : (answer held : AnswerText) → held ≡ answer → HasContent answer held
same_content answer held e = record {
  status = ap (λ (a : AnswerText). a.status) e;
  fields = ap (λ (a : AnswerText). a.fields) e;
  body =
      ap (λ (a : AnswerText). a.body) e;
}

module _ (h : Tables) (past : List Step) (old : World) (runs : Run h 1 (new_world h) past old) (sources : HasSources h past old) (cause : WorldEvent)
    (id serial : ℕ) (outcome : Result (Reply ℕ) StepFault) where
  abbrev pub Now : List Step
  Now = past ++ record { event = cause; seen = Replied id outcome } ∷ []

  this_step : (e : Event ℕ) → consequence h old cause ≡ NodeSteps id e serial → NodeStepAt h Now (length past + 1) id e outcome
  this_step e meets = record {
    past = past;
    before = old;
    cause = cause;
    serial = serial;
    rest = [];
    place_is = refl;
    parts = sym (append_nil _);
    runs = runs;
    meets = meets;
  }

  -- Copies

  read_at : (p : Pending ℕ) (read_serial : ℕ) (key : List ℕ) (stamp asked mark : ℕ) → Contains (node_at old.states id).pending p →
      fetch_serial p ≡ read_serial → p.ask.key ≡ key → p.fetch ≡ AtOrigin stamp asked mark → BeginsReadAt h Now mark id read_serial key
  read_at p read_serial key stamp asked mark has as_serial as_key reads =
      let was : ReadHasBegun h past id p = contained (ReadHasBegun h past id) (node_at old.states id).pending p (sources.nodes id).reads has in
      let at_fetch : BeginsReadAt h past mark id (fetch_serial p) p.ask.key = subst (FetchHasBegun h past id (fetch_serial p) p.ask.key) reads was in
      begins_later h past (record { event = cause; seen = Replied id outcome } ∷ []) mark id read_serial key
      (subst (λ n. BeginsReadAt h past mark id n key) as_serial (subst (λ k. BeginsReadAt h past mark id (fetch_serial p) k) as_key at_fetch))

  peer_source : (key : List ℕ) (stamp read_serial peer : ℕ) (answer : AnswerText) (tag : ℕ) (p : Pending ℕ) (c : WebCopy ℕ) →
      IsFromPeer read_serial peer key stamp answer tag p c → HasSource h Now key tag answer → IsSourcedCopy h Now c
  peer_source key stamp read_serial peer answer tag p c is has =
      subst (λ k. HasSource h Now k c.tag c.answer) (sym (is.key_same ∙ is.waits.key_same))
      (subst (λ n. HasSource h Now key n c.answer) (sym is.tag_same) (subst (HasSource h Now key tag) (sym is.answer_same) has))

  -- a response of an origin or a foreign cache is its own source, by this step; a member's came with one
  answer_source : (e : Event ℕ) → consequence h old cause ≡ NodeSteps id e serial → KnowsSource h past e → (c : WebCopy ℕ)
      → IsAnswerOf (node_at old.states id) e c →
      IsSourcedCopy h Now c
  unfolding this_step
  answer_source (event.OriginAnswer read_serial key answer now) meets knows c (p, has, is) =
      subst (λ k. HasSource h Now k c.tag c.answer) (sym (is.key_same ∙ is.waits.key_same))
      (inl record {
        id = id;
        serial = read_serial;
        begins = read_at p read_serial key c.stamp c.asked c.tag has is.waits.serial_same is.waits.key_same is.reads;
        place = length past + 1;
        answer = answer;
        now = now;
        outcome = outcome;
        comes = this_step (event.OriginAnswer read_serial key answer now) meets;
        read = p;
        waits = has;
        as_serial = is.waits.serial_same;
        stamp = c.stamp;
        asked = c.asked;
        since_mark = is.reads;
        content = same_content answer c.answer is.answer_same;
      })
  answer_source (event.PeerAnswer read_serial peer key answer tag now) meets knows c (p, has, is) = elim knows [
    | inl bare ↦ absurd (true_not_false (sym bare ∙ is.status))
    | inr source ↦ peer_source key _ read_serial peer answer tag p c is
        (source_later h past (record { event = cause; seen = Replied id outcome } ∷ []) key tag answer source)
  ]
  answer_source (event.ForeignAnswer read_serial peer key answer tag now) meets knows c (p, has, is) =
      peer_source key 0 read_serial peer answer tag p c is
      (inr record {
        id = id;
        serial = read_serial;
        peer = peer;
        place = length past + 1;
        answer = answer;
        now = now;
        outcome = outcome;
        unmarked = knows;
        comes = subst (λ n. NodeStepAt h Now (length past + 1) id (event.ForeignAnswer read_serial peer key answer n now) outcome) knows
            (this_step (event.ForeignAnswer read_serial peer key answer tag now) meets);
        content = same_content answer answer refl;
      })
  answer_source _ meets knows c is = absurd is.2

  pub copy_source : (e : Event ℕ) → consequence h old cause ≡ NodeSteps id e serial → KnowsSource h past e → (c : WebCopy ℕ)
      → HasOrGets (node_at old.states id) e c →
      IsSourcedCopy h Now c
  copy_source e meets knows c has = elim has.1 [
    | inl held ↦ source_later h past (record { event = cause; seen = Replied id outcome } ∷ []) c.key c.tag c.answer
        (contained (IsSourcedCopy h past) (node_at old.states id).copies c ((sources.nodes id).copies has.0) held)
    | inr gets ↦ answer_source e meets knows c gets
  ]

  -- Reads

  read_source : (e : Event ℕ) → consequence h old cause ≡ NodeSteps id e serial → (p : Pending ℕ) (fetch : Fetch ℕ) → p.fetch ≡ fetch →
      IsReadFrom (node_at old.states id) (length past + 1) outcome p fetch → FetchHasBegun h Now id (fetch_serial p) p.ask.key fetch
  read_source e meets p (AtOrigin stamp asked mark) same is = elim is [
    | inl was ↦ read_at was.was (fetch_serial p) p.ask.key stamp asked mark was.waits was.serial (ap (λ (a : Ask). a.key) was.ask) (was.fetch ∙ same)
    | inr begins ↦ subst (λ n. BeginsReadAt h Now n id (fetch_serial p) p.ask.key) (sym begins.mark_same) record
        { e = e; outcome = outcome; step = this_step e meets; ask = origin_ask p.ask; begins = begins.begins; asks = refl }
  ]
  read_source e meets p (AtPeer peer asked) same is = tt
  read_source e meets p Nowhere same is = tt

  node_sources : (e : Event ℕ) → consequence h old cause ≡ NodeSteps id e serial → KnowsSource h past e → (next : NodeState ℕ) →
      Lawful (setting h id) (node_at old.states id) e (length past + 1) outcome next → NodeHasSources h Now id next
  node_sources e meets knows next law = record {
    copies = λ is_open. all_mapped (HasOrGets (node_at old.states id) e) (IsSourcedCopy h Now) (copy_source e meets knows) next.copies (law.held is_open);
    reads = all_mapped (IsReadOf (node_at old.states id) (length past + 1) outcome) (ReadHasBegun h Now id) (λ p is. read_source e meets p p.fetch refl is)
        next.pending law.reads;
  }

  -- Responses to members

  -- the request that is answered is for the key that is served
  same_key : (e : Event ℕ) (waiter : Option ℕ) (asker : ℕ) (key : List ℕ) (a : Answered) → (node_at old.states id).closed ≡ false →
      IsFor (node_at old.states id) e waiter (Some asker) key → asked_by old.waiting id e serial waiter ≡ Some a → a.key ≡ key
  same_key (event.PeerAsk member ask now) None asker key a is_open (asks, is, same) e = ap (λ (a : Answered). a.key) (sym (same_Some _ a e))
      ∙ ap (λ (a : Ask). a.key) (sym is.1) ∙ same
  same_key (event.Client ask now) None asker key a is_open (asks, is, same) e = absurd (none-some a e)
  same_key _ None asker key a is_open (asks, is, same) e = absurd is
  same_key _ (Some block) asker key a is_open (p, has, block_same, asker_same, same) e =
      let kept : (a : Answered) × (asked_before old.waiting id p.block ≡ Some a) × (a.key ≡ p.ask.key) =
      contained (IsKept old.waiting id) (node_at old.states id).pending p (sources.asks id is_open).kept has asker asker_same in
      let found : asked_before old.waiting id block ≡ Some kept.0 = ap (λ n. asked_before old.waiting id n) (sym block_same) ∙ kept.1 in
      ap (λ (a : Answered). a.key) (same_Some a kept.0 (sym e ∙ found)) ∙ kept.2 ∙ same

  -- the answer is for the key of the copy that is served, which has a source; a bare status needs none
  answer_sourced : (e : Event ℕ) (waiter : Option ℕ) (asker : ℕ) (served : Served ℕ) (a : Answered) → asked_by old.waiting id e serial waiter ≡ Some a →
      IsBareStatus served →
      ((c : WebCopy ℕ) → copy_in served ≡ Some c → ((node_at old.states id).closed ≡ false) × IsSourcedCopy h Now c) →
      IsServedRightly (node_at old.states id) e waiter (Some asker) served →
      (is_gateway_fault (answer_of served).status ≡ true) ⊎ HasSource h Now a.key (mark_of served) (answer_of served)
  answer_sourced e waiter asker (Copy c age) a is bare source rightly =
      let has = source c refl in
      let key : a.key ≡ c.key = same_key e waiter asker c.key a has.0 rightly.1 is in
      inr (subst (λ k. HasSource h Now k c.tag (answer_of (Copy c age))) (sym key) (elim has.1 [
        | inl o ↦ inl record {
          id = o.id;
          serial = o.serial;
          begins = o.begins;
          place = o.place;
          answer = o.answer;
          now = o.now;
          outcome = o.outcome;
          comes = o.comes;
          read = o.read;
          waits = o.waits;
          as_serial = o.as_serial;
          stamp = o.stamp;
          asked = o.asked;
          since_mark = o.since_mark;
          content = record { status = o.content.status; fields = o.content.fields; body = o.content.body };
        }
        | inr f ↦ inr record {
          id = f.id;
          serial = f.serial;
          peer = f.peer;
          place = f.place;
          answer = f.answer;
          now = f.now;
          outcome = f.outcome;
          unmarked = f.unmarked;
          comes = f.comes;
          content = record { status = f.content.status; fields = f.content.fields; body = f.content.body };
        }
      ]))
  answer_sourced e waiter asker (Status status) a is bare source rightly = inl bare

  sent_sourced : (e : Event ℕ) (waiter asker : Option ℕ) (served : Served ℕ) (a : Option Answered) → asked_by old.waiting id e serial waiter ≡ a →
      IsBareStatus served →
      ((c : WebCopy ℕ) → copy_in served ≡ Some c → ((node_at old.states id).closed ≡ false) × IsSourcedCopy h Now c) →
      IsServedRightly (node_at old.states id) e waiter asker served →
      AllByRecursion (AnswerHasSource h Now) (answer_to id asker served a)
  sent_sourced e waiter (Some asker) served (Some a) is bare source rightly = (answer_sourced e waiter asker served a is bare source rightly, tt)
  sent_sourced e waiter (Some asker) served None is bare source rightly = tt
  sent_sourced e waiter None served a is bare source rightly = tt

  all_sourced : (e : Event ℕ) (serve : Option (Serve ℕ)) → IsBareInServe serve →
      ((c : WebCopy ℕ) → copy_in_serve serve ≡ Some c → ((node_at old.states id).closed ≡ false) × IsSourcedCopy h Now c) →
      IsRightlyIn (node_at old.states id) e serve →
      AllByRecursion (AnswerHasSource h Now) (answers_in old.waiting id e serial serve)
  all_sourced e None bare source rightly = tt
  all_sourced e (Some serve) bare source rightly = sent_sourced e serve.waiter serve.asker serve.served (asked_by old.waiting id e serial serve.waiter) refl
      bare source rightly

-- The world after the step

module _ (h : Tables) (past : List Step) (old : World) (runs : Run h 1 (new_world h) past old) (sources : HasSources h past old) (cause : WorldEvent)
    (id serial : ℕ) (e : Event ℕ) (meets : consequence h old cause ≡ NodeSteps id e serial) (knows : KnowsSource h past e) where
  step_sources : (outcome : Result (Reply ℕ) StepFault) (next : NodeState ℕ) → Lawful (setting h id) (node_at old.states id) e (length past + 1) outcome next →
      AnswersAsks (node_at old.states id) e outcome next →
      IsBareInServe (reply_in outcome).serve → ((c : WebCopy ℕ) → copy_in_serve (reply_in outcome).serve ≡ Some c →
      ((node_at old.states id).closed ≡ false) × IsSourcedCopy h (past ++ record { event = cause; seen = Replied id outcome } ∷ []) c) →
      IsRightlyIn (node_at old.states id) e (reply_in outcome).serve → HasSources h (past ++ record { event = cause; seen = Replied id outcome } ∷ [])
      (after_node h old id e serial outcome next)
  step_sources outcome next law asked bare source rightly = record {
    nodes = each_node (λ each (s : NodeState ℕ). NodeHasSources h (past ++ record { event = cause; seen = Replied id outcome } ∷ []) each s) old.states id next
        (node_sources h past old runs sources cause id serial outcome e meets knows next law)
        (λ each. node_sources_later h past (record { event = cause; seen = Replied id outcome } ∷ []) each (node_at old.states each) (sources.nodes each));
    answers = all_joined (AnswerHasSource h (past ++ record { event = cause; seen = Replied id outcome } ∷ [])) old.answers
        (answers_in old.waiting id e serial (reply_in outcome).serve)
        (answers_sourced_later h past (record { event = cause; seen = Replied id outcome } ∷ []) old.answers sources.answers)
        (all_sourced h past old runs sources cause id serial outcome e (reply_in outcome).serve bare source rightly);
    asks = each_but (λ each (s : NodeState ℕ). s.closed ≡ false → NodeHasAsks (after_node h old id e serial outcome next).waiting each s) old.states id next
        (λ is_open. asks_after old.waiting id (node_at old.states id) e serial outcome next (sources.asks id (asked.opens is_open)) asked)
        (λ other ne is_open. others_after old.waiting id (node_at old.states id) e serial outcome next other (node_at old.states other) ne
        (sources.asks other is_open));
  }

  pub stepped_sources : (outcome : Result (Reply ℕ) StepFault) (next : NodeState ℕ) → Steps (setting h id) (node_at old.states id) e (length past + 1) outcome
      next →
      HasSources h (past ++ record { event = cause; seen = Replied id outcome } ∷ []) (after_node h old id e serial outcome next)
  stepped_sources (Ok reply) next steps =
      let law = steps_are_lawful (setting h id) (node_at old.states id) e (length past + 1) (Ok reply) next steps in
      let asked = steps_answer_asks (setting h id) (node_at old.states id) (length past + 1) e (Ok reply) next steps in
      step_sources (Ok reply) next law asked law.statuses
      (λ c is. (let has = law.serves c is in (has.0, copy_source h past old runs sources cause id serial (Ok reply) e meets knows c has))) asked.serves
  stepped_sources (Err fault) next steps =
      step_sources (Err fault) next (steps_are_lawful (setting h id) (node_at old.states id) e (length past + 1) (Err fault) next steps)
      (steps_answer_asks (setting h id) (node_at old.states id) (length past + 1) e (Err fault) next steps) tt (λ c is. absurd (none-some c is)) tt
