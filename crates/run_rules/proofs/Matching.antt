-- The network of a run and that of the world: what the run has as sent or waiting, the world has
-- too, with serials and marks. This stays so, since both grow by the same reply.
use Rattle.std.proofs.Common.{◌≡◌, ℕ, ◌/◌, Bool, true, false, cond, not, ◌&&◌, List, [], ◌∷◌, ◌++◌, filter, Option, Some, None, refl, sym, ◌∙◌, ap, inl, inr}
use Rattle.std.proofs.Common.{nat_eq, subst}
use Rattle.std.specs.Prelude.{find, Contains, option_map, ◌≢◌}
use Rattle.std.proofs.lemmas.List.Elements.{Contains-append_left, Contains-append_right, Contains-append_cases}
use Rattle.http_messages.specs.declared.ask.Ask.{Ask}
use Rattle.values_tables.specs.Ranges.{is_foreign_id}
use Rattle.node_rules.specs.declared.event.Event.{Event}
use Rattle.node_rules.specs.declared.event.Event.TheVariants as event
use Rattle.node_rules.specs.declared.reply.Served.{Served}
use Rattle.node_rules.specs.declared.reply.Served.TheVariants.{Copy, Status}
use Rattle.node_rules.specs.declared.reply.Serve.{Serve}
use Rattle.node_rules.specs.declared.reply.Begin.{Begin}
use Rattle.node_rules.specs.declared.reply.Begin.TheVariants as begin
use Rattle.node_rules.specs.State.{serial_of}
use Rattle.node_rules.specs.Tags.{retag_served, retag_serve}
use Rattle.node_rules.proofs.Cases.{true_not_false}
use Rattle.world_rules.specs.World.{World, Datagram, PeerAsk, PeerAnswer, Waiting, Answered, asks_in, answer_of, answers_in, answer_to, asked_now, asked_by}
use Rattle.world_rules.specs.World.{is_waiting_as, waits_now}
use Rattle.world_rules.proofs.MemberStates.{same_id, ids_same, other_id, and_parts}
use Rattle.run_rules.specs.Sent.{SentAsk, SentAnswer, Waits, Network, asks_by, answers_by, answer_for, key_by, key_now, text_of, is_waiting, waits_by}
use Rattle.run_rules.specs.Recorded.{unmarked_event}
use Rattle.run_rules.proofs.Lists.{either, same_some, contains_none, contains_one, one_contains, found_kept, found_gone}

-- What was sent

pub record IsSameAsk (a : SentAsk) (w : PeerAsk) : Type 0 where
  pub sender : w.sender ≡ a.sender
  pub receiver : w.receiver ≡ a.receiver
  pub ask : w.ask ≡ a.ask

pub record IsSameAnswer (a : SentAnswer) (w : PeerAnswer) : Type 0 where
  pub sender : w.sender ≡ a.sender
  pub receiver : w.receiver ≡ a.receiver
  pub key : w.key ≡ a.key
  pub answer : w.answer ≡ a.answer

abbrev pub AsksMatch : List SentAsk → List PeerAsk → Type 0
AsksMatch asks ws = (a : SentAsk) → Contains asks a → (w : PeerAsk) × Contains ws w × IsSameAsk a w

abbrev pub AnswersMatch : List SentAnswer → List PeerAnswer → Type 0
AnswersMatch answers ws = (a : SentAnswer) → Contains answers a → (w : PeerAnswer) × Contains ws w × IsSameAnswer a w

abbrev pub WaitsMatch : List Waits → List Waiting → Type 0
WaitsMatch waits ws = (id block : ℕ) (x : Waits) → find (is_waiting id block) waits ≡ Some x → (y : Waiting) × (find (is_waiting_as id block) ws ≡ Some y)
    × (y.key ≡ x.key)

pub record NetworkMatches (n : Network) (w : World) : Type 0 where
  pub datagrams : (d : Datagram) → Contains n.datagrams d → Contains w.datagrams d
  pub asks : AsksMatch n.asks w.asks
  pub answers : AnswersMatch n.answers w.answers
  pub waiting : WaitsMatch n.waiting w.waiting

-- Both lists grow

pub datagrams_grow : (xs more ys others : List Datagram) → ((d : Datagram) → Contains xs d → Contains ys d) →
    ((d : Datagram) → Contains more d → Contains others d) → (d : Datagram) → Contains (xs ++ more) d → Contains (ys ++ others) d
datagrams_grow xs more ys others old new d has = elim (Contains-append_cases xs more d has) [
  | inl left ↦ Contains-append_left ys others d (old d left)
  | inr right ↦ Contains-append_right ys others d (new d right)
]

pub asks_grow : (xs more : List SentAsk) (ys others : List PeerAsk) → AsksMatch xs ys → AsksMatch more others → AsksMatch (xs ++ more) (ys ++ others)
asks_grow xs more ys others old new a has = elim (Contains-append_cases xs more a has) [
  | inl left ↦ let (w, there, same) = old a left in (w, Contains-append_left ys others w there, same)
  | inr right ↦ let (w, there, same) = new a right in (w, Contains-append_right ys others w there, same)
]

pub answers_grow : (xs more : List SentAnswer) (ys others : List PeerAnswer) → AnswersMatch xs ys → AnswersMatch more others →
    AnswersMatch (xs ++ more) (ys ++ others)
answers_grow xs more ys others old new a has = elim (Contains-append_cases xs more a has) [
  | inl left ↦ let (w, there, same) = old a left in (w, Contains-append_left ys others w there, same)
  | inr right ↦ let (w, there, same) = new a right in (w, Contains-append_right ys others w there, same)
]

-- What a reply sends

ask_by_id : (id serial peer : ℕ) (ask : Ask) (foreign : Bool) → AsksMatch (cond foreign [] (record { sender = id; receiver = peer; ask = ask } ∷ []))
    (cond foreign [] (record { sender = id; receiver = peer; serial = serial; ask = ask } ∷ []))
ask_by_id id serial peer ask true a has = absurd (contains_none a has)
ask_by_id id serial peer ask false a has =
    let here = contains_one record { sender = id; receiver = peer; ask = ask } a has in (
      record { sender = id; receiver = peer; serial = serial; ask = ask },
      one_contains _,
      record { sender = ap (λ (x : SentAsk). x.sender) here; receiver = ap (λ (x : SentAsk). x.receiver) here; ask = ap (λ (x : SentAsk). x.ask) here },
    )

pub asks_same : (id : ℕ) (b : Option Begin) → AsksMatch (asks_by id b) (asks_in id b)
asks_same id None a has = absurd (contains_none a has)
asks_same id (Some (begin.Round serial)) a has = absurd (contains_none a has)
asks_same id (Some (begin.Read serial ask)) a has = absurd (contains_none a has)
asks_same id (Some (begin.Peer serial peer ask)) a has = ask_by_id id serial peer ask (is_foreign_id peer) a has

-- marks do not change what is written
text_same : (served : Served ℕ) → text_of (retag_served (λ _. tt) served) ≡ answer_of served
text_same (Copy c age) = refl
text_same (Status status) = refl

-- the key of the request that is answered is the same in the world
abbrev KeyMatches : Option (List ℕ) → Option Answered → Type 0
KeyMatches key asked = (k : List ℕ) → key ≡ Some k → (a : Answered) × (asked ≡ Some a) × (a.key ≡ k)

now_matches : (e : Event ℕ) (serial : ℕ) → KeyMatches (key_now (unmarked_event e)) (asked_now e serial)
now_matches (event.Client ask now) serial k h = cc
now_matches (event.Datagram from m now) serial k h = cc
now_matches (event.PeerAsk asker ask now) serial k h = (record { serial = serial; key = ask.key }, refl, same_some ask.key k h)
now_matches (event.PeerAnswer s peer key answer tag now) serial k h = cc
now_matches (event.OriginAnswer s key answer now) serial k h = cc
now_matches (event.ForeignAnswer s peer key answer tag now) serial k h = cc
now_matches (event.FetchFailed s now) serial k h = cc
now_matches (event.Expired s now) serial k h = cc

before_by : (o : Option Waits) (ws : Option Waiting) (k : List ℕ) → ((x : Waits) → o ≡ Some x → (y : Waiting) × (ws ≡ Some y) × (y.key ≡ x.key)) →
    option_map (λ (x : Waits). x.key) o ≡ Some k →
    (a : Answered) × (option_map (λ (w : Waiting). record { serial = w.serial; key = w.key }) ws ≡ Some a) × (a.key ≡ k)
before_by None ws k h e = cc
before_by (Some x) ws k h e =
    let (y, is, same) = h x refl in
    (record { serial = y.serial; key = y.key }, ap (option_map (λ (w : Waiting). record { serial = w.serial; key = w.key })) is, same ∙ same_some x.key k e)

key_matches : (waits : List Waits) (ws : List Waiting) (id : ℕ) (e : Event ℕ) (serial : ℕ) (waiter : Option ℕ) → WaitsMatch waits ws →
    KeyMatches (key_by waits id (unmarked_event e) waiter) (asked_by ws id e serial waiter)
key_matches waits ws id e serial None match = now_matches e serial
key_matches waits ws id e serial (Some block) match = λ k h. before_by (find (is_waiting id block) waits) (find (is_waiting_as id block) ws) k (match id block)
    h

answer_by_key : (id : ℕ) (asker : Option ℕ) (served : Served ℕ) (key : Option (List ℕ)) (asked : Option Answered) → KeyMatches key asked →
    AnswersMatch (answer_for id asker (retag_served (λ _. tt) served) key) (answer_to id asker served asked)
answer_by_key id None served key asked h a has = absurd (contains_none a has)
answer_by_key id (Some asker) served None asked h a has = absurd (contains_none a has)
answer_by_key id (Some asker) served (Some key) asked h a has =
    let here = contains_one record { sender = id; receiver = asker; key = key; answer = text_of (retag_served (λ _. tt) served) } a has in
    let (found, is, same) = h key refl in
    subst (λ (o : Option Answered). (w : PeerAnswer) × Contains (answer_to id (Some asker) served o) w × IsSameAnswer a w) (sym is) (
      _,
      one_contains _,
      record {
        sender = ap (λ (x : SentAnswer). x.sender) here;
        receiver = ap (λ (x : SentAnswer). x.receiver) here;
        key = same ∙ ap (λ (x : SentAnswer). x.key) here;
        answer = sym (text_same served) ∙ ap (λ (x : SentAnswer). x.answer) here;
      },
    )

pub answers_same : (waits : List Waits) (ws : List Waiting) (id : ℕ) (e : Event ℕ) (serial : ℕ) (serve : Option (Serve ℕ)) → WaitsMatch waits ws →
    AnswersMatch (answers_by waits id (unmarked_event e) (option_map (retag_serve (λ _. tt)) serve)) (answers_in ws id e serial serve)
answers_same waits ws id e serial None match a has = absurd (contains_none a has)
answers_same waits ws id e serial (Some serve) match a has =
    answer_by_key id serve.asker serve.served (key_by waits id (unmarked_event e) serve.waiter) (asked_by ws id e serial serve.waiter)
    (key_matches waits ws id e serial serve.waiter match) a has

none_some : {A : Type 0} (x : A) → None ≡ Some x → ⊥
none_some x e = cc

-- What waits

-- the same request begins to wait in both
waits_more : (waits : List Waits) (ws : List Waiting) (node at serial : ℕ) (key : List ℕ) → WaitsMatch waits ws →
    WaitsMatch (record { node = node; block = at; key = key } ∷ waits) (record { node = node; block = at; serial = serial; key = key } ∷ ws)
waits_more waits ws node at serial key match id block x e =
    let new : Waits = record { node = node; block = at; key = key } in
    let its : Waiting = record { node = node; block = at; serial = serial; key = key } in
    elim (either (nat_eq node id && nat_eq at block)) [
      | inl is_so ↦ (
        its,
        ap (λ b. cond b (Some its) (find (is_waiting_as id block) ws)) is_so,
        ap (λ (w : Waits). w.key) (same_some new x (sym (ap (λ b. cond b (Some new) (find (is_waiting id block) waits)) is_so) ∙ e)),
      )
      | inr is_not ↦
          let (y, is, same) = match id block x (sym (ap (λ b. cond b (Some new) (find (is_waiting id block) waits)) is_not) ∙ e) in
          (y, ap (λ b. cond b (Some its) (find (is_waiting_as id block) ws)) is_not ∙ is, same)
    ]

pub waits_by_event : (waits : List Waits) (ws : List Waiting) (id : ℕ) (e : Event ℕ) (serial : ℕ) (b : Option Begin) → WaitsMatch waits ws →
    WaitsMatch (waits_by id (unmarked_event e) b ++ waits) (waits_now id e serial b ++ ws)
waits_by_event waits ws id (event.Client ask now) serial b match = match
waits_by_event waits ws id (event.Datagram from m now) serial b match = match
waits_by_event waits ws id (event.PeerAnswer s peer key answer tag now) serial b match = match
waits_by_event waits ws id (event.OriginAnswer s key answer now) serial b match = match
waits_by_event waits ws id (event.ForeignAnswer s peer key answer tag now) serial b match = match
waits_by_event waits ws id (event.FetchFailed s now) serial b match = match
waits_by_event waits ws id (event.Expired s now) serial b match = match
waits_by_event waits ws id (event.PeerAsk asker ask now) serial None match = match
waits_by_event waits ws id (event.PeerAsk asker ask now) serial (Some b) match = waits_more waits ws id (serial_of b / 32) serial ask.key match

-- a request that is found for a node waits at that node
waits_at : (id block : ℕ) (n b : ℕ) → (nat_eq n id && nat_eq b block) ≡ true → n ≡ id
waits_at id block n b h = ids_same n id (and_parts (nat_eq n id) (nat_eq b block) h).0

not_dropped : (node n : ℕ) → not (nat_eq n node) ≡ true → nat_eq n node ≡ false
not_dropped node n h = elim (either (nat_eq n node)) [ inl is_so ↦ absurd (true_not_false (sym h ∙ ap not is_so)) | inr is_not ↦ is_not ]

apart : (node id : ℕ) → nat_eq node id ≡ false → node ≢ id
apart node id other same = true_not_false (sym (ap (nat_eq node) (sym same) ∙ same_id node) ∙ other)

gone_here : (waits : List Waits) (node id block : ℕ) → nat_eq node id ≡ true → find (is_waiting id block)
    (filter (λ (w : Waits). not (nat_eq w.node node)) waits) ≡ None
gone_here waits node id block here =
    found_gone (is_waiting id block) (λ (w : Waits). not (nat_eq w.node node))
    (λ w kept. elim (either (nat_eq w.node id && nat_eq w.block block)) [
      | inl is_so ↦ absurd (true_not_false (sym (ap (λ n. nat_eq n node) (waits_at id block w.node w.block is_so ∙ sym (ids_same node id here)) ∙ same_id node)
          ∙ not_dropped node w.node kept))
      | inr is_not ↦ is_not
    ]) waits

kept_here : (waits : List Waits) (node id block : ℕ) → nat_eq node id ≡ false → find (is_waiting id block)
    (filter (λ (w : Waits). not (nat_eq w.node node)) waits) ≡ find (is_waiting id block) waits
kept_here waits node id block other =
    found_kept (is_waiting id block) (λ (w : Waits). not (nat_eq w.node node))
    (λ w is_so. ap not (other_id w.node node (λ same. apart node id other (sym same ∙ waits_at id block w.node w.block is_so)))) waits

kept_there : (ws : List Waiting) (node id block : ℕ) → nat_eq node id ≡ false → find (is_waiting_as id block)
    (filter (λ (w : Waiting). not (nat_eq w.node node)) ws) ≡ find (is_waiting_as id block) ws
kept_there ws node id block other =
    found_kept (is_waiting_as id block) (λ (w : Waiting). not (nat_eq w.node node))
    (λ w is_so. ap not (other_id w.node node (λ same. apart node id other (sym same ∙ waits_at id block w.node w.block is_so)))) ws

-- What waited at a node is dropped

pub waits_dropped_here : (waits : List Waits) (ws : List Waiting) (node : ℕ) → WaitsMatch waits ws →
    WaitsMatch (filter (λ (w : Waits). not (nat_eq w.node node)) waits) ws
waits_dropped_here waits ws node match id block x e = elim (either (nat_eq node id)) [
  | inl here ↦ absurd (none_some x (sym (gone_here waits node id block here) ∙ e))
  | inr other ↦ match id block x (sym (kept_here waits node id block other) ∙ e)
]

pub waits_dropped : (waits : List Waits) (ws : List Waiting) (node : ℕ) → WaitsMatch waits ws →
    WaitsMatch (filter (λ (w : Waits). not (nat_eq w.node node)) waits) (filter (λ (w : Waiting). not (nat_eq w.node node)) ws)
waits_dropped waits ws node match id block x e = elim (either (nat_eq node id)) [
  | inl here ↦ absurd (none_some x (sym (gone_here waits node id block here) ∙ e))
  | inr other ↦
      let (y, is, same) = match id block x (sym (kept_here waits node id block other) ∙ e) in
      (y, kept_there ws node id block other ∙ is, same)
]
