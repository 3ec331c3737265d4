-- Some event of the world brings a node what its entry received. What a member or the master sent
-- is in the world's lists, so its number delivers it. What others send is an event of its own.
use Rattle.std.proofs.Common.{◌≡◌, ℕ, Bool, true, false, cond, List, Option, Some, None, refl, sym, ◌∙◌, ap, inl, inr, nat_eq, subst}
use Rattle.std.specs.Prelude.{Contains, option_map, MatchOption}
use Rattle.http_messages.specs.declared.ask.Ask.{Ask}
use Rattle.http_messages.specs.Answer.{AnswerText}
use Rattle.values_tables.specs.Ranges.{is_foreign_id}
use Rattle.values_plain.specs.declared.address.Address.{Address}
use Rattle.values_plain.specs.declared.address.Udp.{Udp}
use Rattle.values_plain.specs.declared.address.Udp.TheVariants as udp
use Rattle.values_tables.specs.declared.plain.Tables.{Tables}
use Rattle.roster.specs.Lookups.{is_member, member_at, is_master, is_own}
use Rattle.roster.specs.Judged.{IsRoster}
use Rattle.node_rules.specs.declared.message.Message.{Message}
use Rattle.node_rules.specs.declared.state.Fetch.{Fetch}
use Rattle.node_rules.specs.declared.state.Fetch.TheVariants.{Nowhere, AtPeer, AtOrigin}
use Rattle.node_rules.specs.declared.state.Pending.{Pending}
use Rattle.node_rules.specs.declared.state.NodeState.{NodeState}
use Rattle.node_rules.specs.declared.event.Event.{Event}
use Rattle.node_rules.specs.declared.event.Event.TheVariants as event
use Rattle.node_rules.specs.State.{fetch_serial}
use Rattle.node_rules.specs.Tags.{retag_pending, retag_fetch}
use Rattle.node_rules.proofs.TagLists.{find_of_map}
use Rattle.node_rules.proofs.Cases.{true_not_false}
use Rattle.world_rules.specs.declared.event.WorldEvent.{WorldEvent}
use Rattle.world_rules.specs.declared.event.WorldEvent.TheVariants as world
use Rattle.world_rules.specs.declared.outcome.WorldFault.TheVariants.{NoSuchPacket, NotPending}
use Rattle.node_rules.specs.Messages.{protocol_of as udp_of}
use Rattle.node_rules.specs.Spelled.{decoded_by, IsSpelled}
use Rattle.world_rules.specs.World.{World, Datagram, item, node_at}
use Rattle.world_rules.specs.Consequence.{Consequence, NodeSteps, Refused, consequence, at_member, with_clock, delivered, delivered_to, octets_reach}
use Rattle.world_rules.specs.Consequence.{octets_come, master_hears, ask_delivered, answer_delivered, origin_to, origin_by, foreign_to, foreign_by, fetching_at}
use Rattle.world_rules.specs.Run.{IsOfKey}
use Rattle.world_rules.specs.Asked.{moment}
use Rattle.world_rules.proofs.MemberStates.{ids_same, and_parts}
use Rattle.run_rules.specs.Sent.{Network, IsSent, IsDatagramSent}
use Rattle.run_rules.specs.Judging.{IsPending, Reaches, is_read, is_foreign_fetch}
use Rattle.run_rules.specs.Recorded.{unmarked, unmarked_event}
use Rattle.run_rules.proofs.Lists.{either, contained_item}
use Rattle.run_rules.proofs.Addresses.{IsAddressOf, reached}
use Rattle.run_rules.proofs.Matching.{NetworkMatches}

-- some event of the world, at the time of the node's event, is that event at the node
pub record Meets (t : Tables) (w : World) (id : ℕ) (e : Event (Unit {0})) : Type 0 where
  pub happens : WorldEvent
  pub met : Event ℕ
  pub serial : ℕ
  pub keyed : IsOfKey happens
  pub consequences : consequence t (with_clock w (moment e)) happens ≡ NodeSteps id met serial
  pub event : unmarked_event met ≡ e

module _ (t : Tables) (proper : IsRoster t) (w : World) (id : ℕ) (member : is_member t id ≡ true) where
  -- a datagram for a member reaches it
  comes : (consequence : Consequence) → at_member t id consequence ≡ consequence
  comes consequence = ap (λ b. cond b consequence (Refused NoSuchPacket)) member

  datagram_consequence : (now number : ℕ) (d : Datagram) → item w.datagrams number ≡ Some d → is_master t d.receiver ≡ false →
      member_at t d.receiver (udp_of d.message) ≡ Some id →
      consequence t (with_clock w now) (world.Datagram number) ≡ NodeSteps id (event.Datagram d.sender d.message now) 0
  datagram_consequence now number d is other to =
      ap (delivered t (with_clock w now)) is
      ∙ ap (λ b. cond b (master_hears t (with_clock w now) d.sender d.message)
      (delivered_to (with_clock w now) d.sender d.message (member_at t d.receiver (udp_of d.message)))) other
      ∙ ap (delivered_to (with_clock w now) d.sender d.message) to

  own_meets : (n : Network) → NetworkMatches n w → (from : Address) (m : Message) (now : ℕ) → IsDatagramSent t n id from m →
      Meets t w id (event.Datagram from m now)
  own_meets n matches from m now (d, has, sender, says, (other, to)) =
      let (number, is) = contained_item w.datagrams d (matches.datagrams d has) in
      record {
        happens = world.Datagram number;
        met = event.Datagram d.sender d.message now;
        serial = 0;
        keyed = tt;
        consequences = datagram_consequence now number d is other to;
        event = ap (λ (a : Address). event.Datagram a d.message now) sender ∙ ap (λ (x : Message). event.Datagram from x now) says;
      }

  -- a stranger's octets reach the member by the protocol of its address
  octets_reached : (from : Address) (octets : List ℕ) (m : Message) (now : ℕ) (to : Address) (by : Udp) → IsAddressOf t id by to →
      decoded_by by octets ≡ Some m →
      octets_come (with_clock w now) from octets (member_at t to udp.Icp) (member_at t to udp.Htcp) ≡ NodeSteps id (event.Datagram from m now) 0
  octets_reached from octets m now to udp.Icp address says =
      ap (λ o. octets_come (with_clock w now) from octets o (member_at t to udp.Htcp)) address.found
      ∙ ap (octets_reach (with_clock w now) from id) says
  octets_reached from octets m now to udp.Htcp address says =
      ap (λ o. octets_come (with_clock w now) from octets o (member_at t to udp.Htcp)) (address.alone refl)
      ∙ ap (octets_come (with_clock w now) from octets None) address.found
      ∙ ap (octets_reach (with_clock w now) from id) says

  stranger_meets : (from : Address) (m : Message) (now : ℕ) → IsSpelled m → is_own t from ≡ false → Meets t w id (event.Datagram from m now)
  stranger_meets from m now spelled stranger =
      let (to, address) = reached t id (udp_of m) proper member in
      let octets = spelled.octets in
      record {
        happens = world.Strange to from octets;
        met = event.Datagram from m now;
        serial = 0;
        keyed = tt;
        consequences =
            ap (λ b. cond b (Refused NoSuchPacket) (octets_come (with_clock w now) from octets (member_at t to udp.Icp) (member_at t to udp.Htcp))) stranger
            ∙ octets_reached from octets m now to (udp_of m) address spelled.spell;
        event = refl;
      }

  ask_meets : (n : Network) → NetworkMatches n w → (asker : ℕ) (ask : Ask) (now : ℕ) → Contains n.asks (record { sender = asker; receiver = id; ask = ask }) →
      Meets t w id (event.PeerAsk asker ask now)
  ask_meets n matches asker ask now has =
      let (a, there, same) = matches.asks record { sender = asker; receiver = id; ask = ask } has in
      let (number, is) = contained_item w.asks a there in
      record {
        happens = world.Ask number;
        met = event.PeerAsk a.sender a.ask now;
        serial = a.serial;
        keyed = tt;
        consequences = ap (ask_delivered t (with_clock w now)) is
            ∙ ap (λ i. at_member t i (NodeSteps i (event.PeerAsk a.sender a.ask now) a.serial)) same.receiver
            ∙ comes _;
        event = ap (λ i. event.PeerAsk i a.ask now) same.sender ∙ ap (λ (x : Ask). event.PeerAsk asker x now) same.ask;
      }

  answer_meets : (n : Network) → NetworkMatches n w → (serial peer : ℕ) (key : List ℕ) (answer : AnswerText) (tag : Unit {0}) (now : ℕ) →
      Contains n.answers (record { sender = peer; receiver = id; key = key; answer = answer }) →
      Meets t w id (event.PeerAnswer serial peer key answer tag now)
  answer_meets n matches serial peer key answer tag now has =
      let (a, there, same) = matches.answers record { sender = peer; receiver = id; key = key; answer = answer } has in
      let (number, is) = contained_item w.answers a there in
      record {
        happens = world.Answer number (Some serial);
        met = event.PeerAnswer serial a.sender a.key a.answer a.mark now;
        serial = 0;
        keyed = tt;
        consequences = ap (answer_delivered t (with_clock w now) (Some serial)) is
            ∙ ap (λ i. at_member t i (NodeSteps i (event.PeerAnswer serial a.sender a.key a.answer a.mark now) 0)) same.receiver ∙ comes _;
        event =
            ap (λ i. event.PeerAnswer serial i a.key a.answer tag now) same.sender
            ∙ ap (λ (k : List ℕ). event.PeerAnswer serial peer k a.answer tag now) same.key
            ∙ ap (λ (x : AnswerText). event.PeerAnswer serial peer key x tag now) same.answer;
      }

  origin_consequence : (serial now : ℕ) (answer : AnswerText) (key : List ℕ) (fetch : Fetch ℕ) → is_read (retag_fetch (λ _. tt) fetch) ≡ true →
      origin_by (with_clock w now) id serial answer key fetch ≡ NodeSteps id (event.OriginAnswer serial key answer now) 0
  origin_consequence serial now answer key (AtOrigin stamp asked mark) h = refl
  origin_consequence serial now answer key (AtPeer peer asked) h = absurd (true_not_false (sym h))
  origin_consequence serial now answer key Nowhere h = absurd (true_not_false (sym h))

  foreign_consequence : (serial peer now : ℕ) (answer : AnswerText) (key : List ℕ) (fetch : Fetch ℕ)
      → is_foreign_fetch peer (retag_fetch (λ _. tt) fetch) ≡ true →
      foreign_by (with_clock w now) id serial answer key fetch ≡ NodeSteps id (event.ForeignAnswer serial peer key answer 0 now) 0
  foreign_consequence serial peer now answer key (AtPeer at asked) h =
      let (foreign, same) = and_parts (is_foreign_id peer) (nat_eq at peer) h in
      ap (λ i. cond (is_foreign_id i) (NodeSteps id (event.ForeignAnswer serial i key answer 0 now) 0) (Refused NotPending)) (ids_same at peer same)
      ∙ ap (λ b. cond b (NodeSteps id (event.ForeignAnswer serial peer key answer 0 now) 0) (Refused NotPending)) foreign
  foreign_consequence serial peer now answer key (AtOrigin stamp asked mark) h = absurd (true_not_false (sym h))
  foreign_consequence serial peer now answer key Nowhere h = absurd (true_not_false (sym h))

  -- the request that fetches under the serial
  abbrev IsFetching : Option (Pending ℕ) → List ℕ → (Fetch (Unit {0}) → Bool) → Type 0
  IsFetching o key is_such = (p : Pending ℕ) × (o ≡ Some p) × (p.ask.key ≡ key) × (is_such (retag_fetch (λ _. tt) p.fetch) ≡ true)

  fetching_of : (o : Option (Pending ℕ)) (key : List ℕ) (is_such : Fetch (Unit {0}) → Bool) →
      MatchOption (option_map (retag_pending (λ _. tt)) o) ⊥ (λ p. (p.ask.key ≡ key) × (is_such p.fetch ≡ true)) → IsFetching o key is_such
  fetching_of None key is_such h = absurd h
  fetching_of (Some p) key is_such h = (p, refl, h.0, h.1)

  fetching : (s : NodeState (Unit {0})) → unmarked (node_at w.states id) ≡ s → (serial : ℕ) (key : List ℕ) (is_such : Fetch (Unit {0}) → Bool) →
      IsPending s serial key is_such → IsFetching (fetching_at w id serial) key is_such
  fetching s same serial key is_such h =
      fetching_of (fetching_at w id serial) key is_such
      (subst (λ (o : Option (Pending (Unit {0}))). MatchOption o ⊥ (λ p. (p.ask.key ≡ key) × (is_such p.fetch ≡ true)))
      (find_of_map (retag_pending (λ _. tt)) (λ p. nat_eq (fetch_serial p) serial) (node_at w.states id).pending)
      (subst (λ (x : NodeState (Unit {0})). IsPending x serial key is_such) (sym same) h))

  -- each kind of event has one event of the world that brings it, and that one is there, as it was sent
  pub meets : (n : Network) → NetworkMatches n w → (s : NodeState (Unit {0})) → unmarked (node_at w.states id) ≡ s → (e : Event (Unit {0})) → IsSent t n id e →
      Reaches s e → Meets t w id e
  meets n matches s same (event.Client ask now) sent reaches =
      record { happens = world.Client id ask; met = event.Client ask now; serial = 0; keyed = tt; consequences = comes _; event = refl }
  meets n matches s same (event.Datagram from m now) sent reaches = elim (either (is_own t from)) [
    | inl own ↦ own_meets n matches from m now (sent.1 own)
    | inr stranger ↦ stranger_meets from m now sent.0 stranger
  ]
  meets n matches s same (event.PeerAsk asker ask now) sent reaches = ask_meets n matches asker ask now sent
  meets n matches s same (event.PeerAnswer serial peer key answer tag now) sent reaches = answer_meets n matches serial peer key answer tag now sent
  meets n matches s same (event.OriginAnswer serial key answer now) sent reaches =
      let (p, is, its, reads) = fetching s same serial key is_read reaches in
      record {
        happens = world.Origin id serial answer;
        met = event.OriginAnswer serial p.ask.key answer now;
        serial = 0;
        keyed = tt;
        consequences = comes _ ∙ ap (origin_to (with_clock w now) id serial answer) is ∙ origin_consequence serial now answer p.ask.key p.fetch reads;
        event = ap (λ (k : List ℕ). event.OriginAnswer serial k answer now) its;
      }
  meets n matches s same (event.ForeignAnswer serial peer key answer tag now) sent reaches =
      let (p, is, its, fetches) = fetching s same serial key (is_foreign_fetch peer) reaches in
      record {
        happens = world.Foreign id serial answer;
        met = event.ForeignAnswer serial peer p.ask.key answer 0 now;
        serial = 0;
        keyed = tt;
        consequences = comes _ ∙ ap (foreign_to (with_clock w now) id serial answer) is ∙ foreign_consequence serial peer now answer p.ask.key p.fetch fetches;
        event = ap (λ (k : List ℕ). event.ForeignAnswer serial peer k answer tag now) its;
      }
  meets n matches s same (event.FetchFailed serial now) sent reaches =
      record { happens = world.Fail id serial; met = event.FetchFailed serial now; serial = 0; keyed = tt; consequences = comes _; event = refl }
  meets n matches s same (event.Expired serial now) sent reaches =
      record { happens = world.Expire id serial; met = event.Expired serial now; serial = 0; keyed = tt; consequences = comes _; event = refl }
