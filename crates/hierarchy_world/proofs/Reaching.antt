-- What arrives at a member or at the master has the consequence that the model defines. Each lemma takes
-- the results of the code's look-ups (item, member, pending fetch) and computes the model's consequence
-- with them.
use Rattle.std.proofs.Common.{◌≡◌, ℕ, ◌<◌, Bool, true, false, cond, nat_eq, List, length, find, get_or, slice_get, Option, Some, None, Result, Ok, Err, refl}
use Rattle.std.proofs.Common.{sym, ◌∙◌, ap, subst, unwrap_or}
use Rattle.std.proofs.lemmas.Option.{slice_get_read}
use Rattle.htcp_wire.specs.declared.message.Content.{Content}
use Rattle.htcp_wire.specs.declared.message.Content.TheVariants as content
use Rattle.http_messages.specs.Answer.{AnswerText}
use Rattle.values_tables.specs.Ranges.{is_foreign_id}
use Rattle.values_plain.specs.declared.address.Address.{Address}
use Rattle.values_plain.specs.declared.address.Udp.{Udp}
use Rattle.values_tables.specs.declared.plain.Tables.{Tables}
use Rattle.purge_rules.specs.declared.nodes.Nodes.{Nodes}
use Rattle.purge_rules.specs.declared.calls.MasterCall.TheVariants as call
use Rattle.purge_rules.specs.declared.calls.MasterAnswer.TheVariants as answer
use Rattle.purge_rules.specs.Calls.{MasterState, Called, acknowledged, called, closed_call, open_call}
use Rattle.roster.specs.Lookups.{is_member, is_master, member_at}
use Rattle.node_rules.specs.declared.message.Message.{Message}
use Rattle.node_rules.specs.declared.message.Message.TheVariants as message
use Rattle.node_rules.specs.declared.state.Fetch.{Fetch}
use Rattle.node_rules.specs.declared.state.Fetch.TheVariants.{Nowhere, AtPeer, AtOrigin}
use Rattle.node_rules.specs.declared.state.Pending.{Pending}
use Rattle.node_rules.specs.declared.state.NodeState.{NodeState}
use Rattle.node_rules.specs.State.{fetch_serial}
use Rattle.node_rules.proofs.Cases.{true_not_false}
use Rattle.node_rules.specs.declared.event.Event.TheVariants as event
use Rattle.world_rules.specs.declared.outcome.WorldFault.{WorldFault}
use Rattle.world_rules.specs.declared.outcome.WorldFault.TheVariants as fault
use Rattle.node_rules.specs.Messages.{protocol_of as udp_of, clear_answer, clear_answer_in}
use Rattle.node_rules.specs.Spelled.{decoded_by}
use Rattle.world_rules.specs.World.{World, Datagram, PeerAsk, PeerAnswer}
use Rattle.world_rules.specs.Consequence.{Nothing, Consequence, NodeSteps, Ends, Refused, at_member, master_hears_htcp, master_hears, delivered_to, delivered}
use Rattle.world_rules.specs.Consequence.{octets_reach, ask_delivered, answer_delivered, origin_by, origin_to, foreign_by, foreign_to, fetching_at}
use Rattle.hierarchy_world.specs.declared.parts.Parts.{Parts}
use Rattle.hierarchy_world.specs.declared.telling.Seen.{Seen as SeenHere}
use Rattle.hierarchy_world.specs.declared.telling.Seen.TheVariants as here
use Rattle.hierarchy_world.specs.Parts.{MemberNode, IsSound, IsPlace, IsTaken, world_of}
use Rattle.hierarchy_world.specs.Posted.{heard_by}
use Rattle.hierarchy_world.proofs.Changing.{was_state}

-- a consequence at an id that is a member's
pub member_taken : (old new : Parts) (id : ℕ) (t : Consequence) (result : Result SeenHere WorldFault) → is_member old.roster id ≡ true
    → IsTaken old t result new →
    IsTaken old (at_member old.roster id t) result new
member_taken old new id t result member taken = subst (λ (b : Bool). IsTaken old (cond b t (Refused fault.NoSuchPacket)) result new) (sym member) taken

-- a consequence at an id that is no member's
pub stranger_refused : (old : Parts) (id : ℕ) (t : Consequence) → is_member old.roster id ≡ false →
    IsTaken old (at_member old.roster id t) (Err fault.NoSuchPacket) old
stranger_refused old id t none = (ap (λ (b : Bool). cond b t (Refused fault.NoSuchPacket)) none, refl)

-- a consequence that is taken, under another name
pub taken_as : (old new : Parts) (t u : Consequence) (result : Result SeenHere WorldFault) → u ≡ t → IsTaken old t result new → IsTaken old u result new
taken_as old new t u result is taken = subst (λ (x : Consequence). IsTaken old x result new) (sym is) taken

-- a consequence at a member, under another name
pub member_taken_as : (old new : Parts) (id : ℕ) (t u : Consequence) (result : Result SeenHere WorldFault) → is_member old.roster id ≡ true → u ≡ t →
    IsTaken old t result new → IsTaken old (at_member old.roster id u) result new
member_taken_as old new id t u result member is taken = member_taken old new id u result member (taken_as old new t u result is taken)

-- only a response to a CLR counts at the master

hears_content : (t : Tables) (w : World) (sender : Address) (trans : ℕ) (c : Content) → master_hears_htcp t w sender trans c ≡ heard_by t w sender
    (clear_answer_in trans c)
hears_content t w sender trans (content.NopAsk desired) = refl
hears_content t w sender trans content.NopAnswer = refl
hears_content t w sender trans (content.TstAsk desired spec) = refl
hears_content t w sender trans (content.TstHit detail) = refl
hears_content t w sender trans (content.TstMiss cache) = refl
hears_content t w sender trans (content.ClrAsk desired reason spec) = refl
hears_content t w sender trans (content.ClrAnswer code) = refl
hears_content t w sender trans (content.Other opcode desired) = refl
hears_content t w sender trans (content.Overall opcode code) = refl
hears_content t w sender trans (content.OtherAnswer opcode code) = refl

hears : (t : Tables) (w : World) (sender : Address) (m : Message) → master_hears t w sender m ≡ heard_by t w sender (clear_answer m)
hears t w sender (message.Icp m) = refl
hears t w sender (message.Htcp m) = hears_content t w sender m.trans m.content

-- a datagram reaches the master
pub to_master : (t : Tables) (w : World) (o : Option Datagram) (d : Datagram) → o ≡ Some d → is_master t d.receiver ≡ true →
    delivered t w o ≡ heard_by t w d.sender (clear_answer d.message)
to_master t w o d is master =
    ap (λ (x : Option Datagram). delivered t w x) is
    ∙ ap (λ (b : Bool). cond b (master_hears t w d.sender d.message) (delivered_to w d.sender d.message (member_at t d.receiver (udp_of d.message)))) master
    ∙ hears t w d.sender d.message

-- a datagram reaches a member, or nobody
pub to_member : (t : Tables) (w : World) (o : Option Datagram) (d : Datagram) (found : Option ℕ) → o ≡ Some d → is_master t d.receiver ≡ false →
    found ≡ member_at t d.receiver (udp_of d.message) → delivered t w o ≡ delivered_to w d.sender d.message found
to_member t w o d found is master at =
    ap (λ (x : Option Datagram). delivered t w x) is
    ∙ ap (λ (b : Bool). cond b (master_hears t w d.sender d.message) (delivered_to w d.sender d.message (member_at t d.receiver (udp_of d.message)))) master
    ∙ ap (λ (x : Option ℕ). delivered_to w d.sender d.message x) (sym at)

-- a request arrives
pub ask_comes : (t : Tables) (w : World) (o : Option PeerAsk) (a : PeerAsk) → o ≡ Some a → ask_delivered t w o ≡ at_member t a.receiver
    (NodeSteps a.receiver (event.PeerAsk a.sender a.ask w.clock) a.serial)
ask_comes t w o a is = ap (λ (x : Option PeerAsk). ask_delivered t w x) is

-- a response arrives
pub answer_comes : (t : Tables) (w : World) (serial : Option ℕ) (o : Option PeerAnswer) (a : PeerAnswer) → o ≡ Some a →
    answer_delivered t w serial o ≡ at_member t a.receiver
    (NodeSteps a.receiver (event.PeerAnswer (unwrap_or serial a.serial) a.sender a.key a.answer a.mark w.clock) 0)
answer_comes t w serial o a is = ap (λ (x : Option PeerAnswer). answer_delivered t w serial x) is

-- the request that a member's node fetches under a serial
pub fetching_here : (p : Parts) (n : MemberNode) (id place serial : ℕ) (found : Option (Pending ℕ)) → IsSound p → IsPlace p.nodes.items id place →
    slice_get p.nodes.items place ≡ Some n →
    found ≡ find (λ (x : Pending ℕ). nat_eq (fetch_serial x) serial) n.state.pending → found ≡ fetching_at (world_of p) id serial
fetching_here p n id place serial found sound is_place at is =
    is ∙ ap (λ (s : NodeState ℕ). find (λ (x : Pending ℕ). nat_eq (fetch_serial x) serial) s.pending) (sym (was_state p n id place sound is_place at))

-- an origin responds to the read that is pending
pub origin_comes : (w : World) (id serial : ℕ) (answer : AnswerText) (o : Option (Pending ℕ)) (p : Pending ℕ) (stamp asked mark : ℕ) → Some p ≡ o →
    p.fetch ≡ AtOrigin stamp asked mark →
    origin_to w id serial answer o ≡ NodeSteps id (event.OriginAnswer serial p.ask.key answer w.clock) 0
origin_comes w id serial answer o p stamp asked mark is at =
    ap (λ (x : Option (Pending ℕ)). origin_to w id serial answer x) (sym is) ∙ ap (λ (f : Fetch ℕ). origin_by w id serial answer p.ask.key f) at

no_read : (w : World) (id serial : ℕ) (answer : AnswerText) (key : List ℕ) (f : Fetch ℕ) → ((stamp asked mark : ℕ) → f ≡ AtOrigin stamp asked mark → ⊥) →
    origin_by w id serial answer key f ≡ Refused fault.NotPending
no_read w id serial answer key Nowhere none = refl
no_read w id serial answer key (AtPeer peer asked) none = refl
no_read w id serial answer key (AtOrigin stamp asked mark) none = absurd (none stamp asked mark refl)

-- what is pending is no origin read
pub no_origin : (w : World) (id serial : ℕ) (answer : AnswerText) (o : Option (Pending ℕ)) (p : Pending ℕ) → Some p ≡ o →
    ((stamp asked mark : ℕ) → p.fetch ≡ AtOrigin stamp asked mark → ⊥) →
    origin_to w id serial answer o ≡ Refused fault.NotPending
no_origin w id serial answer o p is none =
    ap (λ (x : Option (Pending ℕ)). origin_to w id serial answer x) (sym is) ∙ no_read w id serial answer p.ask.key p.fetch none

-- nothing is pending under the serial
pub origin_to_none : (w : World) (id serial : ℕ) (answer : AnswerText) (o : Option (Pending ℕ)) → None ≡ o →
    origin_to w id serial answer o ≡ Refused fault.NotPending
origin_to_none w id serial answer o is = ap (λ (x : Option (Pending ℕ)). origin_to w id serial answer x) (sym is)

-- a foreign cache responds to the fetch from it that is pending
pub foreign_comes : (w : World) (id serial : ℕ) (answer : AnswerText) (o : Option (Pending ℕ)) (p : Pending ℕ) (peer asked : ℕ) → Some p ≡ o →
    p.fetch ≡ AtPeer peer asked → is_foreign_id peer ≡ true →
    foreign_to w id serial answer o ≡ NodeSteps id (event.ForeignAnswer serial peer p.ask.key answer 0 w.clock) 0
foreign_comes w id serial answer o p peer asked is at is_foreign =
    ap (λ (x : Option (Pending ℕ)). foreign_to w id serial answer x) (sym is) ∙ ap (λ (f : Fetch ℕ). foreign_by w id serial answer p.ask.key f) at
    ∙ ap (λ (b : Bool). cond b (NodeSteps id (event.ForeignAnswer serial peer p.ask.key answer 0 w.clock) 0) (Refused fault.NotPending)) is_foreign

by_member : (w : World) (id serial : ℕ) (answer : AnswerText) (key : List ℕ) (peer : ℕ) (b : Bool) → (b ≡ true → ⊥) →
    cond b (NodeSteps id (event.ForeignAnswer serial peer key answer 0 w.clock) 0) (Refused fault.NotPending) ≡ Refused fault.NotPending
by_member w id serial answer key peer true none = absurd (none refl)
by_member w id serial answer key peer false none = refl

no_fetch : (w : World) (id serial : ℕ) (answer : AnswerText) (key : List ℕ) (f : Fetch ℕ) →
    ((peer asked : ℕ) → f ≡ AtPeer peer asked → is_foreign_id peer ≡ true → ⊥) → foreign_by w id serial answer key f ≡ Refused fault.NotPending
no_fetch w id serial answer key Nowhere none = refl
no_fetch w id serial answer key (AtPeer peer asked) none = by_member w id serial answer key peer (is_foreign_id peer) (none peer asked refl)
no_fetch w id serial answer key (AtOrigin stamp asked mark) none = refl

-- what is pending is no fetch from a foreign cache
pub no_foreign : (w : World) (id serial : ℕ) (answer : AnswerText) (o : Option (Pending ℕ)) (p : Pending ℕ) → Some p ≡ o →
    ((peer asked : ℕ) → p.fetch ≡ AtPeer peer asked → is_foreign_id peer ≡ true → ⊥) →
    foreign_to w id serial answer o ≡ Refused fault.NotPending
no_foreign w id serial answer o p is none =
    ap (λ (x : Option (Pending ℕ)). foreign_to w id serial answer x) (sym is) ∙ no_fetch w id serial answer p.ask.key p.fetch none

-- nothing is pending under the serial
pub foreign_to_none : (w : World) (id serial : ℕ) (answer : AnswerText) (o : Option (Pending ℕ)) → None ≡ o →
    foreign_to w id serial answer o ≡ Refused fault.NotPending
foreign_to_none w id serial answer o is = ap (λ (x : Option (Pending ℕ)). foreign_to w id serial answer x) (sym is)

-- A fault, or a restart

-- a consequence after which nothing is seen, and the world after it
pub ends_so : (old new : Parts) (w : World) → IsSound new → new.roster ≡ old.roster → new.place ≡ old.place → world_of new ≡ w →
    IsTaken old (Ends Nothing w) (Ok here.Nothing) new
ends_so old new w sound roster place is = record { sound = sound; roster = roster; place = place; lacked_nothing = tt; takes = (refl, is) }

module _ (old new : Parts) (n : MemberNode) (id place serial : ℕ) (answer : AnswerText) (sound : IsSound old)
    (found : (is_member old.roster id ≡ true) × IsPlace old.nodes.items id place)
    (below : place < length old.nodes.items) (at : n ≡ get_or old.nodes.items place n) where
  -- what is found at the node is what the model finds
  fetching_is : (o : Option (Pending ℕ)) → o ≡ find (λ (x : Pending ℕ). nat_eq (fetch_serial x) serial) n.state.pending →
      o ≡ fetching_at (world_of old) id serial
  fetching_is o is = fetching_here old n id place serial o sound found.1 (slice_get_read old.nodes.items (length old.nodes.items) place n refl below at) is

  -- an origin's response reaches a member
  pub origin_taken : (p : Pending ℕ) (key : List ℕ) (stamp asked mark : ℕ) (result : Result SeenHere WorldFault) →
      Some p ≡ find (λ (x : Pending ℕ). nat_eq (fetch_serial x) serial) n.state.pending →
      p.fetch ≡ AtOrigin stamp asked mark → key ≡ p.ask.key → IsTaken old (NodeSteps id (event.OriginAnswer serial key answer old.clock) 0) result new →
      IsTaken old (at_member old.roster id (origin_to (world_of old) id serial answer (fetching_at (world_of old) id serial))) result new
  origin_taken p key stamp asked mark result is fetch same taken =
      member_taken_as old new id (NodeSteps id (event.OriginAnswer serial key answer old.clock) 0)
      (origin_to (world_of old) id serial answer (fetching_at (world_of old) id serial)) result found.0
      (origin_comes (world_of old) id serial answer (fetching_at (world_of old) id serial) p stamp asked mark (fetching_is (Some p) is) fetch
      ∙ ap (λ (k : List ℕ). NodeSteps id (event.OriginAnswer serial k answer old.clock) 0) (sym same))
      taken

  -- a foreign cache's response reaches a member
  pub foreign_taken : (p : Pending ℕ) (key : List ℕ) (peer asked : ℕ) (result : Result SeenHere WorldFault) →
      Some p ≡ find (λ (x : Pending ℕ). nat_eq (fetch_serial x) serial) n.state.pending →
      p.fetch ≡ AtPeer peer asked → is_foreign_id peer ≡ true → key ≡ p.ask.key →
      IsTaken old (NodeSteps id (event.ForeignAnswer serial peer key answer 0 old.clock) 0) result new →
      IsTaken old (at_member old.roster id (foreign_to (world_of old) id serial answer (fetching_at (world_of old) id serial))) result new
  foreign_taken p key peer asked result is fetch is_foreign same taken =
      member_taken_as old new id (NodeSteps id (event.ForeignAnswer serial peer key answer 0 old.clock) 0)
      (foreign_to (world_of old) id serial answer (fetching_at (world_of old) id serial)) result found.0
      (foreign_comes (world_of old) id serial answer (fetching_at (world_of old) id serial) p peer asked (fetching_is (Some p) is) fetch is_foreign
      ∙ ap (λ (k : List ℕ). NodeSteps id (event.ForeignAnswer serial peer k answer 0 old.clock) 0) (sym same))
      taken

  to_nobody : (u : Consequence) → u ≡ Refused fault.NotPending → at_member old.roster id u ≡ Refused fault.NotPending
  to_nobody u is = ap (λ (b : Bool). cond b u (Refused fault.NoSuchPacket)) found.0 ∙ is

  -- nothing is pending there
  pub none_for_origin : None ≡ find (λ (x : Pending ℕ). nat_eq (fetch_serial x) serial) n.state.pending →
      at_member old.roster id (origin_to (world_of old) id serial answer (fetching_at (world_of old) id serial)) ≡ Refused fault.NotPending
  none_for_origin is = to_nobody _ (origin_to_none (world_of old) id serial answer (fetching_at (world_of old) id serial) (fetching_is None is))

  pub none_for_foreign : None ≡ find (λ (x : Pending ℕ). nat_eq (fetch_serial x) serial) n.state.pending →
      at_member old.roster id (foreign_to (world_of old) id serial answer (fetching_at (world_of old) id serial)) ≡ Refused fault.NotPending
  none_for_foreign is = to_nobody _ (foreign_to_none (world_of old) id serial answer (fetching_at (world_of old) id serial) (fetching_is None is))

  -- what is pending there is no origin read
  pub no_read_there : (p : Pending ℕ) → Some p ≡ find (λ (x : Pending ℕ). nat_eq (fetch_serial x) serial) n.state.pending →
      ((stamp asked mark : ℕ) → p.fetch ≡ AtOrigin stamp asked mark → ⊥) →
      at_member old.roster id (origin_to (world_of old) id serial answer (fetching_at (world_of old) id serial)) ≡ Refused fault.NotPending
  no_read_there p is none = to_nobody _ (no_origin (world_of old) id serial answer (fetching_at (world_of old) id serial) p (fetching_is (Some p) is) none)

  -- what is pending there is no fetch from a foreign cache
  pub no_fetch_there : (p : Pending ℕ) → Some p ≡ find (λ (x : Pending ℕ). nat_eq (fetch_serial x) serial) n.state.pending →
      ((peer asked : ℕ) → p.fetch ≡ AtPeer peer asked → is_foreign_id peer ≡ true → ⊥) →
      at_member old.roster id (foreign_to (world_of old) id serial answer (fetching_at (world_of old) id serial)) ≡ Refused fault.NotPending
  no_fetch_there p is none = to_nobody _ (no_foreign (world_of old) id serial answer (fetching_at (world_of old) id serial) p (fetching_is (Some p) is) none)

-- a fetch from a member is not one from a foreign cache
pub not_foreign : (f : Fetch ℕ) (peer asked : ℕ) (b : Bool) → f ≡ AtPeer peer asked → b ≡ is_foreign_id peer → b ≡ false → (p q : ℕ) → f ≡ AtPeer p q →
    is_foreign_id p ≡ true → ⊥
not_foreign f peer asked b at is none p q e foreign =
    let same_peer : p ≡ peer = cc in
    true_not_false (sym foreign ∙ ap (λ (n : ℕ). is_foreign_id n) same_peer ∙ sym is ∙ none)

-- Datagrams

abbrev mail : Address → Address → Message → Datagram
mail sender receiver m = record { sender = sender; receiver = receiver; message = m }

-- a datagram that was sent reaches a member, as the octets that spell it
pub mail_comes : (t : Tables) (w : World) (o : Option Datagram) (d : Datagram) (sender receiver : Address) (m said : Message) (by : Udp) (id : ℕ)
    (octets : List ℕ) →
    Some d ≡ o → mail sender receiver m ≡ d → said ≡ m →
    is_master t receiver ≡ false → by ≡ udp_of said → Some id ≡ member_at t receiver by → decoded_by (udp_of m) octets ≡ Some m →
    delivered t w o ≡ octets_reach w sender id (decoded_by by octets)
mail_comes t w o d sender receiver m said by id octets is view same master by_is at spelled =
    let by_m : by ≡ udp_of m = by_is ∙ ap (λ (x : Message). udp_of x) same in
    ap (λ (x : Option Datagram). delivered t w x) (sym is) ∙ ap (λ (x : Datagram). delivered t w (Some x)) (sym view)
    ∙ to_member t w (Some (mail sender receiver m)) (mail sender receiver m) (Some id) refl master
    (at ∙ ap (λ (u : Udp). member_at t receiver u) by_m)
    ∙ ap (λ (x : Option Message). octets_reach w sender id x) (sym (ap (λ (u : Udp). decoded_by u octets) by_m ∙ spelled))

-- the purges that an acknowledgement leaves, if the master is open
pub acknowledged_left : (nodes : Nodes) (s next : MasterState) (id number code : ℕ) (finished : Option ℕ) → s.closed ≡ false →
    called nodes s (call.Acknowledge id number code) ≡ record { state = next; outcome = Ok (answer.Acknowledge finished) } →
    next.purges ≡ (acknowledged nodes s.purges id number code).purges
acknowledged_left nodes s next id number code finished is_open is =
    let open_now : called nodes s (call.Acknowledge id number code) ≡ open_call nodes s.purges (call.Acknowledge id number code) =
    ap (λ (b : Bool). cond b (closed_call nodes s (call.Acknowledge id number code)) (open_call nodes s.purges (call.Acknowledge id number code))) is_open in
    ap (λ (c : Called). c.state.purges) (sym is ∙ open_now)
