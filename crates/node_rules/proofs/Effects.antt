-- Each rule of the step has one of the six effects, and keeps what each keeps. The proof goes over
-- the rules in the order of specs/: each lemma NAME_does is about the rule NAME.
use Rattle.std.proofs.Common.{◌≡◌, ℕ, ◌*◌, ◌≤◌, Bool, true, false, cond, not, ◌&&◌, ◌||◌, List, [], ◌∷◌, option_map, find, map, filter, Option, Some, None}
use Rattle.std.proofs.Common.{Result, Ok, Err, refl, sym, ◌∙◌, ap, inr, nat_le, nat_eq, subst, rules, arith}
use Rattle.std.specs.List.{AllByRecursion, Contains, cons_option, filter_map}
use Rattle.std.specs.Prelude.{bytes_eq}
use Rattle.node_rules.specs.declared.message.Outgoing.{Outgoing}
use Rattle.values_tables.specs.declared.plain.Cache.{Cache}
use Rattle.node_rules.specs.declared.reply.Reply.{Reply}
use Rattle.node_rules.specs.declared.reply.StepFault.{StepFault}
use Rattle.values_plain.specs.declared.address.Address.{Address}
use Rattle.values_plain.specs.declared.address.Udp.{Udp}
use Rattle.icp_wire.specs.declared.message.IcpOp.{IcpOp}
use Rattle.icp_wire.specs.declared.message.IcpOp.TheVariants as op
use Rattle.icp_wire.specs.declared.message.Icp.{Icp}
use Rattle.htcp_wire.specs.declared.message.Content.{Content}
use Rattle.htcp_wire.specs.declared.message.Content.TheVariants as content
use Rattle.node_rules.specs.declared.message.Message.{Message}
use Rattle.node_rules.specs.declared.message.Message.TheVariants as message
use Rattle.floor_rules.specs.Floors.{FloorTable, seen}
use Rattle.object_store.specs.declared.copy.WebCopy.{WebCopy}
use Rattle.http_messages.specs.declared.ask.Ask.{Ask}
use Rattle.http_messages.specs.Answer.{AnswerText}
use Rattle.values_tables.specs.declared.plain.Peer.{Peer}
use Rattle.peer_chooser.specs.declared.said.Said.{Said}
use Rattle.peer_chooser.specs.Round.{RoundText}
use Rattle.peer_chooser.specs.declared.said.Source.{Source}
use Rattle.peer_chooser.specs.declared.said.Source.TheVariants as source
use Rattle.node_rules.specs.declared.state.Fetch.{Fetch}
use Rattle.node_rules.specs.declared.state.Fetch.TheVariants.{Nowhere, AtPeer, AtOrigin}
use Rattle.node_rules.specs.declared.state.Pending.{Pending}
use Rattle.node_rules.specs.declared.state.NodeState.{NodeState}
use Rattle.node_rules.specs.declared.event.Event.{Event}
use Rattle.node_rules.specs.declared.event.Event.TheVariants as event
use Rattle.floor_rules.specs.Floors.{floor, raised, with_base}
use Rattle.node_rules.specs.declared.raising.Raise.{Raise}
use Rattle.node_rules.specs.declared.raising.Raise.TheVariants.{Floor, Base}
use Rattle.node_rules.specs.Raises.{number_of}
use Rattle.node_rules.specs.Messages.{htcp, to, query, overall}
use Rattle.node_rules.specs.Relation.{raise_in, raise_in_content, raise_in_message, purge_by_line, raise_by_lines}
use Rattle.values_tables.specs.Ranges.{is_foreign_id}
use Rattle.roster.specs.Lookups.{is_master, address_by}
use Rattle.node_rules.specs.Known.{has_origin, is_known, cache_of}
use Rattle.peer_chooser.specs.Round.{has_answered, answered, ended}
use Rattle.object_store.specs.Listed.{copy_of}
use Rattle.reuse_rules.specs.Lifetime.{lifetime}
use Rattle.htcp_wire.specs.declared.fault.HtcpFault.{HtcpFault}
use Rattle.values_plain.specs.declared.address.Udp.TheVariants as udp
use Rattle.node_rules.specs.Effect.{copy_served, sent, IsOwnFault, ServesBareStatus, ComesFrom, HasRaised, IsObedient, IsUnderWay, IsReadOf, IsAt, IsFromOrigin}
use Rattle.node_rules.specs.Effect.{IsFromPeer, IsAnswerTo, IsAnswerOf, Effect, Stays, Serves, Brings, Purges, Rebases, Drops, IsHeldAbove, state_of}
use Rattle.node_rules.specs.State.{Setting, Stepped, replies, refuses, quiet, is_outside, fetch_serial, is_idle, is_of_block, inserted, age_of}
use Rattle.node_rules.specs.State.{is_good, if_good}
use Rattle.node_rules.specs.State.{good_copy}
use Rattle.reuse_rules.specs.Freshness.{is_fresh}
use Rattle.node_rules.specs.Fetching.{fetching, ask_peer, begin_read, read_origin, go_to, go_on}
use Rattle.node_rules.specs.Asks.{block_after, new_ask, question_to, is_cached_only, begin_round, begin_with_read, ask_around, begin_ask, begin_if_free, not_held, by_copy}
use Rattle.node_rules.specs.Asks.{copy_for, ask_comes_to, ask_comes}
use Rattle.node_rules.specs.Arrivals.{new_copy, is_fetch, with_round, use_answer, try_on, is_gateway_fault, peer_gave, origin_gave, from_peer, peer_answer_to}
use Rattle.node_rules.specs.Arrivals.{peer_answer, foreign_answer, from_origin, origin_answer_to, origin_answer, fails, failure_of, fetch_failed, round_moves}
use Rattle.node_rules.specs.Arrivals.{expires, expiry_of, round_expired}
use Rattle.node_rules.specs.Datagrams.{answers_to, sends_back, tst_answer, copy_meant, purged, rebased, purge_of, base_alone, is_masters, if_desired}
use Rattle.node_rules.specs.Datagrams.{icp_query, htcp_tst, hears, told_by, told_to, icp_told}
use Rattle.node_rules.specs.Datagrams.{htcp_told, clr_done, purge, rebase, raising_clr, dropped, plain_clr, clr_by_line, clr_by_lines, htcp_clr, icp_comes}
use Rattle.node_rules.specs.Datagrams.{tst_refused, htcp_comes}
use Rattle.node_rules.specs.Datagrams.{datagram}
use Rattle.node_rules.specs.Step.{open_step, step_if, step}
use Rattle.node_rules.proofs.Cases.{branches, both_true, test_le, unless_refused, same_Some, true_not_false}
use Rattle.node_rules.proofs.FloorLaws.{raise_reaches, same_text}
use Rattle.node_rules.proofs.Pendings.{all_mapped, all_contained, found, found_passes, all_changed, all_left, under_way, all_under_way, read_of}
use Rattle.node_rules.proofs.Blocks.{all_inserted}
use Rattle.std.proofs.lemmas.Option.{cond_some, none-some}

-- Small facts

both_true_not : (a b : Bool) → (a && not b) ≡ true → b ≡ false
both_true_not a b h = grind rules

same_number : (m n : ℕ) → nat_eq m n ≡ true → m ≡ n
same_number m n h = search rules

and_parts : (a b : Bool) → (a && b) ≡ true → (a ≡ true) × (b ≡ true)
and_parts true b h = (refl, h)
and_parts false b h = absurd (true_not_false (sym h))

is_at : {X : Type 0} (serial : ℕ) (key : List ℕ) (p : Pending X) → is_fetch serial key p ≡ true → IsAt serial key p
is_at serial key p h =
    let parts = and_parts (nat_eq (fetch_serial p) serial) (bytes_eq p.ask.key key) h in
    record { serial_same = same_number (fetch_serial p) serial parts.0; key_same = same_text p.ask.key key parts.1 }

other_round : {X : Type 0} {s : NodeState X} (p : Pending X) (r : RoundText) → IsUnderWay s p → IsUnderWay s (with_round p r)
other_round p r h = record { was = h.was; waits = h.waits; fetch = h.fetch; ask = h.ask; serial = h.serial }

query_obeys : {X : Type 0} (g : Setting) (e : Event X) (rows : FloorTable) (serial : ℕ) (key : List ℕ) (by : Udp) (address : Address) →
    IsObedient g e rows (to address (query by serial key))
query_obeys g e rows serial key udp.Icp address = tt
query_obeys g e rows serial key udp.Htcp address = tt

-- what holds of the first, if there is one, and of the rest
query_first : {P : Outgoing → Type 0} (o : Option Outgoing) (rest : List Outgoing) → ((x : Outgoing) → o ≡ Some x → P x) → AllByRecursion P rest →
    AllByRecursion P (cons_option o rest)
query_first None rest h all = all
query_first (Some x) rest h all = (h x refl, all)

pub raised_to : (floors : FloorTable) (key : List ℕ) (n m : ℕ) → n ≡ m → m ≤ floor (raised floors key n) key
raised_to floors key n m same = subst (λ k. k ≤ floor (raised floors key n) key) same (raise_reaches floors key n)

pub based_to : (floors : FloorTable) (n m : ℕ) → n ≡ m → m ≤ (with_base floors n).base
based_to floors n m same = omega (arith, same)

-- the number of the master's that a raise has is the TRANS-ID
masters_is : (g : Setting) (from : Address) (trans n : ℕ) (raise other : Raise) → number_of raise ≡ n →
    cond (is_masters g from trans n) (Some raise) None ≡ Some other → number_of other ≡ trans
masters_is g from trans n raise other its e =
    let (good, same) = cond_some (is_masters g from trans n) raise other e in
    ap number_of (sym same) ∙ its
    ∙ same_number n trans (and_parts (is_master g.roster from) (nat_eq n trans) (and_parts _ (nat_le 1 n) good).0).1

purge_number_is : (g : Setting) (from : Address) (trans : ℕ) (key : Option (List ℕ)) (n : ℕ) (raise : Raise) → purge_of g from trans key n ≡ Some raise →
    number_of raise ≡ trans
purge_number_is g from trans None n raise e = absurd (none-some raise e)
purge_number_is g from trans (Some key) n raise e = masters_is g from trans n (Floor key n) raise refl e

base_number_is : (g : Setting) (from : Address) (trans n : ℕ) (number : Result (Option ℕ) HtcpFault) (raise : Raise) →
    base_alone g from trans n number ≡ Some raise → number_of raise ≡ trans
base_number_is g from trans n (Ok None) raise e = masters_is g from trans n (Base n) raise refl e
base_number_is g from trans n (Ok (Some number)) raise e = absurd (none-some raise e)
base_number_is g from trans n (Err fault) raise e = absurd (none-some raise e)

-- a copy that is chosen for a key is held, and not below its floor
good_is_held : {X : Type 0} (rows : FloorTable) (copies : List (WebCopy X)) (key : List ℕ) (now : ℕ) (o : Option (WebCopy X)) (c : WebCopy X) →
    copy_of key copies ≡ o → if_good (floor rows key) now o ≡ Some c → IsHeldAbove rows copies key c
good_is_held rows copies key now None c is e = absurd (none-some c e)
good_is_held {X} rows copies key now (Some d) c is e =
    let (good, same) = cond_some (is_good (floor rows key) now d) d c e in
    subst (λ (x : WebCopy X). IsHeldAbove rows copies key x) same (is, both_true (floor rows key) d.stamp (is_fresh (age_of d) d.asked now d.lifetime) good)

copy_for_held : {X : Type 0} (s : NodeState X) (ask : Ask) (now : ℕ) (c : WebCopy X) → copy_for s ask now ≡ Some c → IsHeldAbove s.floors s.copies ask.key c
copy_for_held s ask now c e = good_is_held s.floors s.copies ask.key now _ c refl (unless_refused ask.no_cache (good_copy s ask.key now) c e)

module _ {X : Type 0} (g : Setting) (s : NodeState X) (e : Event X) (mark : X) where
  abbrev pub Does : Stepped X → Type 0
  Does r = Effect g s e mark r

  -- the state as it is while rules only change the pending requests
  abbrev pub at : List (Pending X) → ℕ → NodeState X
  at pending next = state_of s.floors s.copies s.closed pending next

  abbrev pub Outcome : Type 0
  Outcome = Result (Reply X) StepFault

  -- a request may stay as it is: it is not fetching, or it fetches as it did
  abbrev pub MayStay : Pending X → Type 0
  MayStay p = (outcome : Outcome) → IsReadOf s mark outcome p

  all_stay : AllByRecursion MayStay s.pending
  all_stay = all_mapped (IsUnderWay s) MayStay (λ p h outcome. read_of s mark outcome p h) s.pending (all_under_way s)

  reads_of : (pending : List (Pending X)) (outcome : Outcome) → AllByRecursion MayStay pending → AllByRecursion (IsReadOf s mark outcome) pending
  reads_of pending outcome all = all_mapped MayStay (IsReadOf s mark outcome) (λ p h. h outcome) pending all

  -- requests stay pending, and at most a bare status is served
  stays : (pending : List (Pending X)) (next : ℕ) (outcome : Outcome) → copy_served outcome ≡ None → AllByRecursion MayStay pending → ServesBareStatus outcome →
      AllByRecursion (IsObedient g e s.floors) (sent outcome) → IsOwnFault outcome → Does record { state = at pending next; outcome = outcome }
  stays pending next outcome none all bare obeys plain = Stays pending next outcome none
      (record { reads = reads_of pending outcome all; statuses = bare; acknowledges = obeys; faults = plain })

  -- one of them ends
  ends : (pending : List (Pending X)) (next : ℕ) (block : ℕ) (outcome : Outcome) → copy_served outcome ≡ None → AllByRecursion MayStay pending →
      ServesBareStatus outcome → AllByRecursion (IsObedient g e s.floors) (sent outcome) → IsOwnFault outcome →
      Does record { state = at (filter (λ q. not (is_of_block block q)) pending) next; outcome = outcome }
  ends pending next block outcome none all bare obeys plain = stays (filter (λ q. not (is_of_block block q)) pending) next outcome none
      (all_left MayStay _ pending all) bare obeys plain

  -- one of them becomes this one
  changes : (pending : List (Pending X)) (next : ℕ) (p : Pending X) (outcome : Outcome) → copy_served outcome ≡ None → AllByRecursion MayStay pending →
      IsReadOf s mark outcome p → ServesBareStatus outcome → AllByRecursion (IsObedient g e s.floors) (sent outcome) → IsOwnFault outcome →
      Does record { state = at (map (λ q. cond (is_of_block p.block q) p q) pending) next; outcome = outcome }
  changes pending next p outcome none all read bare obeys plain =
      Stays (map (λ q. cond (is_of_block p.block q) p q) pending) next outcome none
      (record {
        reads = all_changed (IsReadOf s mark outcome) (is_of_block p.block) p pending read (reads_of pending outcome all);
        statuses = bare;
        acknowledges = obeys;
        faults = plain;
      })

  -- nothing changes
  refused : (f : StepFault) → IsOwnFault {X = X} (Err f) → Does (refuses s f)
  refused f plain = stays s.pending s.next (Err f) refl all_stay tt tt plain

  silent : Does (replies s quiet)
  silent = stays s.pending s.next (Ok quiet) refl all_stay tt tt tt

  -- Going on

  read_origin_does : (pending : List (Pending X)) (next : ℕ) → AllByRecursion MayStay pending → (p : Pending X) (waiter : Option ℕ) (now : ℕ) →
      Does (read_origin g (at pending next) p waiter now mark)
  unfolding read_origin begin_read
  read_origin_does pending next all p waiter now =
      branches Does (nat_le 3 p.reads) _ _ (λ _. ends pending next p.block _ refl all refl tt tt)
      (λ _. branches Does (has_origin g.roster p.ask.key) _ _
      (λ _. changes pending next _ _ refl all (inr record { stamp_seen = refl; mark_same = refl; begins = refl }) tt tt tt)
      (λ _. ends pending next p.block _ refl all refl tt tt))

  go_to_does : (pending : List (Pending X)) (next : ℕ) → AllByRecursion MayStay pending → (p : Pending X) → MayStay p → (now : ℕ) (to : Source) →
      Does (go_to g (at pending next) p now mark to)
  unfolding go_to ask_peer
  go_to_does pending next all p may now source.Wait = changes pending next p _ refl all (may _) tt tt tt
  go_to_does pending next all p may now (source.Peer peer cached) = changes pending next _ _ refl all tt tt tt tt
  go_to_does pending next all p may now source.Origin = read_origin_does pending next all p (Some p.block) now

  go_on_does : (pending : List (Pending X)) (next : ℕ) → AllByRecursion MayStay pending → (p : Pending X) → MayStay p → (now : ℕ) →
      Does (go_on g (at pending next) p now mark)
  unfolding go_on
  go_on_does pending next all p may now = go_to_does pending next all p may now _

  -- Requests

  query_to_obeys : (serial : ℕ) (key : List ℕ) (p : Peer) (c : Option Cache) (o : Outgoing) →
      option_map (λ (c : Cache). to (address_by p.by c) (query p.by serial key)) c ≡ Some o → IsObedient g e s.floors o
  query_to_obeys serial key p None o is = absurd (none-some o is)
  query_to_obeys serial key p (Some c) o is = subst (IsObedient g e s.floors) (same_Some _ o is) (query_obeys g e s.floors serial key p.by (address_by p.by c))

  queries_obey : (serial : ℕ) (key : List ℕ) (asked : List Peer) → AllByRecursion (IsObedient g e s.floors) (filter_map (question_to g.roster serial key) asked)
  queries_obey serial key [] = tt
  queries_obey serial key (p ∷ asked) = query_first (question_to g.roster serial key p) _ (query_to_obeys serial key p (cache_of g.roster p.id))
      (queries_obey serial key asked)

  -- a request more waits, which reads the origin from now on or is not fetching
  one_more : (next : ℕ) (p : Pending X) (outcome : Outcome) → copy_served outcome ≡ None → IsReadOf s mark outcome p → ServesBareStatus outcome →
      AllByRecursion (IsObedient g e s.floors) (sent outcome) → IsOwnFault outcome →
      Does record { state = at (inserted p s.pending) next; outcome = outcome }
  one_more next p outcome none read bare obeys plain =
      Stays (inserted p s.pending) next outcome none
      (record {
        reads = all_inserted (IsReadOf s mark outcome) p s.pending read (reads_of s.pending outcome all_stay);
        statuses = bare;
        acknowledges = obeys;
        faults = plain;
      })

  with_read_does : (asker : Option ℕ) (ask : Ask) (block now : ℕ) → Does (begin_with_read g s asker ask block now mark)
  unfolding begin_with_read
  with_read_does asker ask block now =
      branches Does (has_origin g.roster ask.key) _ _
      (λ _. one_more _ (fetching (new_ask block asker ask None) 1 (AtOrigin (seen s.floors) now mark)) _ refl
      (inr record { stamp_seen = refl; mark_same = refl; begins = refl }) tt tt tt)
      (λ _. stays s.pending (block_after block) _ refl all_stay refl tt tt)

  ask_around_does : (asker : Option ℕ) (ask : Ask) (block now : ℕ) (round : RoundText) (peers : List Peer) →
      Does (ask_around g s asker ask block now mark round peers)
  unfolding ask_around begin_round
  ask_around_does asker ask block now round [] = with_read_does asker ask block now
  ask_around_does asker ask block now round (p ∷ peers) =
      one_more _ (new_ask block asker ask (Some round)) _ refl tt tt (queries_obey (32 * block) ask.key round.asked) tt

  begin_if_free_does : (asker : Option ℕ) (ask : Ask) (now : ℕ) (o : Option ℕ) → Does (begin_if_free g s asker ask now mark o)
  unfolding begin_if_free begin_ask
  begin_if_free_does asker ask now None = refused _ tt
  begin_if_free_does asker ask now (Some block) = ask_around_does asker ask block now _ _

  not_held_does : (asker : Option ℕ) (ask : Ask) (now : ℕ) → Does (not_held g s asker ask now mark)
  unfolding not_held
  not_held_does asker ask now =
      branches Does (is_cached_only g asker ask) _ _ (λ _. stays s.pending s.next _ refl all_stay refl tt tt)
      (λ _. begin_if_free_does asker ask now _)

  by_copy_does : s.closed ≡ false → is_outside g s ≡ false → (asker : Option ℕ) (ask : Ask) (now : ℕ) (o : Option (WebCopy X)) →
      ((c : WebCopy X) → o ≡ Some c → IsHeldAbove s.floors s.copies ask.key c) → Does (by_copy g s asker ask now mark o)
  unfolding by_copy
  by_copy_does is_open is_in asker ask now None h = not_held_does asker ask now
  by_copy_does is_open is_in asker ask now (Some c) h = Serves ask.key c s.pending s.next _ is_open is_in (h c refl) refl
      (record { reads = reads_of s.pending _ all_stay; statuses = tt; acknowledges = tt; faults = tt })

  ask_comes_to_does : s.closed ≡ false → (asker : Option ℕ) (ask : Ask) (now : ℕ) (outside : Bool) → is_outside g s ≡ outside →
      Does (ask_comes_to g s asker ask now mark outside)
  unfolding ask_comes_to
  ask_comes_to_does is_open asker ask now true is = stays s.pending s.next _ refl all_stay refl tt tt
  ask_comes_to_does is_open asker ask now false is = by_copy_does is_open is asker ask now _ (copy_for_held s ask now)

  ask_comes_does : s.closed ≡ false → (asker : Option ℕ) (ask : Ask) (now : ℕ) → Does (ask_comes g s asker ask now mark)
  unfolding ask_comes
  ask_comes_does is_open asker ask now = ask_comes_to_does is_open asker ask now _ refl

  -- Arrivals

  -- the request that is found is pending
  waiting : (test : Pending X → Bool) (p : Pending X) → find test s.pending ≡ Some p → Contains s.pending p
  waiting test p waits = found (Contains s.pending) test s.pending p (all_contained s.pending) waits

  waits_under_way : (test : Pending X → Bool) (p : Pending X) → find test s.pending ≡ Some p → IsUnderWay s p
  waits_under_way test p waits = under_way s p (waiting test p waits)

  module _ (is_open : s.closed ≡ false) where
    use_answer_does : (pending : List (Pending X)) (next : ℕ) → AllByRecursion MayStay pending →
        (p : Pending X) (stamp asked : ℕ) (answer : AnswerText) (tag : X) (now : ℕ) →
        ((life : Option ℕ) → IsAnswerOf s e (new_copy p.ask.key stamp asked life answer tag)) → floor s.floors p.ask.key ≤ stamp →
        Does (use_answer g (at pending next) p stamp asked answer tag now)
    unfolding use_answer
    use_answer_does pending next all p stamp asked answer tag now is h =
        let life : Option ℕ = lifetime answer g.roster.limits.default_lifetime in
        let others : List (Pending X) = filter (λ q. not (is_of_block p.block q)) pending in
        Brings (new_copy p.ask.key stamp asked life answer tag) life others next _ is_open (is life) h refl
        (record { reads = reads_of others _ (all_left MayStay _ pending all); statuses = tt; acknowledges = tt; faults = tt })

    peer_gave_does : (pending : List (Pending X)) (next : ℕ) → AllByRecursion MayStay pending →
        (p : Pending X) (peer asked stamp : ℕ) (answer : AnswerText) (tag : X) (now : ℕ) →
        (is_gateway_fault answer.status ≡ false → (life : Option ℕ) → IsAnswerOf s e (new_copy p.ask.key stamp asked life answer tag)) →
        Does (peer_gave g (at pending next) p peer asked stamp answer tag now mark)
    unfolding peer_gave try_on
    peer_gave_does pending next all p peer asked stamp answer tag now is =
        branches Does (nat_le (floor s.floors p.ask.key) stamp && not (is_gateway_fault answer.status)) _ _
        (λ h. use_answer_does pending next all p stamp asked answer tag now (is (both_true_not _ _ h)) (both_true _ stamp _ h))
        (λ _. go_on_does pending next all _ (λ outcome. tt) now)

    origin_gave_does : (pending : List (Pending X)) (next : ℕ) → AllByRecursion MayStay pending →
        (p : Pending X) (stamp asked : ℕ) (read_mark : X) (answer : AnswerText) (now : ℕ) →
        ((life : Option ℕ) → IsAnswerOf s e (new_copy p.ask.key stamp asked life answer read_mark)) →
        Does (origin_gave g (at pending next) p stamp asked read_mark answer now mark)
    unfolding origin_gave
    origin_gave_does pending next all p stamp asked read_mark answer now is =
        branches Does (nat_le (floor s.floors p.ask.key) stamp) _ _
        (λ h. use_answer_does pending next all p stamp asked answer read_mark now is (test_le _ stamp h))
        (λ _. go_on_does pending next all _ (λ outcome. tt) now)

    from_peer_does : (p : Pending X) (peer stamp : ℕ) (answer : AnswerText) (tag : X) (now : ℕ) (fetch : Fetch X) →
        ((asked : ℕ) → fetch ≡ AtPeer peer asked → is_gateway_fault answer.status ≡ false → (life : Option ℕ) →
        IsAnswerOf s e (new_copy p.ask.key stamp asked life answer tag)) → Does (from_peer g s p peer stamp answer tag now mark fetch)
    unfolding from_peer
    from_peer_does p peer stamp answer tag now (AtPeer at_peer asked) is =
        branches Does (nat_eq at_peer peer) _ _ (λ same. peer_gave_does s.pending s.next all_stay p peer asked stamp answer tag now
        (is asked (ap (λ (n : ℕ). AtPeer n asked) (same_number at_peer peer same)))) (λ _. refused _ tt)
    from_peer_does p peer stamp answer tag now (AtOrigin read asked read_mark) is = refused _ tt
    from_peer_does p peer stamp answer tag now Nowhere is = refused _ tt

    peer_answer_to_does : (serial : ℕ) (key : List ℕ) (peer stamp : ℕ) (answer : AnswerText) (tag : X) (now : ℕ) →
        ((p : Pending X) (c : WebCopy X) → IsFromPeer serial peer key stamp answer tag p c → IsAnswerTo e p c) → (o : Option (Pending X)) →
        find (is_fetch serial key) s.pending ≡ o → Does (peer_answer_to g s peer stamp answer tag now mark o)
    unfolding peer_answer_to
    peer_answer_to_does serial key peer stamp answer tag now is None waits = refused _ tt
    peer_answer_to_does serial key peer stamp answer tag now is (Some p) waits =
        from_peer_does p peer stamp answer tag now p.fetch
        (λ asked at_peer usable life. (
          p,
          waiting (is_fetch serial key) p waits,
          is p _ record {
            waits = is_at serial key p (found_passes (is_fetch serial key) s.pending p waits);
            fetches = at_peer;
            key_same = refl;
            stamp_same =
                refl;
            answer_same = refl;
            tag_same = refl;
            status = usable;
          },
        ))

    from_origin_does : (p : Pending X) (answer : AnswerText) (now : ℕ) (fetch : Fetch X) →
        ((stamp asked : ℕ) (read_mark : X) → fetch ≡ AtOrigin stamp asked read_mark → (life : Option ℕ) →
        IsAnswerOf s e (new_copy p.ask.key stamp asked life answer read_mark)) → Does (from_origin g s p answer now mark fetch)
    unfolding from_origin
    from_origin_does p answer now (AtOrigin stamp asked read_mark) is = origin_gave_does s.pending s.next all_stay p stamp asked read_mark answer now
        (is stamp asked read_mark refl)
    from_origin_does p answer now (AtPeer peer asked) is = refused _ tt
    from_origin_does p answer now Nowhere is = refused _ tt

    origin_answer_to_does : (serial : ℕ) (key : List ℕ) (answer : AnswerText) (now : ℕ) →
        ((p : Pending X) (c : WebCopy X) → IsFromOrigin serial key answer p c → IsAnswerTo e p c) → (o : Option (Pending X)) →
        find (is_fetch serial key) s.pending ≡ o → Does (origin_answer_to g s answer now mark o)
    unfolding origin_answer_to
    origin_answer_to_does serial key answer now is None waits = refused _ tt
    origin_answer_to_does serial key answer now is (Some p) waits =
        from_origin_does p answer now p.fetch
        (λ stamp asked read_mark reads life. (
          p,
          waiting (is_fetch serial key) p waits,
          is p _ record {
            waits = is_at serial key p (found_passes (is_fetch serial key) s.pending p waits);
            reads = reads;
            key_same = refl;
            answer_same =
                refl;
          },
        ))

  fails_does : (p : Pending X) (now : ℕ) (fetch : Fetch X) → Does (fails g s p now mark fetch)
  unfolding fails try_on
  fails_does p now (AtPeer peer asked) = go_on_does s.pending s.next all_stay _ (λ outcome. tt) now
  fails_does p now (AtOrigin stamp asked read_mark) = ends s.pending s.next p.block _ refl all_stay refl tt tt
  fails_does p now Nowhere = refused _ tt

  failure_of_does : (now : ℕ) (o : Option (Pending X)) → Does (failure_of g s now mark o)
  unfolding failure_of
  failure_of_does now None = refused _ tt
  failure_of_does now (Some p) = fails_does p now p.fetch

  round_moves_does : (p : Pending X) → IsUnderWay s p → (now : ℕ) → Does (round_moves g s p now mark)
  unfolding round_moves
  round_moves_does p h now =
      branches Does (is_idle p.fetch) _ _ (λ _. go_on_does s.pending s.next all_stay p (λ outcome. read_of s mark outcome p h) now)
      (λ _. changes s.pending s.next p _ refl all_stay (read_of s mark _ p h) tt tt tt)

  expires_does : (p : Pending X) → IsUnderWay s p → (now : ℕ) (o : Option RoundText) → Does (expires g s p now mark o)
  unfolding expires
  expires_does p h now None = refused _ tt
  expires_does p h now (Some r) = round_moves_does (with_round p (ended r)) (other_round p (ended r) h) now

  expiry_of_does : (test : Pending X → Bool) (now : ℕ) (o : Option (Pending X)) → find test s.pending ≡ o → Does (expiry_of g s now mark o)
  unfolding expiry_of
  expiry_of_does test now None waits = refused _ tt
  expiry_of_does test now (Some p) waits = expires_does p (waits_under_way test p waits) now p.round

  -- Datagrams

  -- a message that acknowledges nothing may be sent anywhere
  sends_does : (to : Address) (m : Message) → IsObedient g e s.floors record { to = to; message = m } → Does (sends_back s to m)
  sends_does to m obeys = stays s.pending s.next _ refl all_stay tt (obeys, tt) tt

  if_desired_does : (desired : Bool) (from : Address) (m : Message) → IsObedient g e s.floors record { to = from; message = m } →
      Does (if_desired s desired from m)
  if_desired_does true from m obeys = sends_does from m obeys
  if_desired_does false from m obeys = silent

  hears_does : (p : Pending X) → IsUnderWay s p → (peer : Peer) (said : Said) (now : ℕ) (o : Option RoundText) → Does (hears g s p peer said now mark o)
  unfolding hears
  hears_does p h peer said now None = silent
  hears_does p h peer said now (Some r) =
      branches Does (has_answered r.answers peer.id) _ _ (λ _. silent)
      (λ _. round_moves_does (with_round p (answered r peer.id said)) (other_round p (answered r peer.id said) h) now)

  told_by_does : (p : Pending X) → IsUnderWay s p → (said : Peer → Said) (now : ℕ) (o : Option Peer) → Does (told_by g s p said now mark o)
  unfolding told_by
  told_by_does p h said now None = silent
  told_by_does p h said now (Some peer) = hears_does p h peer (said peer) now p.round

  told_to_does : (by : Udp) (from : Address) (said : Peer → Said) (now : ℕ) (test : Pending X → Bool) (o : Option (Pending X)) → find test s.pending ≡ o →
      Does (told_to g s by from said now mark o)
  unfolding told_to
  told_to_does by from said now test None waits = silent
  told_to_does by from said now test (Some p) waits = told_by_does p (waits_under_way test p waits) said now _

  icp_told_does : (from : Address) (m : Icp) (now : ℕ) → Does (icp_told g s from m now mark)
  unfolding icp_told
  icp_told_does from m now = told_to_does _ from _ now _ _ refl

  htcp_told_does : (from : Address) (trans : ℕ) (said : Peer → Said) (now : ℕ) → Does (htcp_told g s from trans said now mark)
  unfolding htcp_told
  htcp_told_does from trans said now = told_to_does _ from said now _ _ refl

  -- the response to a CLR that was followed is an acknowledgement
  done_does : (next : NodeState X) (from : Address) (trans : ℕ) (desired gone : Bool) → ComesFrom e from → HasRaised next.floors (raise_in g e) trans →
      ((outcome : Outcome) → copy_served outcome ≡ None → ServesBareStatus outcome → AllByRecursion (IsObedient g e next.floors) (sent outcome) →
      IsOwnFault outcome → Does record { state = next; outcome = outcome }) → Does (clr_done next from trans desired gone)
  done_does next from trans true true comes raised h = h _ refl tt ((comes, raised), tt) tt
  done_does next from trans true false comes raised h = h _ refl tt ((comes, raised), tt) tt
  done_does next from trans false gone comes raised h = h _ refl tt tt tt

  purge_does : (from : Address) (trans : ℕ) (desired : Bool) (key : List ℕ) (n : ℕ) → ComesFrom e from → n ≡ trans → raise_in g e ≡ Some (Floor key n) →
      Does (purge s from trans desired key n)
  unfolding purge
  purge_does from trans desired key n comes same is =
      done_does (purged s key n) from trans desired _ comes
      (subst (λ o. HasRaised (raised s.floors key n) o trans) (sym is) (same, raised_to s.floors key n trans same))
      (λ outcome none bare obeys plain. Purges key n s.pending s.next outcome is none
      (record { reads = reads_of s.pending outcome all_stay; statuses = bare; acknowledges = obeys; faults = plain }))

  rebase_does : (from : Address) (trans : ℕ) (desired : Bool) (n : ℕ) → ComesFrom e from → n ≡ trans → raise_in g e ≡ Some (Base n) →
      Does (rebase s from trans desired n)
  unfolding rebase
  rebase_does from trans desired n comes same is =
      done_does (rebased s n) from trans desired _ comes
      (subst (λ o. HasRaised (with_base s.floors n) o trans) (sym is) (same, based_to s.floors n trans same))
      (λ outcome none bare obeys plain. Rebases n s.pending s.next outcome is none
      (record { reads = reads_of s.pending outcome all_stay; statuses = bare; acknowledges = obeys; faults = plain }))

  raising_clr_does : (from : Address) (trans : ℕ) (desired : Bool) (o : Option Raise) → ComesFrom e from → raise_in g e ≡ o →
      ((raise : Raise) → o ≡ Some raise → number_of raise ≡ trans) → Does (raising_clr s from trans desired o)
  unfolding raising_clr
  raising_clr_does from trans desired None comes is same = if_desired_does desired from _ tt
  raising_clr_does from trans desired (Some (Floor key n)) comes is same = purge_does from trans desired key n comes (same _ refl) is
  raising_clr_does from trans desired (Some (Base n)) comes is same = rebase_does from trans desired n comes (same _ refl) is

  dropped_does : (key : Option (List ℕ)) (outcome : Outcome) → copy_served outcome ≡ None → ServesBareStatus outcome →
      AllByRecursion (IsObedient g e s.floors) (sent outcome) → IsOwnFault outcome → Does record { state = dropped s key; outcome = outcome }
  dropped_does None outcome none bare obeys plain = stays s.pending s.next outcome none all_stay bare obeys plain
  dropped_does (Some key) outcome none bare obeys plain = Drops key s.pending s.next outcome none
      (record { reads = reads_of s.pending outcome all_stay; statuses = bare; acknowledges = obeys; faults = plain })

  dropped_floors : (key : Option (List ℕ)) → (dropped s key).floors ≡ s.floors
  dropped_floors None = refl
  dropped_floors (Some key) = refl

  plain_clr_does : (from : Address) (trans : ℕ) (desired : Bool) (key : Option (List ℕ)) → ComesFrom e from → raise_in g e ≡ None →
      Does (plain_clr g s from trans desired key)
  unfolding plain_clr
  plain_clr_does from trans desired key comes is =
      branches Does (is_known g.roster g.id udp.Htcp from || is_master g.roster from) _ _
      (λ _. done_does (dropped s key) from trans desired _ comes (subst (λ o. HasRaised (dropped s key).floors o trans) (sym is) tt)
      (λ outcome none bare obeys plain. dropped_does key outcome none bare
      (subst (λ rows. AllByRecursion (IsObedient g e rows) (sent outcome)) (dropped_floors key) obeys) plain))
      (λ _. if_desired_does desired from _ tt)

  clr_by_line_does : (from : Address) (trans : ℕ) (desired : Bool) (key : Option (List ℕ)) (line : Result (Option ℕ) HtcpFault) → ComesFrom e from →
      raise_in g e ≡ purge_by_line g from trans key line → Does (clr_by_line g s from trans desired key line)
  unfolding clr_by_line
  clr_by_line_does from trans desired key (Ok None) comes is = plain_clr_does from trans desired key comes is
  clr_by_line_does from trans desired key (Ok (Some n)) comes is = raising_clr_does from trans desired _ comes is (purge_number_is g from trans key n)
  clr_by_line_does from trans desired key (Err fault) comes is = if_desired_does desired from _ tt

  clr_by_lines_does : (from : Address) (trans : ℕ) (desired : Bool) (key : Option (List ℕ)) (number base : Result (Option ℕ) HtcpFault) → ComesFrom e from →
      raise_in g e ≡ raise_by_lines g from trans key number base → Does (clr_by_lines g s from trans desired key number base)
  unfolding clr_by_lines
  clr_by_lines_does from trans desired key number (Ok None) comes is = clr_by_line_does from trans desired key number comes is
  clr_by_lines_does from trans desired key number (Ok (Some n)) comes is =
      raising_clr_does from trans desired _ comes is (base_number_is g from trans n number)
  clr_by_lines_does from trans desired key number (Err fault) comes is = if_desired_does desired from _ tt

  icp_comes_does : (from : Address) (m : Icp) (now : ℕ) (o : IcpOp) → Does (icp_comes g s from m now mark o)
  unfolding icp_comes icp_query
  icp_comes_does from m now op.Query = sends_does from _ tt
  icp_comes_does from m now _ = icp_told_does from m now

  tst_refused_does : (from : Address) (trans opcode now : ℕ) → Does (tst_refused g s from trans opcode now mark)
  unfolding tst_refused
  tst_refused_does from trans opcode now =
      branches Does (nat_eq opcode 1) _ _ (λ _. htcp_told_does from trans _ now) (λ _. silent)

  tst_obeys : (from : Address) (trans : ℕ) (known : Bool) (c : Option (WebCopy X)) → IsObedient g e s.floors record
      { to = from; message = cond known (htcp trans (tst_answer c)) (overall trans 1 5) }
  tst_obeys from trans true None = tt
  tst_obeys from trans true (Some c) = tt
  tst_obeys from trans false c = tt

  htcp_comes_does : (from : Address) (trans now : ℕ) (content : Content) → ComesFrom e from → raise_in g e ≡ raise_in_content g from trans content →
      Does (htcp_comes g s from trans now mark content)
  unfolding htcp_comes htcp_tst htcp_clr
  htcp_comes_does from trans now (content.NopAsk desired) comes is = if_desired_does desired from _ tt
  htcp_comes_does from trans now content.NopAnswer comes is = silent
  htcp_comes_does from trans now (content.TstAsk desired spec) comes is = if_desired_does desired from _
      (tst_obeys from trans (answers_to g s udp.Htcp from) (copy_meant g s spec now))
  htcp_comes_does from trans now (content.TstHit detail) comes is = htcp_told_does from trans _ now
  htcp_comes_does from trans now (content.TstMiss cache) comes is = htcp_told_does from trans _ now
  htcp_comes_does from trans now (content.ClrAsk desired reason spec) comes is = clr_by_lines_does from trans desired _ _ _ comes is
  htcp_comes_does from trans now (content.ClrAnswer code) comes is = silent
  htcp_comes_does from trans now (content.Other opcode desired) comes is = if_desired_does desired from _ tt
  htcp_comes_does from trans now (content.Overall opcode code) comes is = tst_refused_does from trans opcode now
  htcp_comes_does from trans now (content.OtherAnswer opcode code) comes is = tst_refused_does from trans opcode now

  datagram_does : (from : Address) (now : ℕ) (m : Message) → ComesFrom e from → raise_in g e ≡ raise_in_message g from m → Does (datagram g s from now mark m)
  unfolding datagram
  datagram_does from now (message.Icp m) comes is = icp_comes_does from m now m.op
  datagram_does from now (message.Htcp m) comes is = htcp_comes_does from m.trans now m.content comes is

-- The whole step

module _ {X : Type 0} (g : Setting) (s : NodeState X) (mark : X) where
  open_step_does : s.closed ≡ false → (e : Event X) → Effect g s e mark (open_step g s mark e)
  unfolding open_step peer_answer foreign_answer origin_answer fetch_failed round_expired
  open_step_does is_open (event.Client ask now) = ask_comes_does g s _ mark is_open None ask now
  open_step_does is_open (event.Datagram from message now) = datagram_does g s _ mark from now message refl refl
  open_step_does is_open (event.PeerAsk asker ask now) = ask_comes_does g s _ mark is_open (Some asker) ask now
  open_step_does is_open (event.PeerAnswer serial peer key answer tag now) =
      branches (Effect g s _ mark) (is_foreign_id peer) _ _ (λ _. refused g s _ mark _ tt)
      (λ _. peer_answer_to_does g s _ mark is_open serial key peer _ answer tag now (λ p c h. h) _ refl)
  open_step_does is_open (event.OriginAnswer serial key answer now) = origin_answer_to_does g s _ mark is_open serial key answer now (λ p c h. h) _ refl
  open_step_does is_open (event.ForeignAnswer serial peer key answer tag now) =
      branches (Effect g s _ mark) (is_foreign_id peer) _ _
      (λ _. peer_answer_to_does g s _ mark is_open serial key peer 0 answer tag now (λ p c h. h) _ refl) (λ _. refused g s _ mark _ tt)
  open_step_does is_open (event.FetchFailed serial now) = failure_of_does g s _ mark now _
  open_step_does is_open (event.Expired serial now) = expiry_of_does g s _ mark _ now _ refl

  step_if_does : (e : Event X) (closed : Bool) → s.closed ≡ closed → Effect g s e mark (step_if g s e mark closed)
  unfolding step_if
  step_if_does e true is = refused g s e mark _ tt
  step_if_does e false is = open_step_does is e

  pub step_does : (e : Event X) → Effect g s e mark (step g s e mark)
  unfolding step
  step_does e = step_if_does e s.closed refl
