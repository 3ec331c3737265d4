-- The step function never looks at tags: with other tags it leads to the same step with other tags.
-- One lemma for each rule, in the order of specs/; each test in a rule gives the same with other
-- tags.
use Rattle.std.proofs.Common.{◌≡◌, ℕ, ◌+◌, Bool, true, false, not, ◌&&◌, ◌||◌, cond, List, [], ◌∷◌, ◌++◌, Option, Some, None, refl, nat_le, nat_eq, max, ap}
use Rattle.std.proofs.Common.{unwrap_or, nat_lt}
use Rattle.std.specs.Prelude.{bytes_eq}
use Rattle.values_plain.specs.declared.address.Address.{Address}
use Rattle.values_plain.specs.declared.address.Udp.{Udp}
use Rattle.icp_wire.specs.declared.message.IcpOp.{IcpOp}
use Rattle.icp_wire.specs.declared.message.IcpOp.TheVariants as op
use Rattle.icp_wire.specs.declared.message.Icp.{Icp}
use Rattle.htcp_wire.specs.declared.message.Specifier.{Specifier}
use Rattle.htcp_wire.specs.declared.message.Content.{Content}
use Rattle.htcp_wire.specs.declared.message.Content.TheVariants as content
use Rattle.node_rules.specs.declared.message.Message.{Message}
use Rattle.node_rules.specs.declared.message.Message.TheVariants as message
use Rattle.object_store.specs.declared.copy.WebCopy.{WebCopy}
use Rattle.http_messages.specs.declared.ask.Ask.{Ask}
use Rattle.http_messages.specs.Answer.{AnswerText}
use Rattle.values_tables.specs.declared.plain.Peer.{Peer}
use Rattle.peer_chooser.specs.declared.said.Said.{Said}
use Rattle.peer_chooser.specs.Round.{RoundText}
use Rattle.peer_chooser.specs.declared.said.Source.{Source}
use Rattle.peer_chooser.specs.declared.said.Source.TheVariants as source
use Rattle.node_rules.specs.declared.state.Fetch.{Fetch}
use Rattle.node_rules.specs.declared.state.Fetch.TheVariants.{Nowhere, AtPeer, AtOrigin}
use Rattle.node_rules.specs.declared.state.Pending.{Pending}
use Rattle.node_rules.specs.declared.state.NodeState.{NodeState}
use Rattle.node_rules.specs.declared.event.Event.{Event}
use Rattle.node_rules.specs.declared.event.Event.TheVariants as event
use Rattle.floor_rules.specs.Floors.{FloorTable, floor, seen, raised, new_base, with_base}
use Rattle.values_tables.specs.Ranges.{is_foreign_id}
use Rattle.roster.specs.Lookups.{is_master}
use Rattle.node_rules.specs.Known.{has_origin, is_known}
use Rattle.peer_chooser.specs.Round.{has_answered, answered, ended, started}
use Rattle.object_store.specs.Listed.{copy_of, without_below, without_all_below}
use Rattle.object_store.specs.Held.{is_older_than}
use Rattle.reuse_rules.specs.Lifetime.{lifetime}
use Rattle.htcp_wire.specs.declared.fault.HtcpFault.{HtcpFault}
use Rattle.htcp_wire.specs.declared.numbers.HeaderKind.TheVariants.{PurgeNumber, PurgeBase}
use Rattle.htcp_wire.specs.Numbers.{number_in_text}
use Rattle.values_plain.specs.declared.address.Udp.TheVariants as udp
use Rattle.node_rules.specs.State.{Setting, Stepped, is_idle, good_copy, served_age, round_serial, fetch_serial}
use Rattle.node_rules.specs.Fetching.{ask_peer, begin_read, read_origin, go_to, go_on, choice_of}
use Rattle.node_rules.specs.Asks.{is_cached_only, free_block, block_after, begin_round, begin_with_read, ask_around, begin_ask, begin_if_free, not_held}
use Rattle.node_rules.specs.Asks.{by_copy, copy_for, ask_comes_to, ask_comes, peers_to_ask}
use Rattle.node_rules.specs.declared.raising.Raise.{Raise}
use Rattle.node_rules.specs.declared.raising.Raise.TheVariants.{Floor, Base}
use Rattle.node_rules.specs.Raises.{left_by}
use Rattle.node_rules.specs.Arrivals.{stored, not_fetching, use_answer, try_on, is_gateway_fault, peer_gave, origin_gave, is_fetch, from_peer, peer_answer_to}
use Rattle.node_rules.specs.Arrivals.{peer_answer, foreign_answer, from_origin, origin_answer_to, origin_answer, fails, failure_of, fetch_failed, with_round}
use Rattle.node_rules.specs.Arrivals.{round_moves, expires, expiry_of, round_expired}
use Rattle.node_rules.specs.Datagrams.{if_desired, icp_query, htcp_tst, hears, told_by, told_to, peer_at, icp_told, icp_said, is_key, htcp_told, clr_done}
use Rattle.node_rules.specs.Datagrams.{purge, rebase, holds_older, purge_of, base_alone, raising_clr, held, dropped, plain_clr, clr_by_line, clr_by_lines}
use Rattle.node_rules.specs.Datagrams.{htcp_clr, icp_comes, tst_refused}
use Rattle.node_rules.specs.Datagrams.{htcp_comes, datagram}
use Rattle.node_rules.specs.Step.{open_step, step_if, step}
use Rattle.std.specs.Prelude.{option_map, is_some}
use Rattle.std.proofs.Common.{◌∙◌}
use Rattle.node_rules.specs.Arrivals.{new_copy}
use Rattle.std.specs.Prelude.{codes, map, find, Result, Ok, Err}
use Rattle.std.specs.List.{filter_map, list_any}
use Rattle.std.proofs.Common.{◌*◌}
use Rattle.node_rules.specs.declared.reply.Reply.{Reply}
use Rattle.node_rules.specs.declared.reply.Begin.TheVariants as begin
use Rattle.node_rules.specs.declared.reply.Served.TheVariants.{Copy, Status}
use Rattle.node_rules.specs.Messages.{icp, htcp, overall}
use Rattle.node_rules.specs.Fetching.{fetching, origin_ask, peer_ask, own_id}
use Rattle.node_rules.specs.Asks.{new_ask, question_to, taking}
use Rattle.node_rules.specs.Datagrams.{answers_to, sends_back, icp_answer, hit_or_miss, tst_answer, copy_at, copy_meant, purged, rebased, clr_code}
use Rattle.node_rules.specs.Effect.{state_of}
use Rattle.node_rules.specs.State.{replies, with_copies, with_pending, changing, ending, serving, beginning, quiet}
use Rattle.node_rules.specs.Tags.{retag_copy, retag_fetch, retag_pending, retag_state, retag_event, retag_reply, retag_stepped}
use Rattle.node_rules.proofs.TagLists.{both_ways, copy_of-retag, without-retag, without_below-retag, without_all_below-retag, to_front-retag, stored-retag}
use Rattle.node_rules.proofs.TagLists.{good_copy-retag, copy_for-retag, inserted-retag, free_block-retag, changing-retag, ending-retag, find-retag}

some-retag : {A B : Type 0} (h : A → B) (o : Option A) → is_some (option_map h o) ≡ is_some o
some-retag h None = refl
some-retag h (Some x) = refl

module _ {X Y : Type 0} (f : X → Y) (g : Setting) where
  abbrev to : Stepped X → Stepped Y
  to r = retag_stepped f r

  -- Requests that change and end

  changes-retag : (s : NodeState X) (p : Pending X) (reply : Reply X) → replies (changing (retag_state f s) (retag_pending f p)) (retag_reply f reply) ≡ to
      (replies (changing s p) reply)
  changes-retag s p reply = ap (λ ps. replies (with_pending (retag_state f s) ps) (retag_reply f reply)) (changing-retag f s.pending p)

  ends-retag : (s : NodeState X) (block : ℕ) (reply : Reply X) → replies (ending (retag_state f s) block) (retag_reply f reply) ≡ to
      (replies (ending s block) reply)
  ends-retag s block reply = ap (λ ps. replies (with_pending (retag_state f s) ps) (retag_reply f reply)) (ending-retag f s.pending block)

  -- Going on

  begin_read-retag : (s : NodeState X) (p : Pending X) (now : ℕ) (mark : X) → begin_read (retag_state f s) (retag_pending f p) now (f mark) ≡ to
      (begin_read s p now mark)
  unfolding begin_read
  begin_read-retag s p now mark =
      let q : Pending X = fetching p (p.reads + 1) (AtOrigin (seen s.floors) now mark) in
      changes-retag s q (beginning (begin.Read (fetch_serial q) (origin_ask p.ask)))

  ask_peer-retag : (s : NodeState X) (p : Pending X) (peer : ℕ) (cached : Bool) (now : ℕ) →
      ask_peer g (retag_state f s) (retag_pending f p) peer cached now ≡ to (ask_peer g s p peer cached now)
  unfolding ask_peer
  ask_peer-retag s p peer cached now =
      let q : Pending X = fetching p p.reads (AtPeer peer now) in
      changes-retag s q (beginning (begin.Peer (fetch_serial q) peer (peer_ask p.ask.key cached (own_id g.id peer))))

  read_origin-retag : (s : NodeState X) (p : Pending X) (waiter : Option ℕ) (now : ℕ) (mark : X) →
      read_origin g (retag_state f s) (retag_pending f p) waiter now (f mark) ≡ to (read_origin g s p waiter now mark)
  unfolding read_origin
  read_origin-retag s p waiter now mark =
      both_ways (retag_stepped f) (nat_le 3 p.reads) _ _ _ _ (ends-retag s p.block (serving waiter p.asker (Status 503)))
      (both_ways (retag_stepped f) (has_origin g.roster p.ask.key) _ _ _ _ (begin_read-retag s p now mark)
      (ends-retag s p.block (serving waiter p.asker (Status 502))))

  go_to-retag : (s : NodeState X) (p : Pending X) (now : ℕ) (mark : X) (way : Source) → go_to g (retag_state f s) (retag_pending f p) now (f mark) way ≡ to
      (go_to g s p now mark way)
  unfolding go_to
  go_to-retag s p now mark source.Wait = changes-retag s p quiet
  go_to-retag s p now mark (source.Peer peer cached) = ask_peer-retag s p peer cached now
  go_to-retag s p now mark source.Origin = read_origin-retag s p (Some p.block) now mark

  go_on-retag : (s : NodeState X) (p : Pending X) (now : ℕ) (mark : X) → go_on g (retag_state f s) (retag_pending f p) now (f mark) ≡ to (go_on g s p now mark)
  unfolding go_on
  go_on-retag s p now mark = go_to-retag s p now mark (choice_of p.round (floor s.floors p.ask.key) p.tried)

  -- Requests

  takes-retag : (s : NodeState X) (p : Pending X) (reply : Reply X) → replies (taking (retag_state f s) (retag_pending f p)) (retag_reply f reply) ≡ to
      (replies (taking s p) reply)
  takes-retag s p reply =
      ap (λ ps. replies (with_pending (record (retag_state f s) { next = block_after p.block }) ps) (retag_reply f reply)) (inserted-retag f p s.pending)

  with_read-retag : (s : NodeState X) (asker : Option ℕ) (ask : Ask) (block now : ℕ) (mark : X) →
      begin_with_read g (retag_state f s) asker ask block now (f mark) ≡ to (begin_with_read g s asker ask block now mark)
  unfolding begin_with_read
  with_read-retag s asker ask block now mark =
      let q : Pending X = fetching (new_ask block asker ask None) 1 (AtOrigin (seen s.floors) now mark) in
      both_ways (retag_stepped f) (has_origin g.roster ask.key) _ _ _ _ (takes-retag s q (beginning (begin.Read (fetch_serial q) (origin_ask ask)))) refl

  ask_around-retag : (s : NodeState X) (asker : Option ℕ) (ask : Ask) (block now : ℕ) (mark : X) (round : RoundText) (peers : List Peer) →
      ask_around g (retag_state f s) asker ask block now (f mark) round peers ≡ to (ask_around g s asker ask block now mark round peers)
  unfolding ask_around begin_round
  ask_around-retag s asker ask block now mark round [] = with_read-retag s asker ask block now mark
  ask_around-retag s asker ask block now mark round (peer ∷ peers) =
      takes-retag s (new_ask block asker ask (Some round)) record {
        serve = None;
        send = filter_map (question_to g.roster (32 * block) ask.key) round.asked;
        begin = Some (begin.Round (32 * block));
      }

  begin_if_free-retag : (s : NodeState X) (asker : Option ℕ) (ask : Ask) (now : ℕ) (mark : X) (o : Option ℕ) →
      begin_if_free g (retag_state f s) asker ask now (f mark) o ≡ to (begin_if_free g s asker ask now mark o)
  unfolding begin_if_free begin_ask
  begin_if_free-retag s asker ask now mark None = refl
  begin_if_free-retag s asker ask now mark (Some block) =
      let round : RoundText = started (peers_to_ask g ask) (floor s.floors ask.key) in
      ask_around-retag s asker ask block now mark round round.asked

  not_held-retag : (s : NodeState X) (asker : Option ℕ) (ask : Ask) (now : ℕ) (mark : X) → not_held g (retag_state f s) asker ask now (f mark) ≡ to
      (not_held g s asker ask now mark)
  unfolding not_held
  not_held-retag s asker ask now mark =
      both_ways (retag_stepped f) (is_cached_only g asker ask) _ _ _ _ refl
      (ap (begin_if_free g (retag_state f s) asker ask now (f mark)) (free_block-retag f s) ∙ begin_if_free-retag s asker ask now mark (free_block s))

  by_copy-retag : (s : NodeState X) (asker : Option ℕ) (ask : Ask) (now : ℕ) (mark : X) (o : Option (WebCopy X)) →
      by_copy g (retag_state f s) asker ask now (f mark) (option_map (retag_copy f) o) ≡ to (by_copy g s asker ask now mark o)
  unfolding by_copy
  by_copy-retag s asker ask now mark None = not_held-retag s asker ask now mark
  by_copy-retag s asker ask now mark (Some c) =
      ap (λ cs. replies (with_copies (retag_state f s) cs) (serving None asker (Copy (retag_copy f c) (served_age c now)))) (to_front-retag f ask.key s.copies)

  ask_comes_to-retag : (s : NodeState X) (asker : Option ℕ) (ask : Ask) (now : ℕ) (mark : X) (outside : Bool) →
      ask_comes_to g (retag_state f s) asker ask now (f mark) outside ≡ to (ask_comes_to g s asker ask now mark outside)
  unfolding ask_comes_to
  ask_comes_to-retag s asker ask now mark true = refl
  ask_comes_to-retag s asker ask now mark false =
      ap (by_copy g (retag_state f s) asker ask now (f mark)) (copy_for-retag f s ask now) ∙ by_copy-retag s asker ask now mark (copy_for s ask now)

  ask_comes-retag : (s : NodeState X) (asker : Option ℕ) (ask : Ask) (now : ℕ) (mark : X) →
      ask_comes g (retag_state f s) asker ask now (f mark) ≡ to (ask_comes g s asker ask now mark)
  unfolding ask_comes
  ask_comes-retag s asker ask now mark = ask_comes_to-retag s asker ask now mark _

  -- Arrivals

  use_answer-retag : (s : NodeState X) (p : Pending X) (stamp asked : ℕ) (answer : AnswerText) (tag : X) (now : ℕ) →
      use_answer g (retag_state f s) (retag_pending f p) stamp asked answer (f tag) now ≡ to (use_answer g s p stamp asked answer tag now)
  unfolding use_answer
  use_answer-retag s p stamp asked answer tag now =
      let life : Option ℕ = lifetime answer g.roster.limits.default_lifetime in
      let c : WebCopy X = new_copy p.ask.key stamp asked life answer tag in
      let reply : Reply Y = serving (Some p.block) p.asker (Copy (retag_copy f c) (served_age c now)) in
      ap (λ cs. replies (with_copies (ending (retag_state f s) p.block) cs) reply) (stored-retag f g.roster.limits c life s.copies)
      ∙ ap (λ ps. replies (with_copies (with_pending (retag_state f s) ps) (map (retag_copy f) (stored g.roster.limits c life s.copies))) reply)
      (ending-retag f s.pending p.block)

  peer_gave-retag : (s : NodeState X) (p : Pending X) (peer asked stamp : ℕ) (answer : AnswerText) (tag : X) (now : ℕ) (mark : X) →
      peer_gave g (retag_state f s) (retag_pending f p) peer asked stamp answer (f tag) now (f mark) ≡ to (peer_gave g s p peer asked stamp answer tag now mark)
  unfolding peer_gave try_on
  peer_gave-retag s p peer asked stamp answer tag now mark =
      both_ways (retag_stepped f) (nat_le (floor s.floors p.ask.key) stamp && not (is_gateway_fault answer.status)) _ _ _ _
      (use_answer-retag s p stamp asked answer tag now) (go_on-retag s (not_fetching p (p.tried ++ peer ∷ [])) now mark)

  origin_gave-retag : (s : NodeState X) (p : Pending X) (stamp asked : ℕ) (read_mark : X) (answer : AnswerText) (now : ℕ) (mark : X) →
      origin_gave g (retag_state f s) (retag_pending f p) stamp asked (f read_mark) answer now (f mark) ≡ to
      (origin_gave g s p stamp asked read_mark answer now mark)
  unfolding origin_gave
  origin_gave-retag s p stamp asked read_mark answer now mark =
      both_ways (retag_stepped f) (nat_le (floor s.floors p.ask.key) stamp) _ _ _ _
      (use_answer-retag s p stamp asked answer read_mark now) (go_on-retag s (not_fetching p p.tried) now mark)

  from_peer-retag : (s : NodeState X) (p : Pending X) (peer stamp : ℕ) (answer : AnswerText) (tag : X) (now : ℕ) (mark : X) (fetch : Fetch X) →
      from_peer g (retag_state f s) (retag_pending f p) peer stamp answer (f tag) now (f mark) (retag_fetch f fetch) ≡ to
      (from_peer g s p peer stamp answer tag now mark fetch)
  unfolding from_peer
  from_peer-retag s p peer stamp answer tag now mark (AtPeer at asked) =
      both_ways (retag_stepped f) (nat_eq at peer) _ _ _ _
      (peer_gave-retag s p peer asked stamp answer tag now mark) refl
  from_peer-retag s p peer stamp answer tag now mark (AtOrigin read asked read_mark) = refl
  from_peer-retag s p peer stamp answer tag now mark Nowhere = refl

  peer_answer_to-retag : (s : NodeState X) (peer stamp : ℕ) (answer : AnswerText) (tag : X) (now : ℕ) (mark : X) (o : Option (Pending X)) →
      peer_answer_to g (retag_state f s) peer stamp answer (f tag) now (f mark) (option_map (retag_pending f) o) ≡ to
      (peer_answer_to g s peer stamp answer tag now mark o)
  unfolding peer_answer_to
  peer_answer_to-retag s peer stamp answer tag now mark None = refl
  peer_answer_to-retag s peer stamp answer tag now mark (Some p) = from_peer-retag s p peer stamp answer tag now mark p.fetch

  found_answer-retag : (s : NodeState X) (serial peer stamp : ℕ) (key : List ℕ) (answer : AnswerText) (tag : X) (now : ℕ) (mark : X) →
      peer_answer_to g (retag_state f s) peer stamp answer (f tag) now (f mark) (find (is_fetch serial key) (map (retag_pending f) s.pending)) ≡ to
      (peer_answer_to g s peer stamp answer tag now mark (find (is_fetch serial key) s.pending))
  found_answer-retag s serial peer stamp key answer tag now mark =
      ap (peer_answer_to g (retag_state f s) peer stamp answer (f tag) now (f mark)) (find-retag f (is_fetch serial key) s)
      ∙ peer_answer_to-retag s peer stamp answer tag now mark (find (is_fetch serial key) s.pending)

  peer_answer-retag : (s : NodeState X) (serial peer : ℕ) (key : List ℕ) (answer : AnswerText) (tag : X) (now : ℕ) (mark : X) →
      peer_answer g (retag_state f s) serial peer key answer (f tag) now (f mark) ≡ to (peer_answer g s serial peer key answer tag now mark)
  unfolding peer_answer
  peer_answer-retag s serial peer key answer tag now mark =
      both_ways (retag_stepped f) (is_foreign_id peer) _ _ _ _ refl (found_answer-retag s serial peer (unwrap_or answer.stamp 0) key answer tag now mark)

  foreign_answer-retag : (s : NodeState X) (serial peer : ℕ) (key : List ℕ) (answer : AnswerText) (tag : X) (now : ℕ) (mark : X) →
      foreign_answer g (retag_state f s) serial peer key answer (f tag) now (f mark) ≡ to (foreign_answer g s serial peer key answer tag now mark)
  unfolding foreign_answer
  foreign_answer-retag s serial peer key answer tag now mark =
      both_ways (retag_stepped f) (is_foreign_id peer) _ _ _ _ (found_answer-retag s serial peer 0 key answer tag now mark) refl

  from_origin-retag : (s : NodeState X) (p : Pending X) (answer : AnswerText) (now : ℕ) (mark : X) (fetch : Fetch X) →
      from_origin g (retag_state f s) (retag_pending f p) answer now (f mark) (retag_fetch f fetch) ≡ to (from_origin g s p answer now mark fetch)
  unfolding from_origin
  from_origin-retag s p answer now mark (AtOrigin stamp asked read_mark) =
      origin_gave-retag s p stamp asked read_mark answer now mark
  from_origin-retag s p answer now mark (AtPeer peer asked) = refl
  from_origin-retag s p answer now mark Nowhere = refl

  origin_answer_to-retag : (s : NodeState X) (answer : AnswerText) (now : ℕ) (mark : X) (o : Option (Pending X)) →
      origin_answer_to g (retag_state f s) answer now (f mark) (option_map (retag_pending f) o) ≡ to (origin_answer_to g s answer now mark o)
  unfolding origin_answer_to
  origin_answer_to-retag s answer now mark None = refl
  origin_answer_to-retag s answer now mark (Some p) = from_origin-retag s p answer now mark p.fetch

  origin_answer-retag : (s : NodeState X) (serial : ℕ) (key : List ℕ) (answer : AnswerText) (now : ℕ) (mark : X) →
      origin_answer g (retag_state f s) serial key answer now (f mark) ≡ to (origin_answer g s serial key answer now mark)
  unfolding origin_answer
  origin_answer-retag s serial key answer now mark =
      ap (origin_answer_to g (retag_state f s) answer now (f mark)) (find-retag f (is_fetch serial key) s)
      ∙ origin_answer_to-retag s answer now mark (find (is_fetch serial key) s.pending)

  fails-retag : (s : NodeState X) (p : Pending X) (now : ℕ) (mark : X) (fetch : Fetch X) → fails g (retag_state f s) (retag_pending f p) now (f mark)
      (retag_fetch f fetch) ≡ to (fails g s p now mark fetch)
  unfolding fails try_on
  fails-retag s p now mark (AtPeer peer asked) =
      go_on-retag s (not_fetching p (p.tried ++ peer ∷ [])) now mark
  fails-retag s p now mark (AtOrigin stamp asked read_mark) = ends-retag s p.block (serving (Some p.block) p.asker (Status 502))
  fails-retag s p now mark Nowhere = refl

  failure_of-retag : (s : NodeState X) (now : ℕ) (mark : X) (o : Option (Pending X)) → failure_of g (retag_state f s) now (f mark)
      (option_map (retag_pending f) o) ≡ to (failure_of g s now mark o)
  unfolding failure_of
  failure_of-retag s now mark None = refl
  failure_of-retag s now mark (Some p) = fails-retag s p now mark p.fetch

  fetch_failed-retag : (s : NodeState X) (serial now : ℕ) (mark : X) → fetch_failed g (retag_state f s) serial now (f mark) ≡ to
      (fetch_failed g s serial now mark)
  unfolding fetch_failed
  fetch_failed-retag s serial now mark =
      ap (failure_of g (retag_state f s) now (f mark)) (find-retag f (λ p. nat_eq (fetch_serial p) serial) s)
      ∙ failure_of-retag s now mark (find (λ p. nat_eq (fetch_serial p) serial) s.pending)

  idle-retag : (fetch : Fetch X) → is_idle (retag_fetch f fetch) ≡ is_idle fetch
  idle-retag Nowhere = refl
  idle-retag (AtPeer peer asked) = refl
  idle-retag (AtOrigin stamp asked mark) = refl

  round_moves-retag : (s : NodeState X) (p : Pending X) (now : ℕ) (mark : X) → round_moves g (retag_state f s) (retag_pending f p) now (f mark) ≡ to
      (round_moves g s p now mark)
  unfolding round_moves
  round_moves-retag s p now mark =
      ap (λ b. cond b (go_on g (retag_state f s) (retag_pending f p) now (f mark)) (replies (changing (retag_state f s) (retag_pending f p)) quiet))
      (idle-retag p.fetch)
      ∙ both_ways (retag_stepped f) (is_idle p.fetch) _ _ _ _ (go_on-retag s p now mark) (changes-retag s p quiet)

  expires-retag : (s : NodeState X) (p : Pending X) (now : ℕ) (mark : X) (o : Option RoundText) →
      expires g (retag_state f s) (retag_pending f p) now (f mark) o ≡ to (expires g s p now mark o)
  unfolding expires
  expires-retag s p now mark None = refl
  expires-retag s p now mark (Some r) = round_moves-retag s (with_round p (ended r)) now mark

  expiry_of-retag : (s : NodeState X) (now : ℕ) (mark : X) (o : Option (Pending X)) → expiry_of g (retag_state f s) now (f mark)
      (option_map (retag_pending f) o) ≡ to (expiry_of g s now mark o)
  unfolding expiry_of
  expiry_of-retag s now mark None = refl
  expiry_of-retag s now mark (Some p) = expires-retag s p now mark p.round

  round_expired-retag : (s : NodeState X) (serial now : ℕ) (mark : X) → round_expired g (retag_state f s) serial now (f mark) ≡ to
      (round_expired g s serial now mark)
  unfolding round_expired
  round_expired-retag s serial now mark =
      ap (expiry_of g (retag_state f s) now (f mark)) (find-retag f (λ p. nat_eq (round_serial p) serial) s)
      ∙ expiry_of-retag s now mark (find (λ p. nat_eq (round_serial p) serial) s.pending)

  -- Datagrams

  if_desired-retag : (s : NodeState X) (desired : Bool) (from : Address) (m : Message) → if_desired (retag_state f s) desired from m ≡ to
      (if_desired s desired from m)
  if_desired-retag s true from m = refl
  if_desired-retag s false from m = refl

  hears-retag : (s : NodeState X) (p : Pending X) (peer : Peer) (said : Said) (now : ℕ) (mark : X) (o : Option RoundText) →
      hears g (retag_state f s) (retag_pending f p) peer said now (f mark) o ≡ to (hears g s p peer said now mark o)
  unfolding hears
  hears-retag s p peer said now mark None = refl
  hears-retag s p peer said now mark (Some r) =
      both_ways (retag_stepped f) (has_answered r.answers peer.id) _ _ _ _ refl (round_moves-retag s (with_round p (answered r peer.id said)) now mark)

  told_by-retag : (s : NodeState X) (p : Pending X) (said : Peer → Said) (now : ℕ) (mark : X) (o : Option Peer) →
      told_by g (retag_state f s) (retag_pending f p) said now (f mark) o ≡ to (told_by g s p said now mark o)
  unfolding told_by
  told_by-retag s p said now mark None = refl
  told_by-retag s p said now mark (Some peer) = hears-retag s p peer (said peer) now mark p.round

  told_to-retag : (s : NodeState X) (by : Udp) (from : Address) (said : Peer → Said) (now : ℕ) (mark : X) (o : Option (Pending X)) →
      told_to g (retag_state f s) by from said now (f mark) (option_map (retag_pending f) o) ≡ to (told_to g s by from said now mark o)
  unfolding told_to
  told_to-retag s by from said now mark None = refl
  told_to-retag s by from said now mark (Some p) = told_by-retag s p said now mark (peer_at g by from p.round)

  icp_told-retag : (s : NodeState X) (from : Address) (m : Icp) (now : ℕ) (mark : X) → icp_told g (retag_state f s) from m now (f mark) ≡ to
      (icp_told g s from m now mark)
  unfolding icp_told
  icp_told-retag s from m now mark =
      ap (told_to g (retag_state f s) udp.Icp from (λ p. icp_said m.op) now (f mark))
      (find-retag f (λ p. nat_eq (round_serial p) m.number && is_key (g.key_of m.url) p.ask.key) s)
      ∙ told_to-retag s udp.Icp from (λ p. icp_said m.op) now mark (find (λ p. nat_eq (round_serial p) m.number && is_key (g.key_of m.url) p.ask.key) s.pending)

  htcp_told-retag : (s : NodeState X) (from : Address) (trans : ℕ) (said : Peer → Said) (now : ℕ) (mark : X) →
      htcp_told g (retag_state f s) from trans said now (f mark) ≡ to (htcp_told g s from trans said now mark)
  unfolding htcp_told
  htcp_told-retag s from trans said now mark =
      ap (told_to g (retag_state f s) udp.Htcp from said now (f mark)) (find-retag f (λ p. nat_eq (round_serial p) trans) s)
      ∙ told_to-retag s udp.Htcp from said now mark (find (λ p. nat_eq (round_serial p) trans) s.pending)

  hit-retag : (o : Option (WebCopy X)) → hit_or_miss (option_map (retag_copy f) o) ≡ hit_or_miss o
  hit-retag None = refl
  hit-retag (Some c) = refl

  icp_answer-retag : (known : Bool) (s : NodeState X) (now : ℕ) (key : Option (List ℕ)) → icp_answer known (retag_state f s) now key ≡ icp_answer known s now
      key
  icp_answer-retag false s now key = refl
  icp_answer-retag true s now None = refl
  icp_answer-retag true s now (Some key) = ap hit_or_miss (good_copy-retag f s key now) ∙ hit-retag (good_copy s key now)

  tst_answer-retag : (o : Option (WebCopy X)) → tst_answer (option_map (retag_copy f) o) ≡ tst_answer o
  tst_answer-retag None = refl
  tst_answer-retag (Some c) = refl

  copy_at-retag : (s : NodeState X) (now : ℕ) (key : Option (List ℕ)) → copy_at (retag_state f s) now key ≡ option_map (retag_copy f) (copy_at s now key)
  copy_at-retag s now None = refl
  copy_at-retag s now (Some key) = good_copy-retag f s key now

  copy_meant-retag : (s : NodeState X) (spec : Specifier) (now : ℕ) → copy_meant g (retag_state f s) spec now ≡ option_map (retag_copy f)
      (copy_meant g s spec now)
  copy_meant-retag s spec now =
      both_ways (option_map (retag_copy f)) (bytes_eq spec.method (codes "GET")) (copy_at s now (g.key_of spec.uri)) None _ _
      (copy_at-retag s now (g.key_of spec.uri)) refl

  htcp_tst-retag : (s : NodeState X) (from : Address) (trans : ℕ) (desired : Bool) (spec : Specifier) (now : ℕ) →
      htcp_tst g (retag_state f s) from trans desired spec now ≡ to (htcp_tst g s from trans desired spec now)
  unfolding htcp_tst
  htcp_tst-retag s from trans desired spec now =
      ap (λ c. if_desired (retag_state f s) desired from (cond (answers_to g s udp.Htcp from) (htcp trans c) (overall trans 1 5)))
      (ap tst_answer (copy_meant-retag s spec now) ∙ tst_answer-retag (copy_meant g s spec now))
      ∙ if_desired-retag s desired from _

  below-retag : (n : ℕ) (o : Option (WebCopy X)) → is_older_than n (option_map (retag_copy f) o) ≡ is_older_than n o
  below-retag n None = refl
  below-retag n (Some c) = refl

  left_by-retag : (floors : FloorTable) (key : List ℕ) (n : ℕ) (copies : List (WebCopy X)) →
      left_by floors key n (map (retag_copy f) copies) ≡ map (retag_copy f) (left_by floors key n copies)
  left_by-retag floors key n copies =
      ap (without_all_below (new_base floors key n)) (without_below-retag f key n copies)
      ∙ without_all_below-retag f (new_base floors key n) (without_below key n copies)

  purge-retag : (s : NodeState X) (from : Address) (trans : ℕ) (desired : Bool) (key : List ℕ) (n : ℕ) →
      purge (retag_state f s) from trans desired key n ≡ to (purge s from trans desired key n)
  unfolding purge
  purge-retag s from trans desired key n =
      let least = max n (new_base s.floors key n) in
      ap (λ b. clr_done (purged (retag_state f s) key n) from trans desired b)
      (ap (is_older_than least) (copy_of-retag f key s.copies) ∙ below-retag least (copy_of key s.copies))
      ∙ ap (λ cs. if_desired (state_of (raised s.floors key n) cs s.closed (map (retag_pending f) s.pending) s.next) desired from
      (htcp trans (content.ClrAnswer (clr_code (is_older_than least (copy_of key s.copies)))))) (left_by-retag s.floors key n s.copies)
      ∙ if_desired-retag (purged s key n) desired from _

  holds_older-retag : (n : ℕ) (copies : List (WebCopy X)) →
      list_any (λ (c : WebCopy Y). nat_lt c.stamp n) (map (retag_copy f) copies) ≡ list_any (λ (c : WebCopy X). nat_lt c.stamp n) copies
  holds_older-retag n [] = refl
  holds_older-retag n (c ∷ copies) = ap (λ b. nat_lt c.stamp n || b) (holds_older-retag n copies)

  rebase-retag : (s : NodeState X) (from : Address) (trans : ℕ) (desired : Bool) (n : ℕ) →
      rebase (retag_state f s) from trans desired n ≡ to (rebase s from trans desired n)
  unfolding rebase
  rebase-retag s from trans desired n =
      ap (clr_done (rebased (retag_state f s) n) from trans desired) (holds_older-retag n s.copies)
      ∙ ap (λ cs. if_desired (state_of (with_base s.floors n) cs s.closed (map (retag_pending f) s.pending) s.next) desired from
      (htcp trans (content.ClrAnswer (clr_code (holds_older s n))))) (without_all_below-retag f n s.copies)
      ∙ if_desired-retag (rebased s n) desired from _

  raising_clr-retag : (s : NodeState X) (from : Address) (trans : ℕ) (desired : Bool) (o : Option Raise) →
      raising_clr (retag_state f s) from trans desired o ≡ to (raising_clr s from trans desired o)
  unfolding raising_clr
  raising_clr-retag s from trans desired None = if_desired-retag s desired from _
  raising_clr-retag s from trans desired (Some (Floor key n)) = purge-retag s from trans desired key n
  raising_clr-retag s from trans desired (Some (Base n)) = rebase-retag s from trans desired n

  dropped-retag : (s : NodeState X) (key : Option (List ℕ)) → dropped (retag_state f s) key ≡ retag_state f (dropped s key)
  dropped-retag s None = refl
  dropped-retag s (Some key) = ap (with_copies (retag_state f s)) (without-retag f key s.copies)

  held-retag : (s : NodeState X) (key : Option (List ℕ)) → held (retag_state f s) key ≡ held s key
  held-retag s None = refl
  held-retag s (Some key) = ap is_some (copy_of-retag f key s.copies) ∙ some-retag (retag_copy f) (copy_of key s.copies)

  plain_clr-retag : (s : NodeState X) (from : Address) (trans : ℕ) (desired : Bool) (key : Option (List ℕ)) →
      plain_clr g (retag_state f s) from trans desired key ≡ to (plain_clr g s from trans desired key)
  unfolding plain_clr
  plain_clr-retag s from trans desired key =
      both_ways (retag_stepped f) (is_known g.roster g.id udp.Htcp from || is_master g.roster from) _ _ _ _
      (ap (λ t. clr_done t from trans desired (held (retag_state f s) key)) (dropped-retag s key)
      ∙ ap (clr_done (retag_state f (dropped s key)) from trans desired) (held-retag s key)
      ∙ if_desired-retag (dropped s key) desired from _)
      (if_desired-retag s desired from _)

  clr_by_line-retag : (s : NodeState X) (from : Address) (trans : ℕ) (desired : Bool) (key : Option (List ℕ)) (line : Result (Option ℕ) HtcpFault) →
      clr_by_line g (retag_state f s) from trans desired key line ≡ to (clr_by_line g s from trans desired key line)
  unfolding clr_by_line
  clr_by_line-retag s from trans desired key (Ok None) = plain_clr-retag s from trans desired key
  clr_by_line-retag s from trans desired key (Ok (Some n)) = raising_clr-retag s from trans desired (purge_of g from trans key n)
  clr_by_line-retag s from trans desired key (Err fault) = if_desired-retag s desired from _

  clr_by_lines-retag : (s : NodeState X) (from : Address) (trans : ℕ) (desired : Bool) (key : Option (List ℕ)) (number base : Result (Option ℕ) HtcpFault) →
      clr_by_lines g (retag_state f s) from trans desired key number base ≡ to (clr_by_lines g s from trans desired key number base)
  unfolding clr_by_lines
  clr_by_lines-retag s from trans desired key number (Ok None) = clr_by_line-retag s from trans desired key number
  clr_by_lines-retag s from trans desired key number (Ok (Some n)) = raising_clr-retag s from trans desired (base_alone g from trans n number)
  clr_by_lines-retag s from trans desired key number (Err fault) = if_desired-retag s desired from _

  icp_comes-retag : (s : NodeState X) (from : Address) (m : Icp) (now : ℕ) (mark : X) (o : IcpOp) →
      icp_comes g (retag_state f s) from m now (f mark) o ≡ to (icp_comes g s from m now mark o)
  unfolding icp_comes icp_query
  icp_comes-retag s from m now mark op.Query =
      ap (λ o. sends_back (retag_state f s) from (icp o m.number m.url)) (icp_answer-retag (answers_to g s udp.Icp from) s now (g.key_of m.url))
  icp_comes-retag s from m now mark _ = icp_told-retag s from m now mark

  tst_refused-retag : (s : NodeState X) (from : Address) (trans opcode now : ℕ) (mark : X) →
      tst_refused g (retag_state f s) from trans opcode now (f mark) ≡ to (tst_refused g s from trans opcode now mark)
  unfolding tst_refused
  tst_refused-retag s from trans opcode now mark = both_ways (retag_stepped f) (nat_eq opcode 1) _ _ _ _ (htcp_told-retag s from trans _ now mark) refl

  htcp_comes-retag : (s : NodeState X) (from : Address) (trans now : ℕ) (mark : X) (c : Content) →
      htcp_comes g (retag_state f s) from trans now (f mark) c ≡ to (htcp_comes g s from trans now mark c)
  unfolding htcp_comes htcp_clr
  htcp_comes-retag s from trans now mark (content.NopAsk desired) = if_desired-retag s desired from _
  htcp_comes-retag s from trans now mark content.NopAnswer = refl
  htcp_comes-retag s from trans now mark (content.TstAsk desired spec) = htcp_tst-retag s from trans desired spec now
  htcp_comes-retag s from trans now mark (content.TstHit detail) = htcp_told-retag s from trans _ now mark
  htcp_comes-retag s from trans now mark (content.TstMiss cache) = htcp_told-retag s from trans _ now mark
  htcp_comes-retag s from trans now mark (content.ClrAsk desired reason spec) = clr_by_lines-retag s from trans desired (g.key_of spec.uri)
      (number_in_text spec.request_headers PurgeNumber) (number_in_text spec.request_headers PurgeBase)
  htcp_comes-retag s from trans now mark (content.ClrAnswer code) = refl
  htcp_comes-retag s from trans now mark (content.Other opcode desired) = if_desired-retag s desired from _
  htcp_comes-retag s from trans now mark (content.Overall opcode code) = tst_refused-retag s from trans opcode now mark
  htcp_comes-retag s from trans now mark (content.OtherAnswer opcode code) = tst_refused-retag s from trans opcode now mark

  datagram-retag : (s : NodeState X) (from : Address) (now : ℕ) (mark : X) (m : Message) → datagram g (retag_state f s) from now (f mark) m ≡ to
      (datagram g s from now mark m)
  unfolding datagram
  datagram-retag s from now mark (message.Icp m) = icp_comes-retag s from m now mark m.op
  datagram-retag s from now mark (message.Htcp m) = htcp_comes-retag s from m.trans now mark m.content

  -- The whole step

  open_step-retag : (s : NodeState X) (mark : X) (e : Event X) → open_step g (retag_state f s) (f mark) (retag_event f e) ≡ to (open_step g s mark e)
  unfolding open_step
  open_step-retag s mark (event.Client ask now) = ask_comes-retag s None ask now mark
  open_step-retag s mark (event.Datagram from message now) = datagram-retag s from now mark message
  open_step-retag s mark (event.PeerAsk asker ask now) = ask_comes-retag s (Some asker) ask now mark
  open_step-retag s mark (event.PeerAnswer serial peer key answer tag now) = peer_answer-retag s serial peer key answer tag now mark
  open_step-retag s mark (event.OriginAnswer serial key answer now) = origin_answer-retag s serial key answer now mark
  open_step-retag s mark (event.ForeignAnswer serial peer key answer tag now) = foreign_answer-retag s serial peer key answer tag now mark
  open_step-retag s mark (event.FetchFailed serial now) = fetch_failed-retag s serial now mark
  open_step-retag s mark (event.Expired serial now) = round_expired-retag s serial now mark

  step_if-retag : (s : NodeState X) (e : Event X) (mark : X) (closed : Bool) → step_if g (retag_state f s) (retag_event f e) (f mark) closed ≡ to
      (step_if g s e mark closed)
  unfolding step_if
  step_if-retag s e mark true = refl
  step_if-retag s e mark false = open_step-retag s mark e

  pub step-retag : (s : NodeState X) (e : Event X) (mark : X) → step g (retag_state f s) (retag_event f e) (f mark) ≡ to (step g s e mark)
  unfolding step
  step-retag s e mark = step_if-retag s e mark s.closed
