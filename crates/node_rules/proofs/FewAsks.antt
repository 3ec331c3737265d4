-- No step leaves more than 1,024 requests pending, and the next block stays a block. Only a new
-- request adds one, and only where there is a block for it; all other rules change or end requests. One lemma for each rule.
use Rattle.std.proofs.Common.{◌≡◌, ℕ, ◌+◌, ◌<◌, ◌≤◌, Bool, true, false, cond, not, ◌&&◌, ◌||◌, List, [], ◌∷◌, length, Option, Some, None, Result, Ok, Err, refl}
use Rattle.std.proofs.Common.{sym, subst, nat_le, nat_eq, arith}
use Rattle.std.proofs.lemmas.List.{length-map}
use Rattle.icp_wire.specs.declared.message.IcpOp.{IcpOp}
use Rattle.icp_wire.specs.declared.message.IcpOp.TheVariants as op
use Rattle.icp_wire.specs.declared.message.Icp.{Icp}
use Rattle.htcp_wire.specs.declared.fault.HtcpFault.{HtcpFault}
use Rattle.htcp_wire.specs.declared.message.Content.{Content}
use Rattle.htcp_wire.specs.declared.message.Content.TheVariants as content
use Rattle.http_messages.specs.declared.ask.Ask.{Ask}
use Rattle.http_messages.specs.Answer.{AnswerText}
use Rattle.object_store.specs.declared.copy.WebCopy.{WebCopy}
use Rattle.floor_rules.specs.Floors.{floor, seen}
use Rattle.values_tables.specs.Ranges.{is_foreign_id}
use Rattle.values_plain.specs.declared.address.Address.{Address}
use Rattle.values_tables.specs.declared.plain.Peer.{Peer}
use Rattle.values_plain.specs.declared.address.Udp.{Udp}
use Rattle.values_plain.specs.declared.address.Udp.TheVariants as udp
use Rattle.roster.specs.Lookups.{is_master}
use Rattle.peer_chooser.specs.declared.said.Said.{Said}
use Rattle.peer_chooser.specs.declared.said.Source.{Source}
use Rattle.peer_chooser.specs.declared.said.Source.TheVariants as source
use Rattle.peer_chooser.specs.Round.{RoundText, has_answered, answered, ended}
use Rattle.node_rules.specs.declared.message.Message.{Message}
use Rattle.node_rules.specs.declared.message.Message.TheVariants as message
use Rattle.node_rules.specs.declared.state.Fetch.{Fetch}
use Rattle.node_rules.specs.declared.state.Fetch.TheVariants.{Nowhere, AtPeer, AtOrigin}
use Rattle.node_rules.specs.declared.state.Pending.{Pending}
use Rattle.node_rules.specs.declared.state.NodeState.{NodeState}
use Rattle.node_rules.specs.declared.event.Event.{Event}
use Rattle.node_rules.specs.declared.event.Event.TheVariants as event
use Rattle.node_rules.specs.declared.reply.Reply.{Reply}
use Rattle.node_rules.specs.declared.reply.StepFault.{StepFault}
use Rattle.node_rules.specs.Known.{has_origin, is_known}
use Rattle.node_rules.specs.State.{Setting, Stepped, changing, ending, is_idle, is_of_block}
use Rattle.node_rules.specs.Fetching.{fetching, ask_peer, begin_read, read_origin, go_to, go_on}
use Rattle.node_rules.specs.Asks.{IsBlock, new_ask, is_cached_only, free_block, taking, begin_round, begin_with_read, ask_around, begin_ask, begin_if_free}
use Rattle.node_rules.specs.Asks.{not_held, by_copy, ask_comes_to, ask_comes}
use Rattle.node_rules.specs.Arrivals.{with_round, use_answer, try_on, is_gateway_fault, peer_gave, origin_gave, from_peer, peer_answer_to, peer_answer}
use Rattle.node_rules.specs.Arrivals.{foreign_answer, from_origin, origin_answer_to, origin_answer, fails, failure_of, fetch_failed, round_moves, expires}
use Rattle.node_rules.specs.Arrivals.{expiry_of, round_expired}
use Rattle.node_rules.specs.Datagrams.{purged, if_desired, icp_query, htcp_tst, hears, told_by, told_to, icp_told, htcp_told, purge, dropped}
use Rattle.node_rules.specs.Datagrams.{rebased, rebase, raising_clr, plain_clr, clr_by_line, clr_by_lines, htcp_clr, icp_comes, tst_refused}
use Rattle.node_rules.specs.Datagrams.{htcp_comes, datagram}
use Rattle.node_rules.specs.Step.{open_step, step_if, step}
use Rattle.node_rules.specs.declared.raising.Raise.{Raise}
use Rattle.node_rules.specs.declared.raising.Raise.TheVariants.{Floor, Base}
use Rattle.node_rules.specs.Relation.{Steps, ClosesOn, raise_in}
use Rattle.node_rules.proofs.Cases.{branches}
use Rattle.node_rules.proofs.Stores.{length_filter}
use Rattle.node_rules.proofs.Blocks.{length_inserted, after_is_block, room_of}
use Rattle.node_rules.proofs.Stepping.{steps_case}

-- If at most 1,024 requests are pending before, at most 1,024 are after. If the next block is a block
-- before, it is one after.
pub record FewWait {X : Type 0} (s t : NodeState X) : Type 0 where
  pub most : length s.pending ≤ 1024 → length t.pending ≤ 1024
  pub next : IsBlock s.next → IsBlock t.next

same_few : {X : Type 0} (s : NodeState X) → FewWait s s
same_few s = record { most = λ few. few; next = λ is. is }

changed_few : {X : Type 0} (s t : NodeState X) (p : Pending X) → FewWait s t → FewWait s (changing t p)
changed_few {X} s t p h = record {
  most = λ few. subst (λ (n : ℕ). n ≤ 1024) (sym (length-map t.pending (λ (q : Pending X). cond (is_of_block p.block q) p q))) (h.most few);
  next = h.next;
}

ended_few : {X : Type 0} (s t : NodeState X) (block : ℕ) → FewWait s t → FewWait s (ending t block)
ended_few {X} s t block h = record {
  most = λ few. omega (arith, length_filter (λ (q : Pending X). not (is_of_block block q)) t.pending, h.most few);
  next = h.next;
}

taken_few : {X : Type 0} (s : NodeState X) (p : Pending X) → length s.pending < 1024 → FewWait s (taking s p)
taken_few s p room = record { most = λ few. omega (arith, length_inserted p s.pending, room); next = λ is. after_is_block p.block }

module _ {X : Type 0} (g : Setting) (s : NodeState X) (mark : X) where
  abbrev pub Few : Stepped X → Type 0
  Few r = FewWait s r.state

  few : FewWait s s
  few = same_few s

  -- Going on

  read_origin_few : (t : NodeState X) → FewWait s t → (p : Pending X) (waiter : Option ℕ) (now : ℕ) → Few (read_origin g t p waiter now mark)
  unfolding read_origin begin_read
  read_origin_few t h p waiter now =
      branches Few (nat_le 3 p.reads) _ _ (λ _. ended_few s t p.block h)
      (λ _. branches Few (has_origin g.roster p.ask.key) _ _ (λ _. changed_few s t (fetching p (p.reads + 1) (AtOrigin (seen t.floors) now mark)) h)
      (λ _. ended_few s t p.block h))

  go_to_few : (p : Pending X) (now : ℕ) (to : Source) → Few (go_to g s p now mark to)
  unfolding go_to ask_peer
  go_to_few p now source.Wait = changed_few s s p few
  go_to_few p now (source.Peer peer cached) = changed_few s s (fetching p p.reads (AtPeer peer now)) few
  go_to_few p now source.Origin = read_origin_few s few p (Some p.block) now

  go_on_few : (p : Pending X) (now : ℕ) → Few (go_on g s p now mark)
  unfolding go_on
  go_on_few p now = go_to_few p now _

  -- Requests

  with_read_few : length s.pending < 1024 → (asker : Option ℕ) (ask : Ask) (block now : ℕ) → Few (begin_with_read g s asker ask block now mark)
  unfolding begin_with_read
  with_read_few room asker ask block now =
      branches Few (has_origin g.roster ask.key) _ _
      (λ _. taken_few s (fetching (new_ask block asker ask None) 1 (AtOrigin (seen s.floors) now mark)) room)
      (λ _. record { most = λ is. is; next = λ is. after_is_block block })

  ask_around_few : length s.pending < 1024 → (asker : Option ℕ) (ask : Ask) (block now : ℕ) (round : RoundText) (peers : List Peer) →
      Few (ask_around g s asker ask block now mark round peers)
  unfolding ask_around begin_round
  ask_around_few room asker ask block now round [] = with_read_few room asker ask block now
  ask_around_few room asker ask block now round (peer ∷ peers) = taken_few s (new_ask block asker ask (Some round)) room

  begin_if_free_few : (asker : Option ℕ) (ask : Ask) (now : ℕ) (o : Option ℕ) → free_block s ≡ o → Few (begin_if_free g s asker ask now mark o)
  unfolding begin_if_free begin_ask
  begin_if_free_few asker ask now None is = few
  begin_if_free_few asker ask now (Some block) is = ask_around_few (room_of s block is) asker ask block now _ _

  not_held_few : (asker : Option ℕ) (ask : Ask) (now : ℕ) → Few (not_held g s asker ask now mark)
  unfolding not_held
  not_held_few asker ask now =
      branches Few (is_cached_only g asker ask) _ _ (λ _. few) (λ _. begin_if_free_few asker ask now (free_block s) refl)

  by_copy_few : (asker : Option ℕ) (ask : Ask) (now : ℕ) (o : Option (WebCopy X)) → Few (by_copy g s asker ask now mark o)
  unfolding by_copy
  by_copy_few asker ask now None = not_held_few asker ask now
  by_copy_few asker ask now (Some c) = record { most = few.most; next = few.next }

  ask_comes_to_few : (asker : Option ℕ) (ask : Ask) (now : ℕ) (outside : Bool) → Few (ask_comes_to g s asker ask now mark outside)
  unfolding ask_comes_to
  ask_comes_to_few asker ask now true = few
  ask_comes_to_few asker ask now false = by_copy_few asker ask now _

  ask_comes_few : (asker : Option ℕ) (ask : Ask) (now : ℕ) → Few (ask_comes g s asker ask now mark)
  unfolding ask_comes
  ask_comes_few asker ask now = ask_comes_to_few asker ask now _

  -- Arrivals

  use_answer_few : (p : Pending X) (stamp asked : ℕ) (answer : AnswerText) (tag : X) (now : ℕ) → Few (use_answer g s p stamp asked answer tag now)
  unfolding use_answer
  use_answer_few p stamp asked answer tag now = record { most = (ended_few s s p.block few).most; next = few.next }

  peer_gave_few : (p : Pending X) (peer asked stamp : ℕ) (answer : AnswerText) (tag : X) (now : ℕ) → Few (peer_gave g s p peer asked stamp answer tag now mark)
  unfolding peer_gave try_on
  peer_gave_few p peer asked stamp answer tag now =
      branches Few (nat_le (floor s.floors p.ask.key) stamp && not (is_gateway_fault answer.status)) _ _
      (λ _. use_answer_few p stamp asked answer tag now) (λ _. go_on_few _ now)

  origin_gave_few : (p : Pending X) (stamp asked : ℕ) (read_mark : X) (answer : AnswerText) (now : ℕ) →
      Few (origin_gave g s p stamp asked read_mark answer now mark)
  unfolding origin_gave
  origin_gave_few p stamp asked read_mark answer now =
      branches Few (nat_le (floor s.floors p.ask.key) stamp) _ _
      (λ _. use_answer_few p stamp asked answer read_mark now) (λ _. go_on_few _ now)

  from_peer_few : (p : Pending X) (peer stamp : ℕ) (answer : AnswerText) (tag : X) (now : ℕ) (fetch : Fetch X) →
      Few (from_peer g s p peer stamp answer tag now mark fetch)
  unfolding from_peer
  from_peer_few p peer stamp answer tag now (AtPeer at_peer asked) =
      branches Few (nat_eq at_peer peer) _ _ (λ _. peer_gave_few p peer asked stamp answer tag now) (λ _. few)
  from_peer_few p peer stamp answer tag now (AtOrigin read asked read_mark) = few
  from_peer_few p peer stamp answer tag now Nowhere = few

  peer_answer_to_few : (peer stamp : ℕ) (answer : AnswerText) (tag : X) (now : ℕ) (o : Option (Pending X)) →
      Few (peer_answer_to g s peer stamp answer tag now mark o)
  unfolding peer_answer_to
  peer_answer_to_few peer stamp answer tag now None = few
  peer_answer_to_few peer stamp answer tag now (Some p) = from_peer_few p peer stamp answer tag now p.fetch

  from_origin_few : (p : Pending X) (answer : AnswerText) (now : ℕ) (fetch : Fetch X) → Few (from_origin g s p answer now mark fetch)
  unfolding from_origin
  from_origin_few p answer now (AtOrigin stamp asked read_mark) = origin_gave_few p stamp asked read_mark answer now
  from_origin_few p answer now (AtPeer peer asked) = few
  from_origin_few p answer now Nowhere = few

  origin_answer_to_few : (answer : AnswerText) (now : ℕ) (o : Option (Pending X)) → Few (origin_answer_to g s answer now mark o)
  unfolding origin_answer_to
  origin_answer_to_few answer now None = few
  origin_answer_to_few answer now (Some p) = from_origin_few p answer now p.fetch

  fails_few : (p : Pending X) (now : ℕ) (fetch : Fetch X) → Few (fails g s p now mark fetch)
  unfolding fails try_on
  fails_few p now (AtPeer peer asked) = go_on_few _ now
  fails_few p now (AtOrigin stamp asked read_mark) = ended_few s s p.block few
  fails_few p now Nowhere = few

  failure_of_few : (now : ℕ) (o : Option (Pending X)) → Few (failure_of g s now mark o)
  unfolding failure_of
  failure_of_few now None = few
  failure_of_few now (Some p) = fails_few p now p.fetch

  round_moves_few : (p : Pending X) (now : ℕ) → Few (round_moves g s p now mark)
  unfolding round_moves
  round_moves_few p now = branches Few (is_idle p.fetch) _ _ (λ _. go_on_few p now) (λ _. changed_few s s p few)

  expires_few : (p : Pending X) (now : ℕ) (o : Option RoundText) → Few (expires g s p now mark o)
  unfolding expires
  expires_few p now None = few
  expires_few p now (Some r) = round_moves_few (with_round p (ended r)) now

  expiry_of_few : (now : ℕ) (o : Option (Pending X)) → Few (expiry_of g s now mark o)
  unfolding expiry_of
  expiry_of_few now None = few
  expiry_of_few now (Some p) = expires_few p now p.round

  -- Datagrams

  if_desired_few : (t : NodeState X) → FewWait s t → (desired : Bool) (from : Address) (m : Message) → Few (if_desired t desired from m)
  if_desired_few t h true from m = h
  if_desired_few t h false from m = h

  hears_few : (p : Pending X) (peer : Peer) (said : Said) (now : ℕ) (o : Option RoundText) → Few (hears g s p peer said now mark o)
  unfolding hears
  hears_few p peer said now None = few
  hears_few p peer said now (Some r) =
      branches Few (has_answered r.answers peer.id) _ _ (λ _. few) (λ _. round_moves_few (with_round p (answered r peer.id said)) now)

  told_by_few : (p : Pending X) (said : Peer → Said) (now : ℕ) (o : Option Peer) → Few (told_by g s p said now mark o)
  unfolding told_by
  told_by_few p said now None = few
  told_by_few p said now (Some peer) = hears_few p peer (said peer) now p.round

  told_to_few : (by : Udp) (from : Address) (said : Peer → Said) (now : ℕ) (o : Option (Pending X)) → Few (told_to g s by from said now mark o)
  unfolding told_to
  told_to_few by from said now None = few
  told_to_few by from said now (Some p) = told_by_few p said now _

  htcp_told_few : (from : Address) (trans : ℕ) (said : Peer → Said) (now : ℕ) → Few (htcp_told g s from trans said now mark)
  unfolding htcp_told
  htcp_told_few from trans said now = told_to_few _ from said now _

  purge_few : (from : Address) (trans : ℕ) (desired : Bool) (key : List ℕ) (n : ℕ) → Few (purge s from trans desired key n)
  unfolding purge
  purge_few from trans desired key n = if_desired_few (purged s key n) (record { most = few.most; next = few.next }) desired from _

  rebase_few : (from : Address) (trans : ℕ) (desired : Bool) (n : ℕ) → Few (rebase s from trans desired n)
  unfolding rebase
  rebase_few from trans desired n = if_desired_few (rebased s n) (record { most = few.most; next = few.next }) desired from _

  raising_clr_few : (from : Address) (trans : ℕ) (desired : Bool) (o : Option Raise) → Few (raising_clr s from trans desired o)
  unfolding raising_clr
  raising_clr_few from trans desired None = if_desired_few s few desired from _
  raising_clr_few from trans desired (Some (Floor key n)) = purge_few from trans desired key n
  raising_clr_few from trans desired (Some (Base n)) = rebase_few from trans desired n

  dropped_few : (key : Option (List ℕ)) → FewWait s (dropped s key)
  dropped_few None = few
  dropped_few (Some key) = record { most = few.most; next = few.next }

  plain_clr_few : (from : Address) (trans : ℕ) (desired : Bool) (key : Option (List ℕ)) → Few (plain_clr g s from trans desired key)
  unfolding plain_clr
  plain_clr_few from trans desired key =
      branches Few (is_known g.roster g.id udp.Htcp from || is_master g.roster from) _ _
      (λ _. if_desired_few (dropped s key) (dropped_few key) desired from _) (λ _. if_desired_few s few desired from _)

  clr_by_line_few : (from : Address) (trans : ℕ) (desired : Bool) (key : Option (List ℕ)) (line : Result (Option ℕ) HtcpFault) →
      Few (clr_by_line g s from trans desired key line)
  unfolding clr_by_line
  clr_by_line_few from trans desired key (Ok None) = plain_clr_few from trans desired key
  clr_by_line_few from trans desired key (Ok (Some n)) = raising_clr_few from trans desired _
  clr_by_line_few from trans desired key (Err fault) = if_desired_few s few desired from _

  clr_by_lines_few : (from : Address) (trans : ℕ) (desired : Bool) (key : Option (List ℕ)) (number base : Result (Option ℕ) HtcpFault) →
      Few (clr_by_lines g s from trans desired key number base)
  unfolding clr_by_lines
  clr_by_lines_few from trans desired key number (Ok None) = clr_by_line_few from trans desired key number
  clr_by_lines_few from trans desired key number (Ok (Some n)) = raising_clr_few from trans desired _
  clr_by_lines_few from trans desired key number (Err fault) = if_desired_few s few desired from _

  icp_comes_few : (from : Address) (m : Icp) (now : ℕ) (o : IcpOp) → Few (icp_comes g s from m now mark o)
  unfolding icp_comes icp_query icp_told
  icp_comes_few from m now op.Query = few
  icp_comes_few from m now _ = told_to_few _ from _ now _

  tst_refused_few : (from : Address) (trans opcode now : ℕ) → Few (tst_refused g s from trans opcode now mark)
  unfolding tst_refused
  tst_refused_few from trans opcode now = branches Few (nat_eq opcode 1) _ _ (λ _. htcp_told_few from trans _ now) (λ _. few)

  htcp_comes_few : (from : Address) (trans now : ℕ) (c : Content) → Few (htcp_comes g s from trans now mark c)
  unfolding htcp_comes htcp_tst htcp_clr
  htcp_comes_few from trans now (content.NopAsk desired) = if_desired_few s few desired from _
  htcp_comes_few from trans now content.NopAnswer = few
  htcp_comes_few from trans now (content.TstAsk desired spec) = if_desired_few s few desired from _
  htcp_comes_few from trans now (content.TstHit detail) = htcp_told_few from trans _ now
  htcp_comes_few from trans now (content.TstMiss cache) = htcp_told_few from trans _ now
  htcp_comes_few from trans now (content.ClrAsk desired reason spec) = clr_by_lines_few from trans desired _ _ _
  htcp_comes_few from trans now (content.ClrAnswer code) = few
  htcp_comes_few from trans now (content.Other opcode desired) = if_desired_few s few desired from _
  htcp_comes_few from trans now (content.Overall opcode code) = tst_refused_few from trans opcode now
  htcp_comes_few from trans now (content.OtherAnswer opcode code) = tst_refused_few from trans opcode now

  datagram_few : (from : Address) (now : ℕ) (m : Message) → Few (datagram g s from now mark m)
  unfolding datagram
  datagram_few from now (message.Icp m) = icp_comes_few from m now m.op
  datagram_few from now (message.Htcp m) = htcp_comes_few from m.trans now m.content

  -- The whole step

  open_step_few : (e : Event X) → Few (open_step g s mark e)
  unfolding open_step peer_answer foreign_answer origin_answer fetch_failed round_expired
  open_step_few (event.Client ask now) = ask_comes_few None ask now
  open_step_few (event.Datagram from m now) = datagram_few from now m
  open_step_few (event.PeerAsk asker ask now) = ask_comes_few (Some asker) ask now
  open_step_few (event.PeerAnswer serial peer key answer tag now) =
      branches Few (is_foreign_id peer) _ _ (λ _. few) (λ _. peer_answer_to_few peer _ answer tag now _)
  open_step_few (event.OriginAnswer serial key answer now) = origin_answer_to_few answer now _
  open_step_few (event.ForeignAnswer serial peer key answer tag now) =
      branches Few (is_foreign_id peer) _ _ (λ _. peer_answer_to_few peer 0 answer tag now _) (λ _. few)
  open_step_few (event.FetchFailed serial now) = failure_of_few now _
  open_step_few (event.Expired serial now) = expiry_of_few now _

  step_if_few : (e : Event X) (closed : Bool) → Few (step_if g s e mark closed)
  unfolding step_if
  step_if_few e true = few
  step_if_few e false = open_step_few e

  step_few : (e : Event X) → Few (step g s e mark)
  unfolding step
  step_few e = step_if_few e s.closed

-- no request is pending at a node that has closed
closed_few : {X : Type 0} (s : NodeState X) (o : Option Raise) (next : NodeState X) → ClosesOn s o next → FewWait s next
closed_few s None next h = absurd h
closed_few {X} s (Some raise) next h = record {
  most = λ few. subst (λ (asks : List (Pending X)). length asks ≤ 1024) (sym h.pending) (omega arith);
  next = λ is. subst IsBlock (sym h.block) is;
}

pub asks_stay_few : {X : Type 0} (g : Setting) (s : NodeState X) (e : Event X) (mark : X) (outcome : Result (Reply X) StepFault) (next : NodeState X) →
    Steps g s e mark outcome next → FewWait s next
asks_stay_few g s e mark outcome next steps =
    steps_case g s e mark (λ r. FewWait s r.state) (step_few g s mark e) (same_few s) (λ n f closes. closed_few s (raise_in g e) n closes.1) outcome next steps
