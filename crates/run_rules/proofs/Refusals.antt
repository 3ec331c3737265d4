-- A step that is refused changes nothing: by cases on the rules of a node, each rule that refuses
-- returns the old state.
use Rattle.std.proofs.Common.{◌≡◌, ℕ, Bool, true, false, not, ◌&&◌, ◌||◌, List, [], ◌∷◌, Option, Some, None, Result, Ok, Err, refl, nat_le, nat_eq}
use Rattle.values_tables.specs.Ranges.{is_foreign_id}
use Rattle.values_plain.specs.declared.address.Address.{Address}
use Rattle.values_tables.specs.declared.plain.Peer.{Peer}
use Rattle.values_plain.specs.declared.address.Udp.{Udp}
use Rattle.values_plain.specs.declared.address.Udp.TheVariants as udp
use Rattle.roster.specs.Lookups.{is_master}
use Rattle.icp_wire.specs.declared.message.IcpOp.{IcpOp}
use Rattle.icp_wire.specs.declared.message.IcpOp.TheVariants as op
use Rattle.icp_wire.specs.declared.message.Icp.{Icp}
use Rattle.htcp_wire.specs.declared.message.Content.{Content}
use Rattle.htcp_wire.specs.declared.message.Content.TheVariants as content
use Rattle.htcp_wire.specs.declared.fault.HtcpFault.{HtcpFault}
use Rattle.http_messages.specs.declared.ask.Ask.{Ask}
use Rattle.http_messages.specs.Answer.{AnswerText}
use Rattle.object_store.specs.declared.copy.WebCopy.{WebCopy}
use Rattle.floor_rules.specs.Floors.{floor}
use Rattle.peer_chooser.specs.declared.said.Said.{Said}
use Rattle.peer_chooser.specs.declared.said.Source.{Source}
use Rattle.peer_chooser.specs.declared.said.Source.TheVariants as source
use Rattle.peer_chooser.specs.Round.{RoundText, has_answered}
use Rattle.node_rules.specs.declared.message.Message.{Message}
use Rattle.node_rules.specs.declared.message.Message.TheVariants as message
use Rattle.node_rules.specs.declared.state.Fetch.{Fetch}
use Rattle.node_rules.specs.declared.state.Fetch.TheVariants.{Nowhere, AtPeer, AtOrigin}
use Rattle.node_rules.specs.declared.state.Pending.{Pending}
use Rattle.node_rules.specs.declared.state.NodeState.{NodeState}
use Rattle.node_rules.specs.declared.event.Event.{Event}
use Rattle.node_rules.specs.declared.event.Event.TheVariants as event
use Rattle.node_rules.specs.declared.reply.Reply.{Reply}
use Rattle.node_rules.specs.declared.reply.StepFault.{StepFault}
use Rattle.node_rules.specs.declared.reply.StepFault.TheVariants.{Closed}
use Rattle.node_rules.specs.declared.raising.Raise.{Raise}
use Rattle.node_rules.specs.declared.raising.Raise.TheVariants.{Floor, Base}
use Rattle.node_rules.specs.State.{Setting, Stepped, replies, refuses, is_idle}
use Rattle.node_rules.specs.Known.{has_origin, is_known}
use Rattle.node_rules.specs.Fetching.{ask_peer, begin_read, read_origin, go_to, go_on}
use Rattle.node_rules.specs.Asks.{is_cached_only, begin_round, begin_with_read, ask_around, begin_ask, begin_if_free, not_held, by_copy, ask_comes_to}
use Rattle.node_rules.specs.Asks.{ask_comes}
use Rattle.node_rules.specs.Arrivals.{is_gateway_fault, use_answer, try_on, peer_gave, origin_gave, from_peer, peer_answer_to, peer_answer, foreign_answer}
use Rattle.node_rules.specs.Arrivals.{from_origin, origin_answer_to, origin_answer, fails, failure_of, fetch_failed, round_moves, expires, expiry_of}
use Rattle.node_rules.specs.Arrivals.{round_expired}
use Rattle.node_rules.specs.Datagrams.{if_desired, icp_query, htcp_tst, hears, told_by, told_to, icp_told, htcp_told, purge, rebase, raising_clr}
use Rattle.node_rules.specs.Datagrams.{plain_clr, clr_by_line, clr_by_lines, htcp_clr, icp_comes, tst_refused, htcp_comes, datagram}
use Rattle.node_rules.specs.Step.{open_step, step_if, step}
use Rattle.node_rules.proofs.Cases.{branches}

pub no_fault : {A B : Type 0} (x : A) (f : B) → Ok x ≡ Err f → ⊥
no_fault x f e = cc

module _ {X : Type 0} (g : Setting) (s : NodeState X) (mark : X) where
  -- if the step is refused, the state is the old one
  abbrev Fair : Stepped X → Type 0
  Fair r = (f : StepFault) → r.outcome ≡ Err f → r.state ≡ s

  replied : (next : NodeState X) (reply : Reply X) → Fair (replies next reply)
  replied next reply f e = absurd (no_fault reply f e)

  refused : (fault : StepFault) → Fair (refuses s fault)
  refused fault f e = refl

  read_origin_fair : (t : NodeState X) (p : Pending X) (waiter : Option ℕ) (now : ℕ) → Fair (read_origin g t p waiter now mark)
  unfolding read_origin begin_read
  read_origin_fair t p waiter now =
      branches Fair (nat_le 3 p.reads) _ _ (λ _. replied _ _)
      (λ _. branches Fair (has_origin g.roster p.ask.key) _ _ (λ _. replied _ _) (λ _. replied _ _))

  go_to_fair : (t : NodeState X) (p : Pending X) (now : ℕ) (to : Source) → Fair (go_to g t p now mark to)
  unfolding go_to ask_peer
  go_to_fair t p now source.Wait = replied _ _
  go_to_fair t p now (source.Peer peer cached) = replied _ _
  go_to_fair t p now source.Origin = read_origin_fair t p _ now

  go_on_fair : (t : NodeState X) (p : Pending X) (now : ℕ) → Fair (go_on g t p now mark)
  unfolding go_on
  go_on_fair t p now = go_to_fair t p now _

  with_read_fair : (asker : Option ℕ) (ask : Ask) (block now : ℕ) → Fair (begin_with_read g s asker ask block now mark)
  unfolding begin_with_read
  with_read_fair asker ask block now = branches Fair (has_origin g.roster ask.key) _ _ (λ _. replied _ _) (λ _. replied _ _)

  ask_around_fair : (asker : Option ℕ) (ask : Ask) (block now : ℕ) (round : RoundText) (peers : List Peer) →
      Fair (ask_around g s asker ask block now mark round peers)
  unfolding ask_around begin_round
  ask_around_fair asker ask block now round [] = with_read_fair asker ask block now
  ask_around_fair asker ask block now round (p ∷ peers) = replied _ _

  begin_if_free_fair : (asker : Option ℕ) (ask : Ask) (now : ℕ) (o : Option ℕ) → Fair (begin_if_free g s asker ask now mark o)
  unfolding begin_if_free begin_ask
  begin_if_free_fair asker ask now None = refused _
  begin_if_free_fair asker ask now (Some block) = ask_around_fair asker ask block now _ _

  not_held_fair : (asker : Option ℕ) (ask : Ask) (now : ℕ) → Fair (not_held g s asker ask now mark)
  unfolding not_held
  not_held_fair asker ask now =
      branches Fair (is_cached_only g asker ask) _ _ (λ _. replied _ _) (λ _. begin_if_free_fair asker ask now _)

  by_copy_fair : (asker : Option ℕ) (ask : Ask) (now : ℕ) (o : Option (WebCopy X)) → Fair (by_copy g s asker ask now mark o)
  unfolding by_copy
  by_copy_fair asker ask now None = not_held_fair asker ask now
  by_copy_fair asker ask now (Some c) = replied _ _

  ask_comes_to_fair : (asker : Option ℕ) (ask : Ask) (now : ℕ) (outside : Bool) → Fair (ask_comes_to g s asker ask now mark outside)
  unfolding ask_comes_to
  ask_comes_to_fair asker ask now true = replied _ _
  ask_comes_to_fair asker ask now false = by_copy_fair asker ask now _

  ask_comes_fair : (asker : Option ℕ) (ask : Ask) (now : ℕ) → Fair (ask_comes g s asker ask now mark)
  unfolding ask_comes
  ask_comes_fair asker ask now = ask_comes_to_fair asker ask now _

  use_answer_fair : (p : Pending X) (stamp asked : ℕ) (answer : AnswerText) (tag : X) (now : ℕ) → Fair (use_answer g s p stamp asked answer tag now)
  unfolding use_answer
  use_answer_fair p stamp asked answer tag now = replied _ _

  peer_gave_fair : (p : Pending X) (peer asked stamp : ℕ) (answer : AnswerText) (tag : X) (now : ℕ) →
      Fair (peer_gave g s p peer asked stamp answer tag now mark)
  unfolding peer_gave try_on
  peer_gave_fair p peer asked stamp answer tag now =
      branches Fair (nat_le (floor s.floors p.ask.key) stamp && not (is_gateway_fault answer.status)) _ _
      (λ _. use_answer_fair p stamp asked answer tag now) (λ _. go_on_fair s _ now)

  origin_gave_fair : (p : Pending X) (stamp asked : ℕ) (read_mark : X) (answer : AnswerText) (now : ℕ) →
      Fair (origin_gave g s p stamp asked read_mark answer now mark)
  unfolding origin_gave
  origin_gave_fair p stamp asked read_mark answer now =
      branches Fair (nat_le (floor s.floors p.ask.key) stamp) _ _
      (λ _. use_answer_fair p stamp asked answer read_mark now) (λ _. go_on_fair s _ now)

  from_peer_fair : (p : Pending X) (peer stamp : ℕ) (answer : AnswerText) (tag : X) (now : ℕ) (fetch : Fetch X) →
      Fair (from_peer g s p peer stamp answer tag now mark fetch)
  unfolding from_peer
  from_peer_fair p peer stamp answer tag now (AtPeer at asked) =
      branches Fair (nat_eq at peer) _ _ (λ _. peer_gave_fair p peer asked stamp answer tag now) (λ _. refused _)
  from_peer_fair p peer stamp answer tag now (AtOrigin read asked read_mark) = refused _
  from_peer_fair p peer stamp answer tag now Nowhere = refused _

  peer_answer_to_fair : (peer stamp : ℕ) (answer : AnswerText) (tag : X) (now : ℕ) (o : Option (Pending X)) →
      Fair (peer_answer_to g s peer stamp answer tag now mark o)
  unfolding peer_answer_to
  peer_answer_to_fair peer stamp answer tag now None = refused _
  peer_answer_to_fair peer stamp answer tag now (Some p) = from_peer_fair p peer stamp answer tag now p.fetch

  from_origin_fair : (p : Pending X) (answer : AnswerText) (now : ℕ) (fetch : Fetch X) → Fair (from_origin g s p answer now mark fetch)
  unfolding from_origin
  from_origin_fair p answer now (AtOrigin stamp asked read_mark) = origin_gave_fair p stamp asked read_mark answer now
  from_origin_fair p answer now (AtPeer peer asked) = refused _
  from_origin_fair p answer now Nowhere = refused _

  origin_answer_to_fair : (answer : AnswerText) (now : ℕ) (o : Option (Pending X)) → Fair (origin_answer_to g s answer now mark o)
  unfolding origin_answer_to
  origin_answer_to_fair answer now None = refused _
  origin_answer_to_fair answer now (Some p) = from_origin_fair p answer now p.fetch

  fails_fair : (p : Pending X) (now : ℕ) (fetch : Fetch X) → Fair (fails g s p now mark fetch)
  unfolding fails try_on
  fails_fair p now (AtPeer peer asked) = go_on_fair s _ now
  fails_fair p now (AtOrigin stamp asked read_mark) = replied _ _
  fails_fair p now Nowhere = refused _

  failure_of_fair : (now : ℕ) (o : Option (Pending X)) → Fair (failure_of g s now mark o)
  unfolding failure_of
  failure_of_fair now None = refused _
  failure_of_fair now (Some p) = fails_fair p now p.fetch

  round_moves_fair : (p : Pending X) (now : ℕ) → Fair (round_moves g s p now mark)
  unfolding round_moves
  round_moves_fair p now = branches Fair (is_idle p.fetch) _ _ (λ _. go_on_fair s p now) (λ _. replied _ _)

  expires_fair : (p : Pending X) (now : ℕ) (o : Option RoundText) → Fair (expires g s p now mark o)
  unfolding expires
  expires_fair p now None = refused _
  expires_fair p now (Some r) = round_moves_fair _ now

  expiry_of_fair : (now : ℕ) (o : Option (Pending X)) → Fair (expiry_of g s now mark o)
  unfolding expiry_of
  expiry_of_fair now None = refused _
  expiry_of_fair now (Some p) = expires_fair p now p.round

  if_desired_fair : (t : NodeState X) (desired : Bool) (from : Address) (m : Message) → Fair (if_desired t desired from m)
  if_desired_fair t true from m = replied _ _
  if_desired_fair t false from m = replied _ _

  hears_fair : (p : Pending X) (peer : Peer) (said : Said) (now : ℕ) (o : Option RoundText) → Fair (hears g s p peer said now mark o)
  unfolding hears
  hears_fair p peer said now None = replied _ _
  hears_fair p peer said now (Some r) = branches Fair (has_answered r.answers peer.id) _ _ (λ _. replied _ _) (λ _. round_moves_fair _ now)

  told_by_fair : (p : Pending X) (said : Peer → Said) (now : ℕ) (o : Option Peer) → Fair (told_by g s p said now mark o)
  unfolding told_by
  told_by_fair p said now None = replied _ _
  told_by_fair p said now (Some peer) = hears_fair p peer (said peer) now p.round

  told_to_fair : (by : Udp) (from : Address) (said : Peer → Said) (now : ℕ) (o : Option (Pending X)) → Fair (told_to g s by from said now mark o)
  unfolding told_to
  told_to_fair by from said now None = replied _ _
  told_to_fair by from said now (Some p) = told_by_fair p said now _

  purge_fair : (from : Address) (trans : ℕ) (desired : Bool) (key : List ℕ) (n : ℕ) → Fair (purge s from trans desired key n)
  unfolding purge
  purge_fair from trans desired key n = if_desired_fair _ desired from _

  rebase_fair : (from : Address) (trans : ℕ) (desired : Bool) (n : ℕ) → Fair (rebase s from trans desired n)
  unfolding rebase
  rebase_fair from trans desired n = if_desired_fair _ desired from _

  raising_clr_fair : (from : Address) (trans : ℕ) (desired : Bool) (o : Option Raise) → Fair (raising_clr s from trans desired o)
  unfolding raising_clr
  raising_clr_fair from trans desired None = if_desired_fair _ desired from _
  raising_clr_fair from trans desired (Some (Floor key n)) = purge_fair from trans desired key n
  raising_clr_fair from trans desired (Some (Base n)) = rebase_fair from trans desired n

  plain_clr_fair : (from : Address) (trans : ℕ) (desired : Bool) (key : Option (List ℕ)) → Fair (plain_clr g s from trans desired key)
  unfolding plain_clr
  plain_clr_fair from trans desired key =
      branches Fair (is_known g.roster g.id udp.Htcp from || is_master g.roster from) _ _ (λ _. if_desired_fair _ desired from _)
      (λ _. if_desired_fair _ desired from _)

  clr_by_line_fair : (from : Address) (trans : ℕ) (desired : Bool) (key : Option (List ℕ)) (line : Result (Option ℕ) HtcpFault) →
      Fair (clr_by_line g s from trans desired key line)
  unfolding clr_by_line
  clr_by_line_fair from trans desired key (Ok None) = plain_clr_fair from trans desired key
  clr_by_line_fair from trans desired key (Ok (Some n)) = raising_clr_fair from trans desired _
  clr_by_line_fair from trans desired key (Err fault) = if_desired_fair _ desired from _

  clr_by_lines_fair : (from : Address) (trans : ℕ) (desired : Bool) (key : Option (List ℕ)) (number base : Result (Option ℕ) HtcpFault) →
      Fair (clr_by_lines g s from trans desired key number base)
  unfolding clr_by_lines
  clr_by_lines_fair from trans desired key number (Ok None) = clr_by_line_fair from trans desired key number
  clr_by_lines_fair from trans desired key number (Ok (Some n)) = raising_clr_fair from trans desired _
  clr_by_lines_fair from trans desired key number (Err fault) = if_desired_fair _ desired from _

  icp_comes_fair : (from : Address) (m : Icp) (now : ℕ) (o : IcpOp) → Fair (icp_comes g s from m now mark o)
  unfolding icp_comes icp_query icp_told
  icp_comes_fair from m now op.Query = replied _ _
  icp_comes_fair from m now _ = told_to_fair _ from _ now _

  tst_refused_fair : (from : Address) (trans opcode now : ℕ) → Fair (tst_refused g s from trans opcode now mark)
  unfolding tst_refused htcp_told
  tst_refused_fair from trans opcode now = branches Fair (nat_eq opcode 1) _ _ (λ _. told_to_fair _ from _ now _) (λ _. replied _ _)

  htcp_comes_fair : (from : Address) (trans now : ℕ) (content : Content) → Fair (htcp_comes g s from trans now mark content)
  unfolding htcp_comes htcp_tst htcp_clr htcp_told
  htcp_comes_fair from trans now (content.NopAsk desired) = if_desired_fair _ desired from _
  htcp_comes_fair from trans now content.NopAnswer = replied _ _
  htcp_comes_fair from trans now (content.TstAsk desired spec) = if_desired_fair _ desired from _
  htcp_comes_fair from trans now (content.TstHit detail) = told_to_fair _ from _ now _
  htcp_comes_fair from trans now (content.TstMiss cache) = told_to_fair _ from _ now _
  htcp_comes_fair from trans now (content.ClrAsk desired reason spec) = clr_by_lines_fair from trans desired _ _ _
  htcp_comes_fair from trans now (content.ClrAnswer code) = replied _ _
  htcp_comes_fair from trans now (content.Other opcode desired) = if_desired_fair _ desired from _
  htcp_comes_fair from trans now (content.Overall opcode code) = tst_refused_fair from trans opcode now
  htcp_comes_fair from trans now (content.OtherAnswer opcode code) = tst_refused_fair from trans opcode now

  datagram_fair : (from : Address) (now : ℕ) (m : Message) → Fair (datagram g s from now mark m)
  unfolding datagram
  datagram_fair from now (message.Icp m) = icp_comes_fair from m now m.op
  datagram_fair from now (message.Htcp m) = htcp_comes_fair from m.trans now m.content

  open_step_fair : (e : Event X) → Fair (open_step g s mark e)
  unfolding open_step peer_answer foreign_answer origin_answer fetch_failed round_expired
  open_step_fair (event.Client ask now) = ask_comes_fair None ask now
  open_step_fair (event.Datagram from message now) = datagram_fair from now message
  open_step_fair (event.PeerAsk asker ask now) = ask_comes_fair (Some asker) ask now
  open_step_fair (event.PeerAnswer serial peer key answer tag now) =
      branches Fair (is_foreign_id peer) _ _ (λ _. refused _) (λ _. peer_answer_to_fair peer _ answer tag now _)
  open_step_fair (event.OriginAnswer serial key answer now) = origin_answer_to_fair answer now _
  open_step_fair (event.ForeignAnswer serial peer key answer tag now) =
      branches Fair (is_foreign_id peer) _ _ (λ _. peer_answer_to_fair peer 0 answer tag now _) (λ _. refused _)
  open_step_fair (event.FetchFailed serial now) = failure_of_fair now _
  open_step_fair (event.Expired serial now) = expiry_of_fair now _

  step_if_fair : (e : Event X) (closed : Bool) → Fair (step_if g s e mark closed)
  unfolding step_if
  step_if_fair e true = refused _
  step_if_fair e false = open_step_fair e

  -- a refusal changes nothing
  pub refusal_same : (e : Event X) (f : StepFault) → (step g s e mark).outcome ≡ Err f → (step g s e mark).state ≡ s
  unfolding step
  refusal_same e = step_if_fair e s.closed

  closed_refuses_if : (e : Event X) (closed : Bool) → closed ≡ true → step_if g s e mark closed ≡ refuses s Closed
  unfolding step_if
  closed_refuses_if e true h = refl
  closed_refuses_if e false h = cc

  -- a closed node refuses so
  pub closed_refuses : (e : Event X) → s.closed ≡ true → step g s e mark ≡ refuses s Closed
  unfolding step
  closed_refuses e is_closed = closed_refuses_if e s.closed is_closed
