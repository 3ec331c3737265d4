-- An outside node where no request is pending serves no copy and begins nothing. A request that comes gets 503. An
-- answer finds no request. All other rules serve and begin nothing anyway.
use Rattle.std.proofs.Common.{◌≡◌, ℕ, Bool, true, false, cond, not, ◌&&◌, ◌||◌, List, [], ◌∷◌, Option, Some, None, Result, Ok, Err, find, nat_eq}
use Rattle.std.proofs.Common.{refl, sym, ◌∙◌, ap, subst}
use Rattle.values_plain.specs.declared.address.Address.{Address}
use Rattle.values_plain.specs.declared.address.Udp.{Udp}
use Rattle.values_plain.specs.declared.address.Udp.TheVariants as udp
use Rattle.values_tables.specs.Ranges.{is_foreign_id}
use Rattle.values_tables.specs.declared.plain.Peer.{Peer}
use Rattle.roster.specs.Lookups.{is_master}
use Rattle.peer_chooser.specs.declared.said.Said.{Said}
use Rattle.icp_wire.specs.declared.message.IcpOp.{IcpOp}
use Rattle.icp_wire.specs.declared.message.IcpOp.TheVariants as op
use Rattle.icp_wire.specs.declared.message.Icp.{Icp}
use Rattle.htcp_wire.specs.declared.message.Htcp.{Htcp}
use Rattle.htcp_wire.specs.declared.message.Specifier.{Specifier}
use Rattle.htcp_wire.specs.Grammar.{tst, not_allowed}
use Rattle.htcp_wire.specs.declared.message.Content.{Content}
use Rattle.htcp_wire.specs.declared.message.Content.TheVariants as content
use Rattle.htcp_wire.specs.declared.fault.HtcpFault.{HtcpFault}
use Rattle.http_messages.specs.declared.ask.Ask.{Ask}
use Rattle.http_messages.specs.Answer.{AnswerText}
use Rattle.node_rules.specs.declared.message.Message.{Message}
use Rattle.node_rules.specs.declared.message.Message.TheVariants as message
use Rattle.node_rules.specs.declared.raising.Raise.{Raise}
use Rattle.node_rules.specs.declared.raising.Raise.TheVariants.{Floor, Base}
use Rattle.node_rules.specs.declared.state.Pending.{Pending}
use Rattle.node_rules.specs.declared.state.NodeState.{NodeState}
use Rattle.node_rules.specs.declared.event.Event.{Event}
use Rattle.node_rules.specs.declared.event.Event.TheVariants as event
use Rattle.node_rules.specs.declared.reply.Reply.{Reply}
use Rattle.node_rules.specs.declared.reply.StepFault.{StepFault}
use Rattle.node_rules.specs.declared.reply.Served.TheVariants.{Status}
use Rattle.node_rules.specs.Messages.{icp, htcp, to, overall}
use Rattle.node_rules.specs.State.{Setting, Stepped, replies, serving, sending, is_outside}
use Rattle.node_rules.specs.Known.{is_known}
use Rattle.node_rules.specs.Asks.{ask_comes_to, ask_comes}
use Rattle.node_rules.specs.Arrivals.{peer_answer_to, peer_answer, foreign_answer, origin_answer_to, origin_answer, failure_of, fetch_failed, expiry_of}
use Rattle.node_rules.specs.Arrivals.{round_expired}
use Rattle.node_rules.specs.Datagrams.{sends_back, icp_answer, tst_answer, copy_meant}
use Rattle.node_rules.specs.Datagrams.{if_desired, icp_query, htcp_tst, told_to, icp_told, htcp_told, purge, rebase, raising_clr, dropped, plain_clr}
use Rattle.node_rules.specs.Datagrams.{clr_by_line}
use Rattle.node_rules.specs.Datagrams.{purged, rebased, clr_by_lines, htcp_clr, icp_comes, tst_refused, htcp_comes, datagram}
use Rattle.node_rules.specs.Step.{open_step, step_if, step}
use Rattle.node_rules.specs.Relation.{Steps, ClosesOn, raise_in}
use Rattle.node_rules.specs.Questions.{begun, BeginsNothing}
use Rattle.node_rules.specs.Effect.{copy_served}
use Rattle.node_rules.proofs.Cases.{branches}
use Rattle.node_rules.proofs.Stepping.{steps_case}

-- no copy is served, and nothing begins
abbrev ServesNothing : {X : Type 0} → NodeState X → Stepped X → Type 0
ServesNothing s r = (copy_served r.outcome ≡ None) × BeginsNothing s r.outcome r.state

module _ {X : Type 0} (g : Setting) (s : NodeState X) (is_out : is_outside g s ≡ true) (none : s.pending ≡ []) where
  abbrev Silent : Stepped X → Type 0
  Silent r = ServesNothing s r

  plainly : (r : Stepped X) → copy_served r.outcome ≡ None → r.state.pending ≡ s.pending → begun r.outcome ≡ None → Silent r
  plainly r c p b = (c, record { begun_none = b; pending_same = p })

  no_ask : (test : Pending X → Bool) → find test s.pending ≡ None
  no_ask test = ap (find test) none

  -- Requests and answers

  ask_silent : (asker : Option ℕ) (ask : Ask) (now : ℕ) (mark : X) → Silent (ask_comes g s asker ask now mark)
  unfolding ask_comes ask_comes_to
  ask_silent asker ask now mark =
      subst (λ outside. Silent (ask_comes_to g s asker ask now mark outside)) (sym is_out) (plainly _ refl refl refl)

  peer_answer_silent : (peer stamp : ℕ) (answer : AnswerText) (tag : X) (now : ℕ) (mark : X) (test : Pending X → Bool) →
      Silent (peer_answer_to g s peer stamp answer tag now mark (find test s.pending))
  unfolding peer_answer_to
  peer_answer_silent peer stamp answer tag now mark test =
      subst (λ o. Silent (peer_answer_to g s peer stamp answer tag now mark o)) (sym (no_ask test)) (plainly _ refl refl refl)

  origin_answer_silent : (answer : AnswerText) (now : ℕ) (mark : X) (test : Pending X → Bool) →
      Silent (origin_answer_to g s answer now mark (find test s.pending))
  unfolding origin_answer_to
  origin_answer_silent answer now mark test =
      subst (λ o. Silent (origin_answer_to g s answer now mark o)) (sym (no_ask test)) (plainly _ refl refl refl)

  failure_silent : (now : ℕ) (mark : X) (test : Pending X → Bool) → Silent (failure_of g s now mark (find test s.pending))
  unfolding failure_of
  failure_silent now mark test = subst (λ o. Silent (failure_of g s now mark o)) (sym (no_ask test)) (plainly _ refl refl refl)

  expiry_silent : (now : ℕ) (mark : X) (test : Pending X → Bool) → Silent (expiry_of g s now mark (find test s.pending))
  unfolding expiry_of
  expiry_silent now mark test = subst (λ o. Silent (expiry_of g s now mark o)) (sym (no_ask test)) (plainly _ refl refl refl)

  told_silent : (by : Udp) (from : Address) (said : Peer → Said) (now : ℕ) (mark : X) (test : Pending X → Bool) →
      Silent (told_to g s by from said now mark (find test s.pending))
  unfolding told_to
  told_silent by from said now mark test =
      subst (λ o. Silent (told_to g s by from said now mark o)) (sym (no_ask test)) (plainly _ refl refl refl)

  -- Datagrams

  if_desired_silent : (t : NodeState X) → t.pending ≡ s.pending → (desired : Bool) (from : Address) (m : Message) → Silent (if_desired t desired from m)
  if_desired_silent t same true from m = plainly _ refl same refl
  if_desired_silent t same false from m = plainly _ refl same refl

  raising_silent : (from : Address) (trans : ℕ) (desired : Bool) (o : Option Raise) → Silent (raising_clr s from trans desired o)
  unfolding raising_clr purge rebase
  raising_silent from trans desired None = if_desired_silent s refl desired from _
  raising_silent from trans desired (Some (Floor key n)) = if_desired_silent (purged s key n) refl desired from _
  raising_silent from trans desired (Some (Base n)) = if_desired_silent (rebased s n) refl desired from _

  dropped_pending : (key : Option (List ℕ)) → (dropped s key).pending ≡ s.pending
  dropped_pending None = refl
  dropped_pending (Some key) = refl

  plain_silent : (from : Address) (trans : ℕ) (desired : Bool) (key : Option (List ℕ)) → Silent (plain_clr g s from trans desired key)
  unfolding plain_clr
  plain_silent from trans desired key =
      branches Silent (is_known g.roster g.id udp.Htcp from || is_master g.roster from) _ _
      (λ _. if_desired_silent (dropped s key) (dropped_pending key) desired from _) (λ _. if_desired_silent s refl desired from _)

  line_silent : (from : Address) (trans : ℕ) (desired : Bool) (key : Option (List ℕ)) (number : Result (Option ℕ) HtcpFault) →
      Silent (clr_by_line g s from trans desired key number)
  unfolding clr_by_line
  line_silent from trans desired key (Ok None) = plain_silent from trans desired key
  line_silent from trans desired key (Ok (Some n)) = raising_silent from trans desired _
  line_silent from trans desired key (Err fault) = if_desired_silent s refl desired from _

  lines_silent : (from : Address) (trans : ℕ) (desired : Bool) (key : Option (List ℕ)) (number base : Result (Option ℕ) HtcpFault) →
      Silent (clr_by_lines g s from trans desired key number base)
  unfolding clr_by_lines
  lines_silent from trans desired key number (Ok None) = line_silent from trans desired key number
  lines_silent from trans desired key number (Ok (Some n)) = raising_silent from trans desired _
  lines_silent from trans desired key number (Err fault) = if_desired_silent s refl desired from _

  icp_silent : (from : Address) (m : Icp) (now : ℕ) (mark : X) (o : IcpOp) → Silent (icp_comes g s from m now mark o)
  unfolding icp_comes icp_query icp_told
  icp_silent from m now mark op.Query = plainly _ refl refl refl
  icp_silent from m now mark _ = told_silent _ from _ now mark _

  htcp_told_silent : (from : Address) (trans : ℕ) (said : Peer → Said) (now : ℕ) (mark : X) → Silent (htcp_told g s from trans said now mark)
  unfolding htcp_told
  htcp_told_silent from trans said now mark = told_silent _ from said now mark _

  tst_refused_silent : (from : Address) (trans opcode now : ℕ) (mark : X) → Silent (tst_refused g s from trans opcode now mark)
  unfolding tst_refused
  tst_refused_silent from trans opcode now mark =
      branches Silent (nat_eq opcode 1) _ _ (λ _. htcp_told_silent from trans _ now mark) (λ _. plainly _ refl refl refl)

  htcp_silent : (from : Address) (trans now : ℕ) (mark : X) (c : Content) → Silent (htcp_comes g s from trans now mark c)
  unfolding htcp_comes htcp_tst htcp_clr
  htcp_silent from trans now mark (content.NopAsk desired) = if_desired_silent s refl desired from _
  htcp_silent from trans now mark content.NopAnswer = plainly _ refl refl refl
  htcp_silent from trans now mark (content.TstAsk desired spec) = if_desired_silent s refl desired from _
  htcp_silent from trans now mark (content.TstHit detail) = htcp_told_silent from trans _ now mark
  htcp_silent from trans now mark (content.TstMiss cache) = htcp_told_silent from trans _ now mark
  htcp_silent from trans now mark (content.ClrAsk desired reason spec) = lines_silent from trans desired _ _ _
  htcp_silent from trans now mark (content.ClrAnswer code) = plainly _ refl refl refl
  htcp_silent from trans now mark (content.Other opcode desired) = if_desired_silent s refl desired from _
  htcp_silent from trans now mark (content.Overall opcode code) = tst_refused_silent from trans opcode now mark
  htcp_silent from trans now mark (content.OtherAnswer opcode code) = tst_refused_silent from trans opcode now mark

  datagram_silent : (from : Address) (now : ℕ) (mark : X) (m : Message) → Silent (datagram g s from now mark m)
  unfolding datagram
  datagram_silent from now mark (message.Icp m) = icp_silent from m now mark m.op
  datagram_silent from now mark (message.Htcp m) = htcp_silent from m.trans now mark m.content

  -- The whole step

  open_step_silent : (mark : X) (e : Event X) → Silent (open_step g s mark e)
  unfolding open_step peer_answer foreign_answer origin_answer fetch_failed round_expired
  open_step_silent mark (event.Client ask now) = ask_silent None ask now mark
  open_step_silent mark (event.Datagram from m now) = datagram_silent from now mark m
  open_step_silent mark (event.PeerAsk asker ask now) = ask_silent (Some asker) ask now mark
  open_step_silent mark (event.PeerAnswer serial peer key answer tag now) =
      branches Silent (is_foreign_id peer) _ _ (λ _. plainly _ refl refl refl) (λ _. peer_answer_silent peer _ answer tag now mark _)
  open_step_silent mark (event.OriginAnswer serial key answer now) = origin_answer_silent answer now mark _
  open_step_silent mark (event.ForeignAnswer serial peer key answer tag now) =
      branches Silent (is_foreign_id peer) _ _ (λ _. peer_answer_silent peer 0 answer tag now mark _) (λ _. plainly _ refl refl refl)
  open_step_silent mark (event.FetchFailed serial now) = failure_silent now mark _
  open_step_silent mark (event.Expired serial now) = expiry_silent now mark _

  step_if_silent : (e : Event X) (mark : X) (closed : Bool) → Silent (step_if g s e mark closed)
  unfolding step_if
  step_if_silent e mark true = plainly _ refl refl refl
  step_if_silent e mark false = open_step_silent mark e

  closed_silent : (o : Option Raise) (next : NodeState X) (f : StepFault) → ClosesOn s o next → Silent record { state = next; outcome = Err f }
  closed_silent None next f h = absurd h
  closed_silent (Some raise) next f h = plainly _ refl (h.pending ∙ sym none) refl

  pub outside_serves_nothing : (e : Event X) (mark : X) (outcome : Result (Reply X) StepFault) (next : NodeState X) → Steps g s e mark outcome next →
      (copy_served outcome ≡ None) × BeginsNothing s outcome next
  unfolding step
  outside_serves_nothing e mark outcome next =
      steps_case g s e mark Silent (step_if_silent e mark s.closed) (plainly _ refl refl refl)
      (λ n f closes. closed_silent (raise_in g e) n f closes.1) outcome next

-- What an open outside node answers

module _ {X : Type 0} (g : Setting) (s : NodeState X) (mark : X) (is_open : s.closed ≡ false) (is_out : is_outside g s ≡ true) where
  opened_step : (e : Event X) → step g s e mark ≡ open_step g s mark e
  unfolding step step_if
  opened_step e = ap (step_if g s e mark) is_open

  asked : (asker : Option ℕ) (ask : Ask) (now : ℕ) → ask_comes g s asker ask now mark ≡ replies s (serving None asker (Status 503))
  unfolding ask_comes ask_comes_to
  asked asker ask now = ap (ask_comes_to g s asker ask now mark) is_out

  pub client_is_refused : (ask : Ask) (now : ℕ) → step g s (event.Client ask now) mark ≡ replies s (serving None None (Status 503))
  unfolding open_step
  client_is_refused ask now = opened_step _ ∙ asked None ask now

  pub member_is_refused : (asker : ℕ) (ask : Ask) (now : ℕ) → step g s (event.PeerAsk asker ask now) mark ≡ replies s (serving None (Some asker) (Status 503))
  unfolding open_step
  member_is_refused asker ask now = opened_step _ ∙ asked (Some asker) ask now

  pub query_is_denied : (from : Address) (m : Icp) (now : ℕ) → m.op ≡ op.Query →
      step g s (event.Datagram from (message.Icp m) now) mark ≡ replies s (sending (to from (icp op.Denied m.number m.url) ∷ []))
  unfolding open_step datagram icp_comes icp_query
  query_is_denied from m now is =
      opened_step _ ∙ ap (icp_comes g s from m now mark) is
      ∙ ap (λ b. sends_back s from (icp (icp_answer (not b && is_known g.roster g.id udp.Icp from) s now (g.key_of m.url)) m.number m.url)) is_out

  pub tst_is_refused : (from : Address) (m : Htcp) (spec : Specifier) (now : ℕ) → m.content ≡ content.TstAsk true spec →
      step g s (event.Datagram from (message.Htcp m) now) mark ≡ replies s (sending (to from (overall m.trans tst not_allowed) ∷ []))
  unfolding open_step datagram htcp_comes htcp_tst
  tst_is_refused from m spec now is =
      opened_step _ ∙ ap (htcp_comes g s from m.trans now mark) is
      ∙ ap (λ b. if_desired s true from (cond (not b && is_known g.roster g.id udp.Htcp from) (htcp m.trans (tst_answer (copy_meant g s spec now)))
      (overall m.trans tst not_allowed))) is_out
