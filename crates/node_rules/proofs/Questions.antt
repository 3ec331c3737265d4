-- A sibling's request begins nothing: the rules that it reaches give a reply without a begin and
-- leave the pending requests. It raises nothing, so no fault closes the node at it.
use Rattle.std.proofs.Common.{◌≡◌, ℕ, Bool, true, false, Option, Some, None, Result, refl, sym, ◌∙◌, subst}
use Rattle.values_plain.specs.declared.address.Address.{Address}
use Rattle.icp_wire.specs.declared.message.IcpOp.{IcpOp}
use Rattle.icp_wire.specs.declared.message.IcpOp.TheVariants as op
use Rattle.icp_wire.specs.declared.message.Icp.{Icp}
use Rattle.htcp_wire.specs.declared.message.Content.{Content}
use Rattle.htcp_wire.specs.declared.message.Content.TheVariants as content
use Rattle.node_rules.specs.declared.message.Message.{Message}
use Rattle.node_rules.specs.declared.message.Message.TheVariants as message
use Rattle.object_store.specs.declared.copy.WebCopy.{WebCopy}
use Rattle.http_messages.specs.declared.ask.Ask.{Ask}
use Rattle.node_rules.specs.declared.state.NodeState.{NodeState}
use Rattle.node_rules.specs.declared.event.Event.{Event}
use Rattle.node_rules.specs.declared.event.Event.TheVariants as event
use Rattle.node_rules.specs.declared.reply.Reply.{Reply}
use Rattle.node_rules.specs.declared.reply.StepFault.{StepFault}
use Rattle.roster.specs.Lookups.{names_sibling}
use Rattle.node_rules.specs.State.{Setting, Stepped}
use Rattle.node_rules.specs.Asks.{is_cached_only, not_held, by_copy, ask_comes_to, ask_comes}
use Rattle.node_rules.specs.Datagrams.{if_desired, icp_query, htcp_tst, icp_comes, htcp_comes, datagram}
use Rattle.node_rules.specs.Step.{open_step, step_if, step}
use Rattle.node_rules.specs.Relation.{Steps, ClosesOn, raise_in, raise_in_content, raise_in_message}
use Rattle.node_rules.specs.Questions.{is_query, is_tst, is_question, is_from_sibling, begun, BeginsNothing}
use Rattle.node_rules.proofs.Cases.{branches, true_not_false, or_true}
use Rattle.node_rules.proofs.Stepping.{steps_case}

abbrev pub Nothing : {X : Type 0} → NodeState X → Stepped X → Type 0
Nothing s r = BeginsNothing s r.outcome r.state

module _ {X : Type 0} (g : Setting) (s : NodeState X) where
  plainly : (r : Stepped X) → r.state.pending ≡ s.pending → begun r.outcome ≡ None → Nothing s r
  plainly r p b = record { begun_none = b; pending_same = p }

  if_desired_begins : (desired : Bool) (from : Address) (m : Message) → Nothing s (if_desired s desired from m)
  if_desired_begins true from m = plainly _ refl refl
  if_desired_begins false from m = plainly _ refl refl

  -- a request of a sibling is answered from the store alone
  sibling_cached_only : (asker : ℕ) (ask : Ask) → names_sibling g.roster asker g.id ≡ true → is_cached_only g (Some asker) ask ≡ true
  sibling_cached_only asker ask h = or_true ask.only_if_cached (names_sibling g.roster asker g.id) h

  not_held_begins : (asker : ℕ) (ask : Ask) (now : ℕ) (mark : X) → names_sibling g.roster asker g.id ≡ true → Nothing s (not_held g s (Some asker) ask now mark)
  unfolding not_held
  not_held_begins asker ask now mark h =
      branches (Nothing s) (is_cached_only g (Some asker) ask) _ _ (λ _. plainly _ refl refl)
      (λ no. absurd (true_not_false (sym (sibling_cached_only asker ask h) ∙ no)))

  by_copy_begins : (asker : ℕ) (ask : Ask) (now : ℕ) (mark : X) (o : Option (WebCopy X)) → names_sibling g.roster asker g.id ≡ true →
      Nothing s (by_copy g s (Some asker) ask now mark o)
  unfolding by_copy
  by_copy_begins asker ask now mark None h = not_held_begins asker ask now mark h
  by_copy_begins asker ask now mark (Some c) h = plainly _ refl refl

  ask_comes_to_begins : (asker : ℕ) (ask : Ask) (now : ℕ) (mark : X) (outside : Bool) → names_sibling g.roster asker g.id ≡ true →
      Nothing s (ask_comes_to g s (Some asker) ask now mark outside)
  unfolding ask_comes_to
  ask_comes_to_begins asker ask now mark true h = plainly _ refl refl
  ask_comes_to_begins asker ask now mark false h = by_copy_begins asker ask now mark _ h

  icp_begins : (from : Address) (m : Icp) (now : ℕ) (mark : X) (o : IcpOp) → is_query o ≡ true → Nothing s (icp_comes g s from m now mark o)
  unfolding icp_comes icp_query
  icp_begins from m now mark op.Query h = plainly _ refl refl
  icp_begins from m now mark _ h = absurd (true_not_false (sym h))

  htcp_begins : (from : Address) (trans now : ℕ) (mark : X) (c : Content) → is_tst c ≡ true → Nothing s (htcp_comes g s from trans now mark c)
  unfolding htcp_comes htcp_tst
  htcp_begins from trans now mark (content.TstAsk desired spec) h = if_desired_begins desired from _
  htcp_begins from trans now mark _ h = absurd (true_not_false (sym h))

  datagram_begins : (from : Address) (now : ℕ) (mark : X) (m : Message) → is_question m ≡ true → Nothing s (datagram g s from now mark m)
  unfolding datagram
  datagram_begins from now mark (message.Icp m) h = icp_begins from m now mark m.op h
  datagram_begins from now mark (message.Htcp m) h = htcp_begins from m.trans now mark m.content h

  open_step_begins : (mark : X) (e : Event X) → is_from_sibling g e ≡ true → Nothing s (open_step g s mark e)
  unfolding open_step ask_comes
  open_step_begins mark (event.PeerAsk asker ask now) h = ask_comes_to_begins asker ask now mark _ h
  open_step_begins mark (event.Datagram from m now) h = datagram_begins from now mark m h
  open_step_begins mark _ h = absurd (true_not_false (sym h))

  step_if_begins : (e : Event X) (mark : X) (closed : Bool) → is_from_sibling g e ≡ true → Nothing s (step_if g s e mark closed)
  unfolding step_if
  step_if_begins e mark true h = plainly _ refl refl
  step_if_begins e mark false h = open_step_begins mark e h

  -- it raises nothing

  tst_no_raise : (from : Address) (trans : ℕ) (c : Content) → is_tst c ≡ true → raise_in_content g from trans c ≡ None
  tst_no_raise from trans (content.ClrAsk desired reason spec) h = absurd (true_not_false (sym h))
  tst_no_raise from trans _ h = refl

  question_no_raise : (from : Address) (m : Message) → is_question m ≡ true → raise_in_message g from m ≡ None
  question_no_raise from (message.Icp m) h = refl
  question_no_raise from (message.Htcp m) h = tst_no_raise from m.trans m.content h

  no_raise : (e : Event X) → is_from_sibling g e ≡ true → raise_in g e ≡ None
  no_raise (event.Datagram from m now) h = question_no_raise from m h
  no_raise _ h = refl

  pub sibling_begins_nothing : (e : Event X) (mark : X) (outcome : Result (Reply X) StepFault) (next : NodeState X) → is_from_sibling g e ≡ true →
      Steps g s e mark outcome next → BeginsNothing s outcome next
  unfolding step
  sibling_begins_nothing e mark outcome next h =
      steps_case g s e mark (Nothing s) (step_if_begins e mark s.closed h) (plainly _ refl refl)
      (λ n f closes. absurd (subst (λ o. ClosesOn s o n) (no_raise e h) closes.1)) outcome next
