-- What a step sends at a sibling's question goes back to its source: the rules for a QUERY and a
-- TST send at most one response, to the source, and the rule for a sibling's HTTP request sends no
-- datagram.
use Rattle.std.proofs.Common.{◌≡◌, ℕ, Bool, true, false, [], Option, Some, None, Result, refl, sym, ◌∙◌}
use Rattle.std.specs.List.{AllByRecursion}
use Rattle.icp_wire.specs.declared.message.IcpOp.{IcpOp}
use Rattle.icp_wire.specs.declared.message.IcpOp.TheVariants as op
use Rattle.icp_wire.specs.declared.message.Icp.{Icp}
use Rattle.htcp_wire.specs.declared.message.Content.{Content}
use Rattle.htcp_wire.specs.declared.message.Content.TheVariants as content
use Rattle.http_messages.specs.declared.ask.Ask.{Ask}
use Rattle.object_store.specs.declared.copy.WebCopy.{WebCopy}
use Rattle.values_plain.specs.declared.address.Address.{Address}
use Rattle.roster.specs.Lookups.{names_sibling}
use Rattle.node_rules.specs.declared.message.Message.{Message}
use Rattle.node_rules.specs.declared.message.Message.TheVariants as message
use Rattle.node_rules.specs.declared.message.Outgoing.{Outgoing}
use Rattle.node_rules.specs.declared.state.NodeState.{NodeState}
use Rattle.node_rules.specs.declared.event.Event.{Event}
use Rattle.node_rules.specs.declared.event.Event.TheVariants as event
use Rattle.node_rules.specs.declared.reply.Reply.{Reply}
use Rattle.node_rules.specs.declared.reply.StepFault.{StepFault}
use Rattle.node_rules.specs.State.{Setting, Stepped, is_outside}
use Rattle.node_rules.specs.Asks.{is_cached_only, not_held, by_copy, copy_for, ask_comes_to, ask_comes}
use Rattle.node_rules.specs.Datagrams.{if_desired, icp_query, htcp_tst, icp_comes, htcp_comes, datagram}
use Rattle.node_rules.specs.Step.{open_step, step_if, step}
use Rattle.node_rules.specs.Relation.{Steps}
use Rattle.node_rules.specs.Questions.{is_query, is_tst, is_question, is_from_sibling}
use Rattle.node_rules.specs.Effect.{sent}
use Rattle.node_rules.proofs.Cases.{branches, true_not_false, or_true}
use Rattle.node_rules.proofs.Stepping.{steps_case}
use Rattle.world_rules.specs.Safety.{SendsBack}

-- the step sends no datagram
record IsSilent {X : Type 0} (r : Stepped X) : Type 0 where
  none : sent r.outcome ≡ []

-- each datagram that the step sends goes to this address
record GoesTo {X : Type 0} (from : Address) (r : Stepped X) : Type 0 where
  back : AllByRecursion (λ (o : Outgoing). o.to ≡ from) (sent r.outcome)

-- if nothing is sent, nothing goes elsewhere
pub nothing_back : {X : Type 0} (e : Event X) → SendsBack e []
nothing_back (event.Datagram from m now) = tt
nothing_back _ = refl

module _ {X : Type 0} (g : Setting) (s : NodeState X) where
  if_desired_back : (desired : Bool) (from : Address) (m : Message) → GoesTo from (if_desired s desired from m)
  if_desired_back true from m = record { back = (refl, tt) }
  if_desired_back false from m = record { back = tt }

  not_held_silent : (asker : ℕ) (ask : Ask) (now : ℕ) (mark : X) → names_sibling g.roster asker g.id ≡ true → IsSilent (not_held g s (Some asker) ask now mark)
  unfolding not_held
  not_held_silent asker ask now mark h =
      branches (λ (r : Stepped X). IsSilent r) (is_cached_only g (Some asker) ask) _ _ (λ _. record { none = refl })
      (λ no. absurd (true_not_false (sym (or_true ask.only_if_cached (names_sibling g.roster asker g.id) h) ∙ no)))

  by_copy_silent : (asker : ℕ) (ask : Ask) (now : ℕ) (mark : X) (o : Option (WebCopy X)) → names_sibling g.roster asker g.id ≡ true →
      IsSilent (by_copy g s (Some asker) ask now mark o)
  unfolding by_copy
  by_copy_silent asker ask now mark None h = not_held_silent asker ask now mark h
  by_copy_silent asker ask now mark (Some c) h = record { none = refl }

  ask_silent : (asker : ℕ) (ask : Ask) (now : ℕ) (mark : X) (outside : Bool) → names_sibling g.roster asker g.id ≡ true →
      IsSilent (ask_comes_to g s (Some asker) ask now mark outside)
  unfolding ask_comes_to
  ask_silent asker ask now mark true h = record { none = refl }
  ask_silent asker ask now mark false h = by_copy_silent asker ask now mark (copy_for s ask now) h

  icp_back : (from : Address) (m : Icp) (now : ℕ) (mark : X) (o : IcpOp) → is_query o ≡ true → GoesTo from (icp_comes g s from m now mark o)
  unfolding icp_comes icp_query
  icp_back from m now mark op.Query h = record { back = (refl, tt) }
  icp_back from m now mark _ h = absurd (true_not_false (sym h))

  htcp_back : (from : Address) (trans now : ℕ) (mark : X) (c : Content) → is_tst c ≡ true → GoesTo from (htcp_comes g s from trans now mark c)
  unfolding htcp_comes htcp_tst
  htcp_back from trans now mark (content.TstAsk desired spec) h = if_desired_back desired from _
  htcp_back from trans now mark _ h = absurd (true_not_false (sym h))

  datagram_back : (from : Address) (now : ℕ) (mark : X) (m : Message) → is_question m ≡ true → GoesTo from (datagram g s from now mark m)
  unfolding datagram
  datagram_back from now mark (message.Icp m) h = icp_back from m now mark m.op h
  datagram_back from now mark (message.Htcp m) h = htcp_back from m.trans now mark m.content h

  open_step_back : (mark : X) (e : Event X) → is_from_sibling g e ≡ true → SendsBack e (sent (open_step g s mark e).outcome)
  unfolding open_step ask_comes
  open_step_back mark (event.PeerAsk asker ask now) h = (ask_silent asker ask now mark (is_outside g s) h).none
  open_step_back mark (event.Datagram from m now) h = (datagram_back from now mark m h).back
  open_step_back mark _ h = absurd (true_not_false (sym h))

  step_if_back : (e : Event X) (mark : X) (closed : Bool) → is_from_sibling g e ≡ true → SendsBack e (sent (step_if g s e mark closed).outcome)
  unfolding step_if
  step_if_back e mark true h = nothing_back e
  step_if_back e mark false h = open_step_back mark e h

  -- at a sibling's question nothing is sent but a response to its source
  pub sibling_sends_back : (e : Event X) (mark : X) (outcome : Result (Reply X) StepFault) (next : NodeState X) → is_from_sibling g e ≡ true →
      Steps g s e mark outcome next → SendsBack e (sent outcome)
  unfolding step
  sibling_sends_back e mark outcome next h =
      steps_case g s e mark (λ (r : Stepped X). SendsBack e (sent r.outcome)) (step_if_back e mark s.closed h) (nothing_back e) (λ n f closes. nothing_back e)
      outcome next
