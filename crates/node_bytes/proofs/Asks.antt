-- By the rules of a node a request is served at once, or waits for what begins with it: by the
-- cases of `ask_comes`, each of which gives a reply of one of the two kinds or a fault.
use Rattle.std.proofs.Common.{◌≡◌, inl, inr, ℕ, Bool, true, false, cond, List, [], ◌∷◌, Option, Some, None, Result, Ok, Err, IfOk, refl, subst}
use Rattle.http_messages.specs.declared.ask.Ask.{Ask}
use Rattle.object_store.specs.declared.copy.WebCopy.{WebCopy}
use Rattle.values_tables.specs.declared.plain.Peer.{Peer}
use Rattle.peer_chooser.specs.Round.{RoundText}
use Rattle.node_rules.specs.declared.state.NodeState.{NodeState}
use Rattle.node_rules.specs.declared.event.Event.{Event}
use Rattle.node_rules.specs.declared.event.Event.TheVariants as event
use Rattle.node_rules.specs.declared.reply.Served.{Served}
use Rattle.node_rules.specs.declared.reply.Served.TheVariants.{Status}
use Rattle.node_rules.specs.declared.reply.Begin.{Begin}
use Rattle.node_rules.specs.declared.reply.Reply.{Reply}
use Rattle.node_rules.specs.declared.reply.StepFault.{StepFault}
use Rattle.node_rules.specs.State.{Setting, Stepped, replies, serving}
use Rattle.node_rules.specs.Known.{has_origin}
use Rattle.node_rules.specs.Asks.{is_cached_only, passing, begin_round, begin_with_read, ask_around, begin_ask, begin_if_free, not_held, by_copy, ask_comes}
use Rattle.node_rules.specs.Asks.{ask_comes_to}
use Rattle.node_rules.specs.Step.{open_step, step_if, step}
use Rattle.node_rules.specs.Relation.{Steps}
use Rattle.node_bytes.specs.Stepping.{AnswersAsker, AnswersAsk}

-- what an outcome answers to a request
abbrev Answers : {X : Type 0} → Option ℕ → Result (Reply X) StepFault → Type 0
Answers asker (Ok reply) = AnswersAsker asker reply
Answers asker (Err fault) = Unit {0}

either : {A : Type 0} (P : A → Type 0) (b : Bool) (x y : A) → P x → P y → P (cond b x y)
either P true x y p q = p
either P false x y p q = q

module _ {X : Type 0} (g : Setting) where
  begins : (asker : Option ℕ) (reply : Reply X) (b : Begin) → reply.begin ≡ Some b → reply.serve ≡ None → AnswersAsker asker reply
  begins asker reply b is none = inr (record { begun = b; begins = is; serves = none })

  serves : (asker : Option ℕ) (served : Served X) → AnswersAsker asker (serving None asker served)
  serves asker served = inl (record { served = served; alone = refl })

  with_read_fits : (s : NodeState X) (asker : Option ℕ) (ask : Ask) (block now : ℕ) (mark : X) → Answers asker
      (begin_with_read g s asker ask block now mark).outcome
  unfolding begin_with_read
  with_read_fits s asker ask block now mark =
      either (λ (r : Stepped X). Answers asker r.outcome) (has_origin g.roster ask.key) _ (replies (passing s block) (serving None asker (Status 502)))
      (begins asker _ _ refl refl) (serves asker (Status 502))

  ask_around_fits : (s : NodeState X) (asker : Option ℕ) (ask : Ask) (block now : ℕ) (mark : X) (round : RoundText) (peers : List Peer) →
      Answers asker (ask_around g s asker ask block now mark round peers).outcome
  unfolding ask_around begin_round
  ask_around_fits s asker ask block now mark round [] = with_read_fits s asker ask block now mark
  ask_around_fits s asker ask block now mark round (peer ∷ peers) = begins asker _ _ refl refl

  begin_if_free_fits : (s : NodeState X) (asker : Option ℕ) (ask : Ask) (now : ℕ) (mark : X) (o : Option ℕ) → Answers asker
      (begin_if_free g s asker ask now mark o).outcome
  unfolding begin_if_free begin_ask
  begin_if_free_fits s asker ask now mark None = tt
  begin_if_free_fits s asker ask now mark (Some block) = ask_around_fits s asker ask block now mark _ _

  not_held_fits : (s : NodeState X) (asker : Option ℕ) (ask : Ask) (now : ℕ) (mark : X) → Answers asker (not_held g s asker ask now mark).outcome
  unfolding not_held
  not_held_fits s asker ask now mark =
      either (λ (r : Stepped X). Answers asker r.outcome) (is_cached_only g asker ask) (replies s (serving None asker (Status 504))) _
      (serves asker (Status 504)) (begin_if_free_fits s asker ask now mark _)

  by_copy_fits : (s : NodeState X) (asker : Option ℕ) (ask : Ask) (now : ℕ) (mark : X) (c : Option (WebCopy X)) →
      Answers asker (by_copy g s asker ask now mark c).outcome
  unfolding by_copy
  by_copy_fits s asker ask now mark None = not_held_fits s asker ask now mark
  by_copy_fits s asker ask now mark (Some c) = serves asker _

  ask_comes_to_fits : (s : NodeState X) (asker : Option ℕ) (ask : Ask) (now : ℕ) (mark : X) (outside : Bool) →
      Answers asker (ask_comes_to g s asker ask now mark outside).outcome
  unfolding ask_comes_to
  ask_comes_to_fits s asker ask now mark true = serves asker (Status 503)
  ask_comes_to_fits s asker ask now mark false = by_copy_fits s asker ask now mark _

  ask_comes_fits : (s : NodeState X) (asker : Option ℕ) (ask : Ask) (now : ℕ) (mark : X) → Answers asker (ask_comes g s asker ask now mark).outcome
  unfolding ask_comes
  ask_comes_fits s asker ask now mark = ask_comes_to_fits s asker ask now mark _

  client_step : (s : NodeState X) (ask : Ask) (now : ℕ) (mark : X) (closed : Bool) → Answers None (step_if g s (event.Client ask now) mark closed).outcome
  unfolding step_if open_step
  client_step s ask now mark true = tt
  client_step s ask now mark false = ask_comes_fits s None ask now mark

  member_step : (s : NodeState X) (asker : ℕ) (ask : Ask) (now : ℕ) (mark : X) (closed : Bool) →
      Answers (Some asker) (step_if g s (event.PeerAsk asker ask now) mark closed).outcome
  unfolding step_if open_step
  member_step s asker ask now mark true = tt
  member_step s asker ask now mark false = ask_comes_fits s (Some asker) ask now mark

  pub asks_are_answered : (s : NodeState X) (e : Event X) (mark : X) (reply : Reply X) (next : NodeState X) → Steps g s e mark (Ok reply) next →
      AnswersAsk e reply
  unfolding step
  asks_are_answered s (event.Client ask now) mark reply next is = subst (λ r. Answers None r.outcome) is (client_step s ask now mark s.closed)
  asks_are_answered s (event.PeerAsk asker ask now) mark reply next is = subst (λ r. Answers (Some asker) r.outcome) is
      (member_step s asker ask now mark s.closed)
  asks_are_answered s _ mark reply next is = tt

-- what any outcome answers
pub outcomes_answer : {X : Type 0} (g : Setting) (s : NodeState X) (e : Event X) (mark : X) (outcome : Result (Reply X) StepFault) (next : NodeState X) →
    Steps g s e mark outcome next → IfOk outcome (AnswersAsk e)
outcomes_answer g s e mark (Ok reply) next steps = asks_are_answered g s e mark reply next steps
outcomes_answer g s e mark (Err fault) next steps = tt
