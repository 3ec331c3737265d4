-- A node's step with all that it sends is the model's consequence: first the node is replaced by the one
-- after its step, then the items are added that its reply sends, and what waits.
use Rattle.std.proofs.Common.{◌≡◌, ℕ, List, [], ◌++◌, map, set, slice_get, Option, Some, None, Result, refl, sym, ◌∙◌, ap, subst}
use Rattle.std.specs.List.{AllByRecursion}
use Rattle.purge_rules.specs.Needed.{nodes_of}
use Rattle.roster.specs.Lookups.{member_of}
use Rattle.node_rules.specs.declared.event.Event.{Event}
use Rattle.node_rules.specs.declared.reply.Reply.{Reply}
use Rattle.node_rules.specs.declared.reply.Serve.{Serve}
use Rattle.node_rules.specs.declared.reply.StepFault.{StepFault}
use Rattle.node_rules.specs.Relation.{Steps}
use Rattle.node_rules.specs.State.{setting}
use Rattle.world_rules.specs.World.{Datagram, PeerAsk, PeerAnswer, Waiting, Answered, node_at, datagrams_from, asks_in, answers_in, waits_now, asked_by}
use Rattle.world_rules.specs.World.{asked_now, answer_to, reply_in, after_node}
use Rattle.world_rules.specs.Asked.{block_begun}
use Rattle.world_rules.specs.Consequence.{NodeSteps}
use Rattle.world_rules.proofs.Items.{append_nil}
use Rattle.hierarchy_world.specs.declared.parts.Parts.{Parts}
use Rattle.hierarchy_world.specs.declared.telling.Seen.TheVariants as here
use Rattle.hierarchy_world.specs.Parts.{MemberNode, member_states, world_of, IsMemberNode, IsSound, IsPlace, IsStep, HasStepped, with_state, Adds}
use Rattle.hierarchy_world.specs.Parts.{IsMemberChanged, HasTaken}
use Rattle.hierarchy_world.specs.Posted.{answered, answers_by, waits_by, serial_of}
use Rattle.hierarchy_world.proofs.Changing.{same_world, was_id, was_member_node, was_state, still_sound, states_are}
use Rattle.hierarchy_world.proofs.Serving.{waits_here}

-- A node's step at its index
module _ (old new : Parts) (before n : MemberNode) (id place : ℕ) (e : Event ℕ) (outcome : Result (Reply ℕ) StepFault) (sound : IsSound old)
    (is_place : IsPlace old.nodes.items id place)
    (at : slice_get old.nodes.items place ≡ Some before) (changed : IsMemberChanged old new (set old.nodes.items place n) old.waiting.items)
    (is : IsStep before old.place e outcome n) where
  is_state : node_at (member_states old.nodes.items) id ≡ before.state
  is_state = was_state old before id place sound is_place at

  steps_here : Steps (setting old.roster id) (node_at (member_states old.nodes.items) id) e old.place outcome n.state
  steps_here =
      subst (λ x. Steps (setting old.roster id) x e old.place outcome n.state) (sym is_state)
      (subst (λ i. Steps (setting old.roster i) before.state e old.place outcome n.state)
      (was_id old before id place sound is_place at)
      (subst (λ r. Steps (setting r before.id) before.state e old.place outcome n.state)
      (was_member_node old before id place sound is_place at).roster is.steps))

  pub has_stepped : HasStepped old id e outcome new
  has_stepped = record {
    sound = still_sound old new before n id place sound is_place at changed.roster changed.master changed.nodes is.id is.roster is.stored;
    roster = changed.roster;
    place = changed.place;
    next = n.state;
    steps = steps_here;
    memory = is.memory;
    store = is.store;
    world = same_world (world_of new) (with_state (world_of old) id n.state)
        (states_are old new before n id place sound is_place at changed.roster changed.master changed.nodes is.id is.roster is.stored)
        (ap (λ m. m.state.purges) changed.master) changed.clock changed.datagrams changed.asks changed.answers changed.waiting;
  }

-- adding items leaves the parts sound
pub adds_sound : (a b : Parts) (datagrams : List Datagram) (asks : List PeerAsk) (answers : List PeerAnswer) (waiting : List Waiting) →
    Adds a b datagrams asks answers waiting → IsSound a → IsSound b
adds_sound a b datagrams asks answers waiting adds sound = record {
  nodes = subst (λ l. AllByRecursion (IsMemberNode b.roster) l) (sym adds.nodes)
      (subst (λ r. AllByRecursion (IsMemberNode r) a.nodes.items) (sym adds.roster) sound.nodes);
  ids = ap (map (λ n. n.id)) adds.nodes ∙ sound.ids ∙ ap (λ r. map (λ m. m.cache.id) r.members) (sym adds.roster);
  master = record {
    nodes = ap (λ m. m.nodes) adds.master ∙ sound.master.nodes ∙ ap nodes_of (sym adds.roster);
    is_open = ap (λ m. m.state.closed) adds.master ∙ sound.master.is_open;
  };
}

-- the request that is answered, and the response, are those of the event
answered_here : (waiting : List Waiting) (id : ℕ) (e : Event ℕ) (serial : ℕ) (asked : Option Answered) (waiter : Option ℕ) → asked ≡ asked_now e serial →
    answered waiting id asked waiter ≡ asked_by waiting id e serial waiter
answered_here waiting id e serial asked None is = is
answered_here waiting id e serial asked (Some block) is = refl

answers_here : (waiting : List Waiting) (id : ℕ) (e : Event ℕ) (serial : ℕ) (asked : Option Answered) (serve : Option (Serve ℕ)) → asked ≡ asked_now e serial →
    answers_by waiting id asked serve ≡ answers_in waiting id e serial serve
answers_here waiting id e serial asked None is = refl
answers_here waiting id e serial asked (Some serve) is = ap (answer_to id serve.asker serve.served) (answered_here waiting id e serial asked serve.waiter is)

-- A node's step, all that it sends, and what waits afterwards
module _ (old mid sent new : Parts) (id : ℕ) (e : Event ℕ) (asked : Option Answered) (outcome : Result (Reply ℕ) StepFault)
    (h : HasStepped old id e outcome mid)
    (is : asked ≡ asked_now e (serial_of asked))
    (first : Adds mid sent (datagrams_from (member_of mid.roster id) (reply_in outcome).send) (asks_in id (reply_in outcome).begin)
    (answers_by mid.waiting.items id asked (reply_in outcome).serve) [])
    (last : Adds sent new [] [] [] (waits_by id asked (block_begun (reply_in outcome).begin))) where
  datagrams_are : new.datagrams.items ≡ old.datagrams.items ++ datagrams_from (member_of old.roster id) (reply_in outcome).send
  datagrams_are =
      last.datagrams ∙ append_nil sent.datagrams.items ∙ first.datagrams
      ∙ ap (λ l. l ++ datagrams_from (member_of mid.roster id) (reply_in outcome).send) (ap (λ w. w.datagrams) h.world)
      ∙ ap (λ r. old.datagrams.items ++ datagrams_from (member_of r id) (reply_in outcome).send) h.roster

  asks_are : new.asks.items ≡ old.asks.items ++ asks_in id (reply_in outcome).begin
  asks_are =
      last.asks ∙ append_nil sent.asks.items ∙ first.asks
      ∙ ap (λ l. l ++ asks_in id (reply_in outcome).begin) (ap (λ w. w.asks) h.world)

  waiting_was : mid.waiting.items ≡ old.waiting.items
  waiting_was = ap (λ w. w.waiting) h.world

  answers_are : new.answers.items ≡ old.answers.items ++ answers_in old.waiting.items id e (serial_of asked) (reply_in outcome).serve
  answers_are =
      last.answers ∙ append_nil sent.answers.items ∙ first.answers
      ∙ ap (λ l. l ++ answers_by mid.waiting.items id asked (reply_in outcome).serve) (ap (λ w. w.answers) h.world)
      ∙ ap (λ l. old.answers.items ++ answers_by l id asked (reply_in outcome).serve) waiting_was
      ∙ ap (λ l. old.answers.items ++ l) (answers_here old.waiting.items id e (serial_of asked) asked (reply_in outcome).serve is)

  waiting_is : new.waiting.items ≡ waits_now id e (serial_of asked) (reply_in outcome).begin ++ old.waiting.items
  waiting_is =
      last.waiting
      ∙ ap (λ l. waits_by id asked (block_begun (reply_in outcome).begin) ++ l) (first.waiting ∙ waiting_was)
      ∙ ap (λ a. waits_by id a (block_begun (reply_in outcome).begin) ++ old.waiting.items) is
      ∙ sym (ap (λ l. l ++ old.waiting.items) (waits_here e id (serial_of asked) (reply_in outcome).begin))

  pub step_taken : HasTaken old (NodeSteps id e (serial_of asked)) (here.Replied id outcome) new
  step_taken = record {
    sound = adds_sound sent new _ _ _ _ last (adds_sound mid sent _ _ _ _ first h.sound);
    roster = last.roster ∙ first.roster ∙ h.roster;
    place = last.place ∙ first.place ∙ h.place;
    lacked_nothing = (h.memory, h.store);
    takes = (
      outcome,
      h.next,
      h.steps,
      refl,
      same_world (world_of new) (after_node old.roster (world_of old) id e (serial_of asked) outcome h.next)
          (ap member_states (last.nodes ∙ first.nodes) ∙ ap (λ w. w.states) h.world)
          (ap (λ m. m.state.purges) (last.master ∙ first.master) ∙ ap (λ w. w.master) h.world)
          (last.clock ∙ first.clock ∙ ap (λ w. w.clock) h.world)
          datagrams_are asks_are answers_are waiting_is,
    );
  }
