-- Which members' requests wait, as nodes step and restart: a new request gets a block that no other
-- has which waits at its node, and the latest of a block is found first; a restart removes all of its
-- own and no other.
use Rattle.std.proofs.Common.{◌≡◌, ◌≢◌, ℕ, ◌/◌, Bool, true, false, cond, not, ◌&&◌, List, [], ◌∷◌, ◌++◌, filter, find, option_map, Option, Some, None, Result}
use Rattle.std.proofs.Common.{refl, sym, ◌∙◌, ap, subst, nat_eq, inl, inr}
use Rattle.std.specs.List.{AllByRecursion}
use Rattle.std.proofs.lemmas.Option.{none-some}
use Rattle.http_messages.specs.declared.ask.Ask.{Ask}
use Rattle.node_rules.specs.declared.state.Pending.{Pending}
use Rattle.node_rules.specs.declared.state.NodeState.{NodeState}
use Rattle.node_rules.specs.declared.event.Event.{Event}
use Rattle.node_rules.specs.declared.event.Event.TheVariants as event
use Rattle.node_rules.specs.declared.reply.Begin.{Begin}
use Rattle.node_rules.specs.declared.reply.Reply.{Reply}
use Rattle.node_rules.specs.declared.reply.StepFault.{StepFault}
use Rattle.node_rules.specs.State.{serial_of}
use Rattle.node_rules.proofs.Cases.{branches, true_not_false, same_Some}
use Rattle.node_rules.proofs.Pendings.{all_mapped, contained}
use Rattle.world_rules.specs.World.{Waiting, Answered, is_waiting_as, asked_before, waits_now, reply_in}
use Rattle.world_rules.specs.Asked.{Asks, block_begun, IsAskAfter, AnswersAsks}
use Rattle.world_rules.specs.Sources.{IsKept, NodeHasAsks}
use Rattle.world_rules.proofs.MemberStates.{same_id, other_id, ids_same}

abbrev answered_by : Option Waiting → Option Answered
answered_by o = option_map (λ (w : Waiting). record { serial = w.serial; key = w.key }) o

-- one that is another's or has another block is passed over
passed_over : (w : Waiting) (waiting : List Waiting) (id block : ℕ) → is_waiting_as id block w ≡ false →
    asked_before (w ∷ waiting) id block ≡ asked_before waiting id block
passed_over w waiting id block other = ap (λ b. answered_by (cond b (Some w) (find (is_waiting_as id block) waiting))) other

-- one of the node and the block is found first
found_first : (w : Waiting) (waiting : List Waiting) (id block : ℕ) → is_waiting_as id block w ≡ true →
    asked_before (w ∷ waiting) id block ≡ Some record { serial = w.serial; key = w.key }
found_first w waiting id block this = ap (λ b. answered_by (cond b (Some w) (find (is_waiting_as id block) waiting))) this

both : (a b : Bool) → a ≡ true → b ≡ true → (a && b) ≡ true
both a b h i = cc

not_second : (a b : Bool) → b ≡ false → (a && b) ≡ false
not_second true b h = h
not_second false b h = refl

not_first : (a b : Bool) → a ≡ false → (a && b) ≡ false
not_first a b h = cc

-- A member's node takes a step

module _ (waiting : List Waiting) (id serial : ℕ) where
  -- what waited as another block still does
  still_asked : (e : Event ℕ) (o : Option Begin) (block : ℕ) →
      ((asker : Option ℕ) (ask : Ask) → Asks e asker ask → (begun : ℕ) → block_begun o ≡ Some begun → block ≢ begun) →
      asked_before (waits_now id e serial o ++ waiting) id block ≡ asked_before waiting id block
  still_asked (event.PeerAsk asker ask now) None block apart = refl
  still_asked (event.PeerAsk asker ask now) (Some b) block apart =
      passed_over _ waiting id block
      (not_second (nat_eq id id) (nat_eq (serial_of b / 32) block)
      (other_id (serial_of b / 32) block (λ same. apart (Some asker) ask (refl, refl) (serial_of b / 32) refl (sym same))))
  still_asked (event.Client ask now) o block apart = refl
  still_asked (event.Datagram from m now) o block apart = refl
  still_asked (event.PeerAnswer answered peer key answer tag now) o block apart = refl
  still_asked (event.OriginAnswer answered key answer now) o block apart = refl
  still_asked (event.ForeignAnswer answered peer key answer tag now) o block apart = refl
  still_asked (event.FetchFailed answered now) o block apart = refl
  still_asked (event.Expired answered now) o block apart = refl

  -- what waits at another node still does
  others_asked : (e : Event ℕ) (o : Option Begin) (other block : ℕ) → other ≢ id →
      asked_before (waits_now id e serial o ++ waiting) other block ≡ asked_before waiting other block
  others_asked (event.PeerAsk asker ask now) None other block ne = refl
  others_asked (event.PeerAsk asker ask now) (Some b) other block ne =
      passed_over _ waiting other block (not_first (nat_eq id other) (nat_eq (serial_of b / 32) block) (other_id id other (λ same. ne (sym same))))
  others_asked (event.Client ask now) o other block ne = refl
  others_asked (event.Datagram from m now) o other block ne = refl
  others_asked (event.PeerAnswer answered peer key answer tag now) o other block ne = refl
  others_asked (event.OriginAnswer answered key answer now) o other block ne = refl
  others_asked (event.ForeignAnswer answered peer key answer tag now) o other block ne = refl
  others_asked (event.FetchFailed answered now) o other block ne = refl
  others_asked (event.Expired answered now) o other block ne = refl

  -- a request that the event brings waits from now on
  new_kept : (p : Pending ℕ) (asker : ℕ) → p.asker ≡ Some asker → (o : Option Begin) → block_begun o ≡ Some p.block → (e : Event ℕ) → Asks e p.asker p.ask →
      (a : Answered) × (asked_before (waits_now id e serial o ++ waiting) id p.block ≡ Some a) × (a.key ≡ p.ask.key)
  new_kept p asker is None begins e asks_it = absurd (none-some p.block begins)
  new_kept p asker is (Some b) begins (event.PeerAsk member ask now) asks_it = (
    record { serial = serial; key = ask.key },
    found_first _ waiting id p.block
        (both (nat_eq id id) (nat_eq (serial_of b / 32) p.block) (same_id id)
        (subst (λ n. nat_eq (serial_of b / 32) n ≡ true) (same_Some (serial_of b / 32) p.block begins) (same_id (serial_of b / 32)))),
    ap (λ (a : Ask). a.key) (sym asks_it.1),
  )
  new_kept p asker is (Some b) begins (event.Client ask now) asks_it = absurd (none-some asker (sym asks_it.0 ∙ is))
  new_kept p asker is (Some b) begins _ asks_it = absurd asks_it

module _ (waiting : List Waiting) (id : ℕ) (s : NodeState ℕ) (e : Event ℕ) (serial : ℕ) (outcome : Result (Reply ℕ) StepFault) (next : NodeState ℕ) where
  abbrev Now : List Waiting
  Now = waits_now id e serial (reply_in outcome).begin ++ waiting

  module _ (asks : NodeHasAsks waiting id s) (answers : AnswersAsks s e outcome next) where
    one_kept : (p : Pending ℕ) → IsAskAfter s e outcome p → IsKept Now id p
    one_kept p after asker is = elim after [
      | inl old ↦
          (let was : (a : Answered) × (asked_before waiting id old.was.block ≡ Some a) × (a.key ≡ old.was.ask.key) =
          contained (IsKept waiting id) s.pending old.was asks.kept old.waits asker (old.asker_same ∙ is) in
          let apart : (asker : Option ℕ) (ask : Ask) → Asks e asker ask → (begun : ℕ) → block_begun (reply_in outcome).begin ≡ Some begun →
          old.was.block ≢ begun =
          λ asker ask asked begun begins. contained (λ (q : Pending ℕ). q.block ≢ begun) s.pending old.was (answers.fresh asker ask asked begun begins)
          old.waits in (
            was.0,
            ap (asked_before Now id) (sym old.block_same)
                ∙ still_asked waiting id serial e (reply_in outcome).begin old.was.block apart ∙ was.1,
            was.2 ∙ ap (λ (a : Ask). a.key) old.ask_same,
          ))
      | inr new ↦ new_kept waiting id serial p asker is (reply_in outcome).begin new.0 e new.1
    ]

    pub asks_after : NodeHasAsks Now id next
    asks_after = record { kept = all_mapped (IsAskAfter s e outcome) (IsKept Now id) one_kept next.pending answers.asks }

  -- those at another node stay
  pub others_after : (other : ℕ) (t : NodeState ℕ) → other ≢ id → NodeHasAsks waiting other t → NodeHasAsks Now other t
  others_after other t ne asks = record {
    kept = all_mapped (IsKept waiting other) (IsKept Now other)
        (λ p kept asker is. (let was = kept asker is in (
          was.0,
          others_asked waiting id serial e (reply_in outcome).begin other p.block ne ∙ was.1,
          was.2,
        ))) t.pending asks.kept;
  }

-- A member's node fails or restarts

module _ (id : ℕ) where
  others_only : List Waiting → List Waiting
  others_only waiting = filter (λ (x : Waiting). not (nat_eq x.node id)) waiting

  stays_found : (other block : ℕ) → other ≢ id → (waiting : List Waiting) → find (is_waiting_as other block)
      (filter (λ (x : Waiting). not (nat_eq x.node id)) waiting) ≡ find (is_waiting_as other block) waiting
  stays_found other block ne [] = refl
  stays_found other block ne (x ∷ waiting) =
      branches (λ (xs : List Waiting). find (is_waiting_as other block) xs ≡ find (is_waiting_as other block) (x ∷ waiting)) (not (nat_eq x.node id))
      (x ∷ filter (λ (x : Waiting). not (nat_eq x.node id)) waiting) (filter (λ (x : Waiting). not (nat_eq x.node id)) waiting)
      (λ _. ap (cond (is_waiting_as other block x) (Some x)) (stays_found other block ne waiting))
      (λ gone. stays_found other block ne waiting
      ∙ sym (ap (λ b. cond (b && nat_eq x.block block) (Some x) (find (is_waiting_as other block) waiting))
      (other_id x.node other (λ e. ne (sym e ∙ ids_same x.node id (was_true (nat_eq x.node id) gone))))))
    where
      was_true : (b : Bool) → not b ≡ false → b ≡ true
      was_true true h = refl
      was_true false h = absurd (true_not_false h)

  -- those at another node stay
  pub others_restart : (waiting : List Waiting) (other : ℕ) (t : NodeState ℕ) → other ≢ id → NodeHasAsks waiting other t →
      NodeHasAsks (filter (λ (x : Waiting). not (nat_eq x.node id)) waiting) other t
  others_restart waiting other t ne asks = record {
    kept = all_mapped (IsKept waiting other) (IsKept (filter (λ (x : Waiting). not (nat_eq x.node id)) waiting) other)
        (λ p kept asker is. (let was = kept asker is in (
          was.0,
          ap (λ (o : Option Waiting). option_map (λ (w : Waiting). record { serial = w.serial; key = w.key }) o)
              (stays_found other p.block ne waiting) ∙ was.1,
          was.2,
        ))) t.pending asks.kept;
  }

  -- those at the node itself are gone
  pub own_restart : (waiting : List Waiting) (t : NodeState ℕ) → t.pending ≡ [] → NodeHasAsks (filter (λ (x : Waiting). not (nat_eq x.node id)) waiting) id t
  own_restart waiting t empty = record {
    kept = subst (λ pending. AllByRecursion (IsKept (filter (λ (x : Waiting). not (nat_eq x.node id)) waiting) id) pending) (sym empty) tt;
  }
