-- Every step is lawful. The function's outcome follows from its effect, by cases; a fault that
-- closes the node, from the floors that it leaves.
use Rattle.std.proofs.Common.{◌≡◌, ℕ, ◌≤◌, max, false, List, [], Option, Some, None, Result, Ok, Err, refl, sym, ◌∙◌, ap, subst, ◌⊎◌, inl, inr, arith}
use Rattle.std.specs.List.{AllByRecursion, Contains}
use Rattle.std.proofs.lemmas.Option.{none-some}
use Rattle.object_store.specs.declared.copy.WebCopy.{WebCopy}
use Rattle.node_rules.specs.declared.state.NodeState.{NodeState}
use Rattle.node_rules.specs.declared.event.Event.{Event}
use Rattle.node_rules.specs.declared.reply.Reply.{Reply}
use Rattle.node_rules.specs.declared.reply.StepFault.{StepFault}
use Rattle.node_rules.specs.declared.reply.StepFault.TheVariants as fault
use Rattle.floor_rules.specs.Floors.{FloorTable, floor, seen, raised, with_base}
use Rattle.node_rules.specs.declared.raising.Raise.{Raise}
use Rattle.node_rules.specs.declared.raising.Raise.TheVariants.{Floor, Base}
use Rattle.node_rules.specs.Raises.{number_of, raised_by}
use Rattle.object_store.specs.Copy.{is_of}
use Rattle.object_store.specs.Listed.{copy_of, without_below}
use Rattle.node_rules.specs.State.{Setting, Stepped}
use Rattle.node_rules.specs.Step.{step}
use Rattle.node_rules.specs.Relation.{Steps, Closes, ClosesOn, raise_in}
use Rattle.node_rules.specs.Effect.{copy_served, ServesBareStatus, IsOwnFault, sent, IsObedient, IsReadOf, Keeps, Effect, Stays, Serves, Brings}
use Rattle.node_rules.specs.Effect.{Purges, Rebases, Drops}
use Rattle.node_rules.specs.Lawful.{number_of_raise, LiftsBase, KeepsBase, HasOrGets, Lawful}
use Rattle.node_rules.proofs.Cases.{same_Some}
use Rattle.node_rules.proofs.Pendings.{all_mapped, all_contained, all_under_way, still_reads, found_passes}
use Rattle.node_rules.proofs.Stores.{found, all_kept, all_to_front, all_stored}
use Rattle.node_rules.proofs.FloorLaws.{same_text, seen-raise, seen-rebase, raise_base}
use Rattle.node_rules.proofs.Effects.{step_does}
use Rattle.node_rules.proofs.Stepping.{steps_case, floors_never_fall, closing_closes}
use Rattle.node_rules.proofs.Questions.{sibling_begins_nothing}
use Rattle.node_rules.proofs.Outside.{outside_serves_nothing}

-- A copy that is found

copy_key : {X : Type 0} (key : List ℕ) (copies : List (WebCopy X)) (c : WebCopy X) → copy_of key copies ≡ Some c → c.key ≡ key
copy_key key copies c e = same_text c.key key (found_passes (is_of key) copies c e)

-- The facts, effect by effect

module _ {X : Type 0} (g : Setting) (s : NodeState X) (e : Event X) (mark : X) where
  has_held : s.closed ≡ false → AllByRecursion (HasOrGets s e) s.copies
  has_held is_open = all_mapped (Contains s.copies) (HasOrGets s e) (λ c has. (is_open, inl has)) s.copies (all_contained s.copies)

  effect_keeps : (r : Stepped X) → Effect g s e mark r → Keeps g s e mark r
  effect_keeps r (Stays pending next outcome none keeps) = keeps
  effect_keeps r (Serves key c pending next outcome is_open is_in h is keeps) = keeps
  effect_keeps r (Brings c life pending next outcome is_open came h is keeps) = keeps
  effect_keeps r (Purges key n pending next outcome purge none keeps) = keeps
  effect_keeps r (Rebases n pending next outcome raise none keeps) = keeps
  effect_keeps r (Drops key pending next outcome none keeps) = keeps

  effect_seen : (r : Stepped X) → Effect g s e mark r → seen r.state.floors ≤ max (seen s.floors) (number_of_raise (raise_in g e))
  effect_seen r (Stays pending next outcome none keeps) = omega arith
  effect_seen r (Serves key c pending next outcome is_open is_in h is keeps) = omega arith
  effect_seen r (Brings c life pending next outcome is_open came h is keeps) = omega arith
  effect_seen r (Purges key n pending next outcome purge none keeps) = subst (λ o. seen (raised s.floors key n) ≤ max (seen s.floors) (number_of_raise o))
      (sym purge) (seen-raise s.floors key n)
  effect_seen r (Rebases n pending next outcome raise none keeps) = subst (λ o. seen (with_base s.floors n) ≤ max (seen s.floors) (number_of_raise o))
      (sym raise) (seen-rebase s.floors n)
  effect_seen r (Drops key pending next outcome none keeps) = omega arith

  effect_base : (r : Stepped X) → Effect g s e mark r → KeepsBase g s e r.state
  effect_base r (Stays pending next outcome none keeps) = inl refl
  effect_base r (Serves key c pending next outcome is_open is_in h is keeps) = inl refl
  effect_base r (Brings c life pending next outcome is_open came h is keeps) = inl refl
  effect_base r (Purges key n pending next outcome purge none keeps) =
      subst (λ o. ((raised s.floors key n).base ≡ s.floors.base) ⊎ LiftsBase o s.floors.base (raised s.floors key n).base) (sym purge)
      (raise_base s.floors key n)
  effect_base r (Rebases n pending next outcome raise none keeps) =
      inr (subst (λ o. LiftsBase o s.floors.base (with_base s.floors n).base) (sym raise) (omega arith, omega arith))
  effect_base r (Drops key pending next outcome none keeps) = inl refl

  effect_held : (r : Stepped X) → Effect g s e mark r → r.state.closed ≡ false → AllByRecursion (HasOrGets s e) r.state.copies
  effect_held r (Stays pending next outcome none keeps) is_open = has_held is_open
  effect_held r (Serves key c pending next outcome was_open is_in h is keeps) is_open = all_to_front (HasOrGets s e) key s.copies (has_held is_open)
  effect_held r (Brings c life pending next outcome was_open came h is keeps) is_open = all_stored (HasOrGets s e) g.roster.limits c life s.copies
      (is_open, inr came) (has_held is_open)
  effect_held r (Purges key n pending next outcome purge none keeps) is_open =
      all_kept (HasOrGets s e) _ (without_below key n s.copies) (all_kept (HasOrGets s e) _ s.copies (has_held is_open))
  effect_held r (Rebases n pending next outcome raise none keeps) is_open = all_kept (HasOrGets s e) _ s.copies (has_held is_open)
  effect_held r (Drops key pending next outcome none keeps) is_open = all_kept (HasOrGets s e) _ s.copies (has_held is_open)

  effect_serves : (r : Stepped X) → Effect g s e mark r → (c : WebCopy X) → copy_served r.outcome ≡ Some c → HasOrGets s e c
  effect_serves r (Stays pending next outcome none keeps) c is = absurd (none-some c (sym none ∙ is))
  effect_serves r (Serves key d pending next outcome is_open is_in h e keeps) c is = subst (HasOrGets s _) (same_Some d c (sym e ∙ is))
      (found (HasOrGets s _) (is_of key) s.copies d (has_held is_open) h.0)
  effect_serves r (Brings d life pending next outcome is_open came h e keeps) c is = subst (HasOrGets s _) (same_Some d c (sym e ∙ is)) (is_open, inr came)
  effect_serves r (Purges key n pending next outcome purge none keeps) c is = absurd (none-some c (sym none ∙ is))
  effect_serves r (Rebases n pending next outcome raise none keeps) c is = absurd (none-some c (sym none ∙ is))
  effect_serves r (Drops key pending next outcome none keeps) c is = absurd (none-some c (sym none ∙ is))

  effect_current : (r : Stepped X) → Effect g s e mark r → (c : WebCopy X) → copy_served r.outcome ≡ Some c → floor r.state.floors c.key ≤ c.stamp
  effect_current r (Stays pending next outcome none keeps) c is = absurd (none-some c (sym none ∙ is))
  effect_current r (Serves key d pending next outcome is_open is_in h e keeps) c is =
      subst (λ (d : WebCopy X). floor s.floors d.key ≤ d.stamp) (same_Some d c (sym e ∙ is))
      (subst (λ u. floor s.floors u ≤ d.stamp) (sym (copy_key key s.copies d h.0)) h.1)
  effect_current r (Brings d life pending next outcome is_open came h e keeps) c is = subst (λ (d : WebCopy X). floor s.floors d.key ≤ d.stamp)
      (same_Some d c (sym e ∙ is)) h
  effect_current r (Purges key n pending next outcome purge none keeps) c is = absurd (none-some c (sym none ∙ is))
  effect_current r (Rebases n pending next outcome raise none keeps) c is = absurd (none-some c (sym none ∙ is))
  effect_current r (Drops key pending next outcome none keeps) c is = absurd (none-some c (sym none ∙ is))

  -- Closing faults

  -- a raise brings the greatest floor to its number at most
  seen-raised_by : (raise : Raise) (floors : FloorTable) → seen (raised_by raise floors) ≤ max (seen floors) (number_of raise)
  seen-raised_by (Floor key n) floors = seen-raise floors key n
  seen-raised_by (Base n) floors = seen-rebase floors n

  -- and leaves the base, or lifts it
  base_raised_by : (raise : Raise) (floors : FloorTable) →
      ((raised_by raise floors).base ≡ floors.base) ⊎ LiftsBase (Some raise) floors.base (raised_by raise floors).base
  base_raised_by (Floor key n) floors = raise_base floors key n
  base_raised_by (Base n) floors = inr (omega arith, omega arith)

  closed_on_seen : (o : Option Raise) (next : NodeState X) → ClosesOn s o next → seen next.floors ≤ max (seen s.floors) (number_of_raise o)
  closed_on_seen None next h = absurd h
  closed_on_seen (Some raise) next h = elim h.floors [
    | inl same ↦ subst (λ rows. seen rows ≤ max (seen s.floors) (number_of raise)) (sym same) (omega arith)
    | inr after ↦ subst (λ rows. seen rows ≤ max (seen s.floors) (number_of raise)) (sym after) (seen-raised_by raise s.floors)
  ]

  closed_on_base : (o : Option Raise) (next : NodeState X) → ClosesOn s o next →
      (next.floors.base ≡ s.floors.base) ⊎ LiftsBase o s.floors.base next.floors.base
  closed_on_base None next h = absurd h
  closed_on_base (Some raise) next h = elim h.floors [
    | inl same ↦ inl (ap (λ (rows : FloorTable). rows.base) same)
    | inr after ↦ subst (λ (rows : FloorTable). (rows.base ≡ s.floors.base) ⊎ LiftsBase (Some raise) s.floors.base rows.base) (sym after)
        (base_raised_by raise s.floors)
  ]

  closed_on_pending : (o : Option Raise) (next : NodeState X) → ClosesOn s o next → next.pending ≡ []
  closed_on_pending None next h = absurd h
  closed_on_pending (Some raise) next h = h.pending

  closes_reads : (next : NodeState X) (f : StepFault) → Closes g s e next → AllByRecursion (IsReadOf s mark (Err f)) next.pending
  closes_reads next f h = subst (λ pending. AllByRecursion (IsReadOf s mark (Err f)) pending) (sym (closed_on_pending (raise_in g e) next h.1)) tt

  -- The whole relation

  module _ (outcome : Result (Reply X) StepFault) (next : NodeState X) (steps : Steps g s e mark outcome next) where
    keeps : Keeps g s e mark (step g s e mark)
    keeps = effect_keeps (step g s e mark) (step_does g s mark e)

    -- Each field holds of the function's outcome by its effect, and of a fault by the floors that it leaves.
    pub steps_are_lawful : Lawful g s e mark outcome next
    steps_are_lawful = record {
      floors = λ key. floors_never_fall g s e mark outcome next key steps;
      base = steps_case g s e mark (λ r. KeepsBase g s e r.state) (effect_base _ (step_does g s mark e)) (inl refl)
          (λ n f h. closed_on_base (raise_in g e) n h.1) outcome next steps;
      seen_bound = steps_case g s e mark (λ r. seen r.state.floors ≤ max (seen s.floors) (number_of_raise (raise_in g e)))
          (effect_seen _ (step_does g s mark e)) (omega arith) (λ n f h. closed_on_seen (raise_in g e) n h.1) outcome next steps;
      held = steps_case g s e mark (λ r. r.state.closed ≡ false → AllByRecursion (HasOrGets s e) r.state.copies)
          (effect_held _ (step_does g s mark e)) has_held (λ n f h is_open. absurd (closing_closes g s e mark (raise_in g e) n h.1 is_open)) outcome next steps;
      reads = steps_case g s e mark (λ r. AllByRecursion (IsReadOf s mark r.outcome) r.state.pending) keeps.reads
          (still_reads s mark _ s.pending (all_under_way s)) closes_reads outcome next steps;
      serves = steps_case g s e mark (λ r. (c : WebCopy X) → copy_served r.outcome ≡ Some c → HasOrGets s e c)
          (effect_serves _ (step_does g s mark e)) (λ c is. absurd (none-some c is)) (λ n f h c is. absurd (none-some c is)) outcome next steps;
      current = steps_case g s e mark (λ r. (c : WebCopy X) → copy_served r.outcome ≡ Some c → floor r.state.floors c.key ≤ c.stamp)
          (effect_current _ (step_does g s mark e)) (λ c is. absurd (none-some c is)) (λ n f h c is. absurd (none-some c is)) outcome next steps;
      statuses = steps_case g s e mark (λ r. ServesBareStatus r.outcome) keeps.statuses tt (λ n f h. tt) outcome next steps;
      acknowledges = steps_case g s e mark (λ r. AllByRecursion (IsObedient g e r.state.floors) (sent r.outcome)) keeps.acknowledges tt (λ n f h. tt) outcome
          next steps;
      siblings = λ asks. sibling_begins_nothing g s e mark outcome next asks steps;
      outside = λ is_out none. outside_serves_nothing g s is_out none e mark outcome next steps;
    }

-- The function is one way to step

own_steps : {X : Type 0} (g : Setting) (s : NodeState X) (e : Event X) (mark : X) (outcome : Result (Reply X) StepFault) → (step g s e mark).outcome ≡ outcome →
    IsOwnFault outcome → Steps g s e mark outcome (step g s e mark).state
own_steps g s e mark (Ok reply) same plain = ap (λ o. record { state = (step g s e mark).state; outcome = o }) same
own_steps g s e mark (Err fault.Closed) same plain = ap (λ o. record { state = (step g s e mark).state; outcome = o }) same
own_steps g s e mark (Err fault.UnknownSerial) same plain = ap (λ o. record { state = (step g s e mark).state; outcome = o }) same
own_steps g s e mark (Err fault.Busy) same plain = ap (λ o. record { state = (step g s e mark).state; outcome = o }) same
own_steps g s e mark (Err fault.StoreFault) same plain = absurd plain
own_steps g s e mark (Err fault.NoMemory) same plain = absurd plain

pub step_steps : {X : Type 0} (g : Setting) (s : NodeState X) (e : Event X) (mark : X) → Steps g s e mark (step g s e mark).outcome (step g s e mark).state
step_steps g s e mark = own_steps g s e mark (step g s e mark).outcome refl (effect_keeps g s e mark (step g s e mark) (step_does g s mark e)).faults
