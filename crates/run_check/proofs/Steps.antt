-- A step of a node over floors in memory. Its store never fails, so without want of memory it is
-- the function's step; a copy of an event is equal to it; and after it the store has the floors.
use Rattle.std.proofs.Common.{◌≡◌, ◌≢◌, ℕ, List, Option, true, false, refl, sym, ◌∙◌, ap, Result, Ok, Err, inl, inr, arith}
use Rattle.floor_rules.specs.Floors.{FloorTable}
use Rattle.floor_rules.specs.Store.{HaveRisen}
use Rattle.values_tables.specs.declared.plain.Tables.{Tables}
use Rattle.values_keys.specs.KeyOf.{GivesKeys, key_of}
use Rattle.values_keys.proofs.Outcomes.{gives_keys}
use Rattle.node_rules.specs.declared.state.NodeState.{NodeState}
use Rattle.node_rules.specs.declared.event.Event.{Event}
use Rattle.node_rules.specs.declared.reply.Reply.{Reply}
use Rattle.node_rules.specs.declared.reply.StepFault.{StepFault}
use Rattle.node_rules.specs.declared.reply.StepFault.TheVariants as fault
use Rattle.node_rules.specs.State.{Setting, setting}
use Rattle.node_rules.specs.Relation.{Steps}
use Rattle.node_rules.specs.Step.{step}
use Rattle.node_rules.proofs.Stepping.{the_function_closes_no_node}
use Rattle.node_book.specs.declared.book.NodeEntry.{NodeEntry}
use Rattle.node_core.specs.Closing.{FailsWithCause}
use Rattle.node_core.specs.View.{NodeText, IsSameMember, IsTied, setting_of}
use Rattle.run_rules.specs.declared.verdict.Cause.TheVariants as cause
use Rattle.run_rules.specs.Board.{Open}
use Rattle.run_rules.specs.Judging.{StepsBy}
use Rattle.run_check.specs.Held.{IsMemberNode}

abbrev NodeHere : Type 0
NodeHere = NodeText (Unit {0}) FloorTable

abbrev Outcome : Type 0
Outcome = Result (Reply (Unit {0})) StepFault

-- if neither memory nor the store fails, the step is the function's
by_function : {X : Type 0} (g : Setting) (s : NodeState X) (e : Event X) (mark : X) (outcome : Result (Reply X) StepFault) (next : NodeState X) →
    outcome ≢ Err fault.NoMemory → outcome ≢ Err fault.StoreFault → Steps g s e mark outcome next → step g s e mark ≡ record { state = next; outcome = outcome }
by_function g s e mark (Ok reply) next memory store steps = steps
by_function g s e mark (Err fault.NoMemory) next memory store steps = absurd (memory refl)
by_function g s e mark (Err fault.StoreFault) next memory store steps = absurd (store refl)
by_function g s e mark (Err fault.Closed) next memory store steps = steps
by_function g s e mark (Err fault.UnknownSerial) next memory store steps = steps
by_function g s e mark (Err fault.Busy) next memory store steps = steps

-- floors in memory never fail
never_fails : (outcome : Outcome) → FailsWithCause (Unit {0}) (HaveRisen 0 0) outcome → outcome ≢ Err fault.StoreFault
never_fails outcome cause is = elim (cause is tt) [ inl less ↦ absurd (omega arith) | inr most ↦ absurd (omega arith) ]

same_setting : (roster : Tables) (id : ℕ) (n : NodeHere) → IsMemberNode roster id n → setting_of n key_of ≡ setting roster id
same_setting roster id n of_member =
    ap (λ t. setting t n.id) of_member.roster ∙ ap (λ i. setting roster i) of_member.id

-- the node has taken the step that is defined
stepped : (roster : Tables) (id : ℕ) (before after : NodeHere) (e : Event (Unit {0})) (outcome : Outcome) → IsMemberNode roster id before →
    FailsWithCause (Unit {0}) (HaveRisen 0 0) outcome →
    ((key_of : List ℕ → Option (List ℕ)) → GivesKeys key_of → Steps (setting_of before key_of) before.state e tt outcome after.state) →
    outcome ≢ Err fault.NoMemory →
    step (setting roster id) before.state e tt ≡ record { state = after.state; outcome = outcome }
stepped roster id before after e outcome of_member cause steps memory =
    ap (λ g. step g before.state e tt) (sym (same_setting roster id before of_member))
    ∙ by_function (setting_of before key_of) before.state e tt outcome after.state memory (never_fails outcome cause) (steps key_of gives_keys)

-- also if the event that it took is a copy
pub copy_stepped : (roster : Tables) (id : ℕ) (before after : NodeHere) (e copy : Event (Unit {0})) (outcome : Outcome) → copy ≡ e →
    IsMemberNode roster id before → FailsWithCause (Unit {0}) (HaveRisen 0 0) outcome →
    ((key_of : List ℕ → Option (List ℕ)) → GivesKeys key_of → Steps (setting_of before key_of) before.state copy tt outcome after.state) →
    outcome ≢ Err fault.NoMemory →
    step (setting roster id) before.state e tt ≡ record { state = after.state; outcome = outcome }
copy_stepped roster id before after e copy outcome same of_member cause steps memory =
    ap (λ x. step (setting roster id) before.state x tt) (sym same) ∙ stepped roster id before after copy outcome of_member cause steps memory

-- the node is open after it, and its store has its floors
pub member_node_after : (roster : Tables) (id : ℕ) (before after : NodeHere) (e : Event (Unit {0})) (outcome : Outcome) → IsMemberNode roster id before →
    IsSameMember before after →
    step (setting roster id) before.state e tt ≡ record { state = after.state; outcome = outcome } →
    IsTied after.state.closed after.state.floors true (Unit {0}) after.store → IsMemberNode roster id after
member_node_after roster id before after e outcome of_member same is tied =
    let still : after.state.closed ≡ false = sym (ap (λ r. r.state.closed) is) ∙ the_function_closes_no_node (setting roster id) before.state e tt
    ∙ of_member.is_open in
    record {
      roster = same.roster ∙ of_member.roster;
      id = same.id ∙ of_member.id;
      is_open = still;
      stored = (tied still).1 tt;
    }

pub steps_so : (roster : Tables) (id : ℕ) (before after : NodeHere) (e : NodeEntry) (outcome : Outcome) →
    step (setting roster id) before.state e.event tt ≡ record { state = after.state; outcome = outcome } → outcome ≡ e.outcome →
    StepsBy (setting roster id) before.state e (Ok (Open after.state))
steps_so roster id before after e outcome is same = inl (after.state, is ∙ ap (λ o. record { state = after.state; outcome = o }) same, refl)

pub steps_otherwise : (roster : Tables) (id : ℕ) (before after : NodeHere) (e : NodeEntry) (outcome : Outcome) →
    step (setting roster id) before.state e.event tt ≡ record { state = after.state; outcome = outcome } → (outcome ≡ e.outcome → ⊥) →
    StepsBy (setting roster id) before.state e (Err cause.OtherReply)
steps_otherwise roster id before after e outcome is other = inr (λ same. other (sym (ap (λ r. r.outcome) is) ∙ same), refl)
