-- There is one judgement on a note: each way to it excludes the others, case by case.
use Rattle.std.proofs.Common.{◌≡◌, ◌⊎◌, ℕ, Bool, Result, Ok, Err, sym, ◌∙◌, ap, inl, inr}
use Rattle.floor_rules.specs.Floors.{FloorTable}
use Rattle.values_tables.specs.declared.plain.Tables.{Tables}
use Rattle.node_rules.specs.declared.state.NodeState.{NodeState}
use Rattle.node_rules.specs.declared.reply.Reply.{Reply}
use Rattle.node_rules.specs.declared.reply.StepFault.{StepFault}
use Rattle.node_rules.specs.declared.reply.StepFault.TheVariants as fault
use Rattle.node_rules.specs.State.{Setting, Stepped, setting}
use Rattle.node_book.specs.declared.book.NodeEntry.{NodeEntry}
use Rattle.purge_rules.specs.declared.calls.MasterAnswer.{MasterAnswer}
use Rattle.purge_rules.specs.declared.fault.MasterFault.{MasterFault}
use Rattle.purge_rules.specs.declared.fault.MasterFault.TheVariants as master_fault
use Rattle.purge_rules.specs.declared.nodes.Nodes.{Nodes}
use Rattle.purge_rules.specs.Needed.{nodes_of}
use Rattle.purge_rules.specs.Calls.{MasterState, Called}
use Rattle.purge_master.specs.declared.book.MasterEntry.{MasterEntry}
use Rattle.run_rules.specs.declared.verdict.Cause.{Cause}
use Rattle.run_rules.specs.Notes.{Note, Opens, Steps, Closes, Calls}
use Rattle.run_rules.specs.Board.{Standing, New, Open, Shut, Astray, Board, standing_at}
use Rattle.run_rules.specs.Judging.{Judgement, Fine, Flawed, StepsBy, OpenStepsBy, StepsSo, judged, JudgesEntry, CallsBy, JudgesCall, after_call, Judges}
use Rattle.run_rules.specs.First.{JudgesFully}

pub fine_flawed : {A : Type 0} (b : Board) (cause : Cause) → Fine b ≡ Flawed cause → A
fine_flawed b cause is = cc

pub same_fine : (b c : Board) → Fine b ≡ Fine c → b ≡ c
same_fine b c is = cc

pub same_flawed : (b c : Cause) → Flawed b ≡ Flawed c → b ≡ c
same_flawed b c is = cc

-- one value if something holds, and another if not
module _ (P : Type 0) (x y : Judgement) where
  abbrev Choice : Judgement → Type 0
  Choice j = (P × (j ≡ x)) ⊎ ((P → ⊥) × (j ≡ y))

  chosen_once : (j k : Judgement) → Choice j → Choice k → j ≡ k
  chosen_once j k (inl (holds, is)) (inl (still, its)) = is ∙ sym its
  chosen_once j k (inl (holds, is)) (inr (not, its)) = absurd (not holds)
  chosen_once j k (inr (not, is)) (inl (holds, its)) = absurd (not holds)
  chosen_once j k (inr (not, is)) (inr (still, its)) = is ∙ sym its

-- An entry of a node

module _ (g : Setting) (s : NodeState (Unit {0})) (e : NodeEntry) where
  by_once : (q r : Result Standing Cause) → StepsBy g s e q → StepsBy g s e r → q ≡ r
  by_once q r (inl (next, steps, is)) (inl (other, also, its)) =
      is ∙ ap (λ (t : Stepped (Unit {0})). Ok (Open t.state)) (sym steps ∙ also) ∙ sym its
  by_once q r (inl (next, steps, is)) (inr (differs, its)) = absurd (differs (ap (λ (t : Stepped (Unit {0})). t.outcome) steps))
  by_once q r (inr (differs, is)) (inl (next, steps, its)) = absurd (differs (ap (λ (t : Stepped (Unit {0})). t.outcome) steps))
  by_once q r (inr (differs, is)) (inr (also, its)) = is ∙ sym its

  open_once : (is_closed : Bool) (kept : FloorTable) (o : Result (Reply (Unit {0})) StepFault) (q r : Result Standing Cause) →
      OpenStepsBy g s e is_closed kept o q → OpenStepsBy g s e is_closed kept o r → q ≡ r
  open_once is_closed kept (Err fault.NoMemory) q r is its = is ∙ sym its
  open_once is_closed kept (Err fault.StoreFault) q r is its = is ∙ sym its
  open_once is_closed kept (Err fault.Closed) q r is its = by_once q r is its
  open_once is_closed kept (Err fault.UnknownSerial) q r is its = by_once q r is its
  open_once is_closed kept (Err fault.Busy) q r is its = by_once q r is its
  open_once is_closed kept (Ok reply) q r (inl (reaches, is)) (inl (still, its)) = by_once q r is its
  open_once is_closed kept (Ok reply) q r (inl (reaches, is)) (inr (not, its)) = absurd (not reaches)
  open_once is_closed kept (Ok reply) q r (inr (not, is)) (inl (reaches, its)) = absurd (not reaches)
  open_once is_closed kept (Ok reply) q r (inr (not, is)) (inr (still, its)) = is ∙ sym its

steps_once : (g : Setting) (st : Standing) (e : NodeEntry) (is_closed : Bool) (kept : FloorTable) (q r : Result Standing Cause) →
    StepsSo g st e is_closed kept q → StepsSo g st e is_closed kept r → q ≡ r
steps_once g New e is_closed kept q r is its = is ∙ sym its
steps_once g (Open s) e is_closed kept q r is its = open_once g s e is_closed kept e.outcome q r is its
steps_once g (Shut left) e is_closed kept q r is its = is ∙ sym its
steps_once g Astray e is_closed kept q r is its = is ∙ sym its

entry_once : (roster : Tables) (b : Board) (id : ℕ) (e : NodeEntry) (is_closed : Bool) (kept : FloorTable) (j k : Judgement) →
    JudgesEntry roster b id e is_closed kept j → JudgesEntry roster b id e is_closed kept k → j ≡ k
entry_once roster b id e is_closed kept j k (inl (heard, q, steps, is)) (inl (still, r, also, its)) =
    is ∙ ap (judged roster b id e) (steps_once (setting roster id) (standing_at b.posts id) e is_closed kept q r steps also) ∙ sym its
entry_once roster b id e is_closed kept j k (inl (heard, q, steps, is)) (inr (unheard, its)) = absurd (unheard heard)
entry_once roster b id e is_closed kept j k (inr (unheard, is)) (inl (heard, r, steps, its)) = absurd (unheard heard)
entry_once roster b id e is_closed kept j k (inr (unheard, is)) (inr (still, its)) = is ∙ sym its

-- An entry of the master

module _ (nodes : Nodes) (m : MasterState) (e : MasterEntry) (is_closed : Bool) (a b : MasterState) where
  by_call : (answer : Result MasterAnswer MasterFault) (c : Called) → c ≡ record { state = a; outcome = answer } →
      c ≡ record { state = b; outcome = answer } → a ≡ b
  by_call answer c is its = ap (λ (d : Called). d.state) (sym is ∙ its)

  calls_once : (answer : Result MasterAnswer MasterFault) → CallsBy nodes m e is_closed answer a → CallsBy nodes m e is_closed answer b → a ≡ b
  calls_once (Err master_fault.NoMemory) is its = is.2 ∙ sym its.2
  calls_once (Err master_fault.StoreFault) is its = is.2 ∙ sym its.2
  calls_once (Err master_fault.Closed) is its = by_call (Err master_fault.Closed) _ is its
  calls_once (Err master_fault.ShiftFull) is its = by_call (Err master_fault.ShiftFull) _ is its
  calls_once (Err master_fault.NumbersSpent) is its = by_call (Err master_fault.NumbersSpent) _ is its
  calls_once (Err master_fault.NotJoining) is its = by_call (Err master_fault.NotJoining) _ is its
  calls_once (Err master_fault.TooManyPending) is its = by_call (Err master_fault.TooManyPending) _ is its
  calls_once (Ok answer) is its = by_call (Ok answer) _ is its

call_once : (roster : Tables) (b : Board) (e : MasterEntry) (is_closed : Bool) (j k : Judgement) →
    JudgesCall roster b e is_closed j → JudgesCall roster b e is_closed k → j ≡ k
call_once roster b e is_closed j k (inl (sent, key, next, calls, is)) (inl (still, its_key, other, also, its)) =
    is ∙ ap (λ m. Fine (after_call roster b e m)) (calls_once (nodes_of roster) b.master e is_closed next other e.answer calls also) ∙ sym its
call_once roster b e is_closed j k (inl (sent, key, next, calls, is)) (inr (inl (still, none, its))) = absurd (none next calls)
call_once roster b e is_closed j k (inl (sent, key, next, calls, is)) (inr (inr (unsent, its))) = absurd (unsent sent)
call_once roster b e is_closed j k (inr (inl (sent, none, is))) (inl (still, key, next, calls, its)) = absurd (none next calls)
call_once roster b e is_closed j k (inr (inl (sent, none, is))) (inr (inl (still, also, its))) = is ∙ sym its
call_once roster b e is_closed j k (inr (inl (sent, none, is))) (inr (inr (unsent, its))) = absurd (unsent sent)
call_once roster b e is_closed j k (inr (inr (unsent, is))) (inl (sent, key, next, calls, its)) = absurd (unsent sent)
call_once roster b e is_closed j k (inr (inr (unsent, is))) (inr (inl (sent, none, its))) = absurd (unsent sent)
call_once roster b e is_closed j k (inr (inr (unsent, is))) (inr (inr (still, its))) = is ∙ sym its

-- All notes

judges_once : (roster : Tables) (b : Board) (note : Note) (j k : Judgement) → Judges roster b note j → Judges roster b note k → j ≡ k
judges_once roster b (Opens id state) j k is its = chosen_once _ _ _ j k is its
judges_once roster b (Steps id e is_closed kept) j k is its = entry_once roster b id e is_closed kept j k is its
judges_once roster b (Closes id place state) j k is its = chosen_once _ _ _ j k is its
judges_once roster b (Calls e is_closed) j k is its = call_once roster b e is_closed j k is its

pub judged_once : (roster : Tables) (b : Board) (note : Note) (j k : Judgement) → JudgesFully roster b note j → JudgesFully roster b note k → j ≡ k
judged_once roster b note j k (inl (received, is)) (inl (still, its)) = judges_once roster b note j k is its
judged_once roster b note j k (inl (received, is)) (inr (not, its)) = absurd (not received)
judged_once roster b note j k (inr (not, is)) (inl (received, its)) = absurd (not received)
judged_once roster b note j k (inr (not, is)) (inr (still, its)) = is ∙ sym its
