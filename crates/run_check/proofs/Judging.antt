-- The judgement on a note, by the definitions of run_rules, case by case.
use Rattle.std.proofs.Common.{◌≡◌, ℕ, Bool, true, false, cond, not, ◌&&◌, Result, nat_eq, refl, ◌∙◌, ap, inl, inr, length}
use Rattle.floor_rules.specs.Floors.{FloorTable}
use Rattle.values_tables.specs.declared.plain.Tables.{Tables}
use Rattle.node_rules.specs.declared.state.NodeState.{NodeState}
use Rattle.node_book.specs.declared.book.NodeEntry.{NodeEntry}
use Rattle.purge_master.specs.declared.book.MasterEntry.{MasterEntry}
use Rattle.node_rules.specs.State.{setting}
use Rattle.run_rules.specs.declared.verdict.Cause.{Cause}
use Rattle.run_rules.specs.declared.verdict.Cause.TheVariants.{NotSent}
use Rattle.run_rules.specs.Notes.{Steps, Calls}
use Rattle.run_rules.specs.Sent.{Network, IsSent, IsCallSent, without_waiting}
use Rattle.run_rules.specs.Board.{Standing, New, Open, Shut, Astray, Board, standing_at, with_standing}
use Rattle.run_rules.specs.Judging.{Fine, Flawed, standing_in, JudgesOpening, StepsSo, judged, is_astray}
use Rattle.run_rules.specs.First.{JudgesFully}
use Rattle.run_check.specs.Held.{IsOpened}
use Rattle.run_check.specs.Boards.{opened_network}

-- A record opens

stands_by : (b : Bool) (s state : NodeState (Unit {0})) → is_astray (cond b (Shut s) (Open state)) ≡ false
stands_by true floors state = refl
stands_by false floors state = refl

stands : (s : Standing) (state : NodeState (Unit {0})) → is_astray (standing_in s state) ≡ false
stands New state = refl
stands (Open t) state = refl
stands (Shut s) state = stands_by state.closed s state
stands Astray state = refl

and_true : (b : Bool) → (b && true) ≡ b
and_true true = refl
and_true false = refl

and_false : (b : Bool) → (b && false) ≡ false
and_false true = refl
and_false false = refl

abbrev opened_so : Board → ℕ → Standing → Network → Board
opened_so b id after sent = record { posts = with_standing b.posts id after; master = b.master; network = sent }

pub opening_judged : (roster : Tables) (b : Board) (id : ℕ) (state : NodeState (Unit {0})) (after : Standing) →
    IsOpened roster id (standing_at b.posts id) state after →
    JudgesOpening roster b id state
    (Fine (record { posts = with_standing b.posts id after; master = b.master; network = opened_network b.network id (length state.pending) after }))
opening_judged roster b id state after (inl (can, is)) =
    let test : (nat_eq (length state.pending) 0 && not (is_astray after)) ≡ nat_eq (length state.pending) 0 =
    ap (λ t. nat_eq (length state.pending) 0 && not (is_astray t)) is
    ∙ ap (λ c. nat_eq (length state.pending) 0 && not c) (stands (standing_at b.posts id) state)
    ∙ and_true (nat_eq (length state.pending) 0) in
    inl (
      can,
      ap (λ c. Fine (opened_so b id after (cond c (without_waiting b.network id) b.network))) test
          ∙ ap (λ t. Fine (opened_so b id t (cond (nat_eq (length state.pending) 0) (without_waiting b.network id) b.network))) is,
    )
opening_judged roster b id state after (inr (cannot, is)) =
    let test : (nat_eq (length state.pending) 0 && not (is_astray after)) ≡ false = ap (λ t. nat_eq (length state.pending) 0 && not (is_astray t)) is
    ∙ and_false (nat_eq (length state.pending) 0) in
    inr (cannot, ap (λ c. Fine (opened_so b id after (cond c (without_waiting b.network id) b.network))) test ∙ ap (λ t. Fine (opened_so b id t b.network)) is)

-- An entry of a node

pub entry_judged : (roster : Tables) (b : Board) (id : ℕ) (e : NodeEntry) (is_closed : Bool) (kept : FloorTable) (r : Result Standing Cause) →
    IsSent roster b.network id e.event → StepsSo (setting roster id) (standing_at b.posts id) e is_closed kept r →
    JudgesFully roster b (Steps id e is_closed kept) (judged roster b id e r)
entry_judged roster b id e is_closed kept r sent steps = inl (sent, inl ((λ _. sent), r, steps, refl))

-- An entry of the master

pub call_unsent : (roster : Tables) (b : Board) (e : MasterEntry) (is_closed : Bool) → (IsCallSent roster b.network e.call → ⊥) →
    JudgesFully roster b (Calls e is_closed) (Flawed NotSent)
call_unsent roster b e is_closed unsent = inr (unsent, refl)
