-- A book with one entry more. The node's step is one of the rules for every function that gives the
-- keys of texts, so for the one that values_keys computes; appended to a replay, it gives a longer
-- replay.
use Rattle.std.proofs.Common.{◌≡◌, ℕ, ◌+◌, ◌<◌, ◌≤◌, Option, List, [], ◌∷◌, ◌++◌, length, refl, sym, subst, length-append, arith, Result, IfOk, ap, ◌∙◌}
use Rattle.values_keys.specs.KeyOf.{key_of, GivesKeys}
use Rattle.values_keys.proofs.Outcomes.{gives_keys}
use Rattle.values_tables.specs.declared.plain.Tables.{Tables}
use Rattle.node_rules.specs.declared.event.Event.{Event}
use Rattle.node_rules.specs.declared.reply.Reply.{Reply}
use Rattle.node_rules.specs.declared.state.NodeState.{NodeState}
use Rattle.node_rules.specs.State.{Setting, setting}
use Rattle.floor_rules.specs.Floors.{FloorTable}
use Rattle.node_bytes.specs.Nodes.{TakesStep}
use Rattle.node_bytes.specs.Stepping.{AnswersAsk}
use Rattle.node_rules.specs.Relation.{Steps}
use Rattle.node_core.specs.View.{NodeText, IsSameMember, setting_of}
use Rattle.node_book.specs.declared.book.NodeEntry.{NodeEntry}
use Rattle.node_book.specs.declared.book.BookFault.{BookFault}
use Rattle.node_book.specs.Book.{BookView, IsApplied, IsBook, IsToldOf, Replays}

-- a replay with one more step is a replay
replays_more : (g : Setting) (old : NodeState (Unit {0})) (es : List NodeEntry) (middle : NodeState (Unit {0})) (e : NodeEntry) (new : NodeState (Unit {0})) →
    Replays g old es middle → Steps g middle e.event tt e.outcome new → Replays g old (es ++ e ∷ []) new
replays_more g old [] middle e new at steps = (new, subst (λ s. Steps g s e.event tt e.outcome new) at steps, refl)
replays_more g old (x ∷ xs) middle e new (next, first, rest) steps = (next, first, replays_more g next xs middle e new rest steps)

-- a book with one step more behind the others
book_with : (roster : Tables) (id : ℕ) (opening before after : NodeState (Unit {0})) (es : List NodeEntry) (e : NodeEntry) (filed : ℕ) →
    IsBook roster id before opening es filed → length es < filed + 4096 → Steps (setting roster id) before e.event tt e.outcome after →
    IsBook roster id after opening (es ++ e ∷ []) filed
book_with roster id opening before after es e filed book few steps = record {
  begun = subst (λ n. filed ≤ n) (sym (length-append es (e ∷ []))) (omega (arith, book.begun));
  most = subst (λ n. n ≤ filed + 4096) (sym (length-append es (e ∷ []))) (omega (arith, few));
  replay = replays_more (setting roster id) opening es before e after book.replay steps;
}

-- the same of a node before and after a step
pub book_more : {S : Type 0} (before after : NodeText (Unit {0}) S) (opening : NodeState (Unit {0})) (es all : List NodeEntry) (e : NodeEntry)
    (event : Event (Unit {0})) (filed : ℕ) →
    IsBook before.roster before.id before.state opening es filed → length es < filed + 4096 → all ≡ es ++ e ∷ [] → e.event ≡ event →
    IsSameMember before after →
    ((key_of : List ℕ → Option (List ℕ)) → GivesKeys key_of → Steps (setting_of before key_of) before.state event tt e.outcome after.state) →
    IsBook after.roster after.id after.state opening all filed
book_more before after opening es all e event filed book few more same_event same steps =
    let stepped = subst (λ ev. Steps (setting before.roster before.id) before.state ev tt e.outcome after.state) (sym same_event) (steps key_of gives_keys) in
    let here = book_with before.roster before.id opening before.state after.state es e filed book few stepped in
    subst (λ r. IsBook r after.id after.state opening all filed) (sym same.roster)
    (subst (λ i. IsBook before.roster i after.state opening all filed) (sym same.id)
    (subst (λ l. IsBook before.roster before.id after.state opening l filed) (sym more) here))

-- an entry behind the others, of a step that the node has taken
pub is_applied : {S : Type 0} {honest : Type 0} {may_find : FloorTable → Type 0} {have_risen : Type 0} {before after : BookView S} {seat place : ℕ}
    {event : Event (Unit {0})} {told : Result (Reply (Unit {0})) BookFault} (e : NodeEntry) →
    after.entries ≡ before.entries ++ e ∷ [] → e ≡ record { seat = seat; place = place; event = event; outcome = e.outcome } → after.opening ≡ before.opening →
    after.filed ≡ before.filed → IsToldOf e.outcome told →
    TakesStep honest may_find have_risen before.node event e.outcome after.node → IfOk e.outcome (AnswersAsk event) →
    IsApplied honest may_find have_risen before after seat place event told
is_applied {before} e behind made opening filed told takes asks = record {
  outcome = e.outcome;
  entries = behind ∙ ap (λ x. before.entries ++ x ∷ []) made;
  opening = opening;
  filed = filed;
  told_of = told;
  step = takes;
  asks = asks;
}
