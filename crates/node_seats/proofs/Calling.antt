-- What a call does to its seat, where its step is entered in a book.
use Rattle.std.proofs.Common.{◌≡◌, List, [], ◌∷◌, ◌++◌, length, slice_index_or, refl, sym, ap, ◌∙◌, subst, inl, IfOk}
use Rattle.std.proofs.Math.Seq.{get_or-append_seam}
use Rattle.node_bytes.specs.Stepping.{AnswersAsk}
use Rattle.node_rules.specs.declared.event.Event.{Event}
use Rattle.node_book.specs.declared.book.NodeEntry.{NodeEntry}
use Rattle.node_book.specs.Book.{BookView}
use Rattle.node_seats.specs.declared.entering.Told.{Told}
use Rattle.node_seats.specs.declared.entering.Told.TheVariants.{Copied, InBook}
use Rattle.node_seats.specs.Seats.{Adds, IsEntryOf, SeatView}
use Rattle.node_seats.specs.Desks.{IsCalledIn, IsToldOf}

-- what stands behind the entries that were there is the new one
pub is_entry : (old before all : List NodeEntry) (e found : NodeEntry) → before ≡ old → all ≡ old ++ e ∷ [] → found ≡ slice_index_or all (length before) found →
    found ≡ e
is_entry old before all e found same more is =
    is
    ∙ (ap (λ (l : List NodeEntry). slice_index_or l (length before) found) more
    ∙ (ap (λ (l : List NodeEntry). slice_index_or (old ++ e ∷ []) (length l) found) same ∙ get_or-append_seam old e [] found))

-- the entry of a call is behind the others in the book, and the seat knows it
pub called_in : {S : Type 0} (before after : BookView S) (old new : SeatView) (event : Event (Unit {0})) (told : Told) (e : NodeEntry) →
    after.entries ≡ before.entries ++ e ∷ [] → IsEntryOf old.number event e → IsToldOf e.outcome told → IfOk e.outcome (AnswersAsk event) →
    Adds old e new → IsCalledIn after old event new told
called_in before after old new event (Copied outcome) e behind of_call told_of asks adds = (
  inl (record { entry = e; adds = adds; of_call = of_call; told_of = told_of }),
  subst (λ o. IfOk o (AnswersAsk event)) (sym told_of) asks,
)
called_in before after old new event InBook e behind of_call told_of asks adds = record {
  front = before.entries;
  entry = e;
  entries = behind;
  called = inl (record { entry = e; adds = adds; of_call = of_call; told_of = refl });
  asks = asks;
}
