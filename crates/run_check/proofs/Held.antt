-- The loop's invariant over what the checker holds, and what one turn of the loop makes of it.
use Rattle.std.proofs.Common.{◌≡◌, ◌↔◌, ℕ, Bool, true, false, List, [], ◌∷◌, Some, None, IsTrue, sym, subst}
use Rattle.values_tables.specs.declared.plain.Tables.{Tables}
use Rattle.node_book.specs.declared.record.Record.{Record}
use Rattle.purge_master.specs.declared.book.MasterEntry.{MasterEntry}
use Rattle.run_rules.specs.declared.verdict.Cause.{Cause}
use Rattle.run_rules.specs.declared.verdict.Cause.TheVariants.{DoublePlace, OtherState}
use Rattle.run_rules.specs.declared.verdict.Verdict.{Verdict}
use Rattle.run_rules.specs.declared.verdict.Verdict.TheVariants.{No}
use Rattle.run_rules.specs.Notes.{Note, Opens, Steps, Closes, Calls, tracks_of}
use Rattle.run_rules.specs.Sent.{Network, silence}
use Rattle.run_rules.specs.Board.{Board, new_board}
use Rattle.run_rules.specs.Verdict.{OrderedNote, order_of, place_of, ending}
use Rattle.run_rules.specs.First.{ClosesAtZero, HasFlawedAlone, IsFirstOn}
use Rattle.run_check.specs.declared.board.Board.{Board as Held}
use Rattle.run_check.specs.Boards.{board_of, IsBoard, StaysAt, IsJudged}
use Rattle.run_check.specs.First.{named, verdict_of}
use Rattle.run_check.proofs.First.{Going, begins, moves, stays, ends_double, ends_flawed, ends_at_zero, ends}

-- a record that closes has left the state as it was
closed : (roster : Tables) (b : Board) (now : Held) (note : Note) → ClosesAtZero note → StaysAt roster b note now →
    (sent : Network) × IsBoard roster now sent × (board_of now sent ≡ b)
closed roster b now (Opens id state) closes still = absurd closes
closed roster b now (Steps id e is_closed kept) closes still = absurd closes
closed roster b now (Closes id place state) closes still = still
closed roster b now (Calls e is_closed) closes still = absurd closes

module _ (roster : Tables) (records : List Record) (entries : List MasterEntry) where
  -- the state of the run that is held, before the notes that are left
  abbrev pub Stands : Bool → Held → List OrderedNote → Type 0
  Stands is_flawed held ls = (sent : Network) × IsBoard roster held sent × Going roster records entries is_flawed (board_of held sent) ls

  pub begins_held : (held : Held) (is_flawed : Bool) (ls : List OrderedNote) → board_of held silence ≡ new_board → IsBoard roster held silence →
      ls ≡ order_of (tracks_of records entries) → (IsTrue is_flawed ↔ HasFlawedAlone roster [] records) → Stands is_flawed held ls
  begins_held held is_flawed ls board holds order alone = (
    silence,
    holds,
    subst (λ b. Going roster records entries is_flawed b ls) (sym board)
        (subst (Going roster records entries is_flawed new_board) (sym order) (begins roster records entries is_flawed alone)),
  )

  module _ (is_flawed : Bool) (old : Held) (all : List OrderedNote) (l : OrderedNote) (ls : List OrderedNote) (order : all ≡ l ∷ ls)
      (stands : Stands is_flawed old all) where
    abbrev Goes : Board → Type 0
    Goes b = Going roster records entries is_flawed b (l ∷ ls)

    going : Goes (board_of old stands.0)
    going = subst (Going roster records entries is_flawed (board_of old stands.0)) order stands.2

    pub moves_held : (now : Held) → l.double ≡ None →
        ((sent : Network) → IsBoard roster old sent → IsJudged roster (board_of old sent) l.note now None) → Stands is_flawed now ls
    moves_held now single judged =
        let (later, holds, fine) = judged stands.0 stands.1 in
        (later, holds, moves roster records entries is_flawed (board_of old stands.0) l ls going (board_of now later) single fine)

    pub stays_held : (now : Held) (cause : Cause) → l.double ≡ None → ClosesAtZero l.note →
        ((sent : Network) → IsBoard roster old sent → IsJudged roster (board_of old sent) l.note now (Some cause)) → Stands true now ls
    stays_held now cause single closes judged =
        let (flawed, still) = judged stands.0 stands.1 in
        let (later, holds, same) = closed roster (board_of old stands.0) now l.note closes still in (
          later,
          holds,
          subst (λ b. Going roster records entries true b ls) (sym same)
              (stays roster records entries is_flawed (board_of old stands.0) l ls going cause single closes flawed),
        )

    pub double_held : (d : ℕ) → l.double ≡ Some d → IsFirstOn roster records entries (verdict_of (named is_flawed (record { place = d; cause = DoublePlace })))
    double_held d double = ends_double roster records entries is_flawed (board_of old stands.0) l ls going d double

    pub flawed_held : (now : Held) (cause : Cause) → l.double ≡ None → (ClosesAtZero l.note → ⊥) →
        ((sent : Network) → IsBoard roster old sent → IsJudged roster (board_of old sent) l.note now (Some cause)) →
        IsFirstOn roster records entries (verdict_of (named is_flawed (record { place = place_of l.note; cause = cause })))
    flawed_held now cause single entry judged =
        ends_flawed roster records entries is_flawed (board_of old stands.0) l ls going cause single entry (judged stands.0 stands.1).0

  pub ends_flawed_held : (held : Held) (ls : List OrderedNote) → ls ≡ [] → Stands true held ls → IsFirstOn roster records entries (No 0 OtherState)
  ends_flawed_held held ls none stands =
      ends_at_zero roster records entries (board_of held stands.0) (subst (Going roster records entries true (board_of held stands.0)) none stands.2)

  pub ends_held : (held : Held) (ls : List OrderedNote) (v : Verdict) → ls ≡ [] → ((sent : Network) → v ≡ ending (board_of held sent)) →
      Stands false held ls → IsFirstOn roster records entries v
  ends_held held ls v none is stands =
      subst (IsFirstOn roster records entries) (sym (is stands.0))
      (ends roster records entries (board_of held stands.0) (subst (Going roster records entries false (board_of held stands.0)) none stands.2))
