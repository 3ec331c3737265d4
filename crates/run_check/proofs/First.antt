-- Which flaws of the run are left, before the notes that are left: the loop's invariant (Going), and what a note without
-- a flaw, a flaw, a doubled place and the end make of it.
use Rattle.std.proofs.Common.{◌≡◌, ◌⊎◌, ◌↔◌, ℕ, zero, suc, ◌≤◌, ◌<◌, Bool, true, false, cond, List, [], ◌∷◌, Some, None, IsTrue, nat_eq, nat_lt, eqb-true, refl}
use Rattle.std.proofs.Common.{sym, ◌∙◌, ap, subst, inl, inr, arith}
use Rattle.std.specs.List.{list_any}
use Rattle.std.proofs.lemmas.Bool.Decides.{nat_tests}
use Rattle.values_tables.specs.declared.plain.Tables.{Tables}
use Rattle.node_rules.proofs.Cases.{branches, test_lt, true_not_false}
use Rattle.node_book.specs.declared.record.Record.{Record}
use Rattle.purge_master.specs.declared.book.MasterEntry.{MasterEntry}
use Rattle.run_rules.specs.declared.verdict.Cause.{Cause}
use Rattle.run_rules.specs.declared.verdict.Cause.TheVariants.{DoublePlace, NotSent, OtherReply, OtherState}
use Rattle.run_rules.specs.declared.verdict.Verdict.TheVariants.{Yes, No}
use Rattle.run_rules.specs.Notes.{Note, Opens, Steps, Closes, Calls, tracks_of}
use Rattle.run_rules.specs.Board.{Board, new_board}
use Rattle.run_rules.specs.Judging.{Fine, Flawed, Judges}
use Rattle.run_rules.specs.Verdict.{OrderedNote, order_of, place_of, is_astray, ending, HasVerdict, HasVerdictBy, IsVerdictOn}
use Rattle.run_rules.specs.First.{Flaw, rank_of_cause, IsNoLater, IsDouble, HasFlawedAlone, JudgesFully, ClosesAtZero, IsOfNotes, IsFlawOf, IsFirstOn}
use Rattle.run_rules.proofs.Lists.{either, same_some}
use Rattle.run_check.specs.First.{at_zero, named, verdict_of}
use Rattle.run_check.proofs.Doubles.{Precedes, InOrder, in_order}
use Rattle.run_check.proofs.Unique.{fine_flawed, same_fine, same_flawed, judged_once}

lesser : (a b : ℕ) → nat_lt a b ≡ true → a < b
lesser a b h = grind (arith, nat_tests)

not_zero : (n : ℕ) → nat_eq n 0 ≡ false → 0 < n
not_zero zero is = absurd (true_not_false is)
not_zero (suc n) is = omega arith

-- a flaw by its place and cause
same_flaw : (f g : Flaw) → f.place ≡ g.place → f.cause ≡ g.cause → f ≡ g
same_flaw f g place cause = ap (λ p. record { place = p; cause = f.cause }) place ∙ ap (λ c. record { place = g.place; cause = c }) cause

last_cause : (c : Cause) → rank_of_cause c ≤ 3
last_cause DoublePlace = omega arith
last_cause NotSent = omega arith
last_cause OtherReply = omega arith
last_cause OtherState = omega arith

true_false : {A : Type 0} → true ≡ false → A
true_false is = absurd (true_not_false is)

same_no_later : (f g : Flaw) → g ≡ f → IsNoLater f g
same_no_later f g is = inr (ap (λ (h : Flaw). h.place) (sym is), subst (λ (h : Flaw). rank_of_cause f.cause ≤ rank_of_cause h.cause) (sym is) (omega arith))

no_later_by : (d : ℕ) (cause : Cause) (f : Flaw) → (d < f.place) ⊎ (d ≡ f.place) → rank_of_cause cause ≤ rank_of_cause f.cause →
    IsNoLater (record { place = d; cause = cause }) f
no_later_by d cause f (inl below) first = inl below
no_later_by d cause f (inr same) first = inr (same, first)

below_or_same : (a b : ℕ) → a ≤ b → (a < b) ⊎ (a ≡ b)
below_or_same a b below = elim (either (nat_lt a b)) [
  | inl less ↦ inl (lesser a b less)
  | inr more ↦ inr (omega (below, test_lt a b more, arith))
]

-- a flaw of the first cause
no_later : (d : ℕ) (cause : Cause) (f : Flaw) → d ≤ f.place → rank_of_cause cause ≤ rank_of_cause f.cause →
    IsNoLater (record { place = d; cause = cause }) f
no_later d cause f below first = no_later_by d cause f (below_or_same d f.place below) first

-- a flaw at place 0 comes before OtherState there
earlier_at_zero : (g f : Flaw) → g.place ≡ 0 → IsNoLater g f ⊎ ((true ≡ true) × (f ≡ at_zero)) → IsNoLater g f
earlier_at_zero g f none (inl before) = before
earlier_at_zero g f none (inr (is, same)) =
    subst (IsNoLater g) (sym same) (inr (none, last_cause g.cause))

-- the flaw at place 0 comes before one that is not there
zero_earlier : (g f : Flaw) → nat_eq g.place 0 ≡ false → IsNoLater g f ⊎ ((true ≡ true) × (f ≡ at_zero)) → IsNoLater at_zero f
zero_earlier g f some (inl (inl before)) = inl (omega (before, arith))
zero_earlier g f some (inl (inr (same, first))) = inl (omega (not_zero g.place some, same, arith))
zero_earlier g f some (inr (is, same)) = same_no_later at_zero f same

some_none : {A : Type 0} (d : ℕ) → Some d ≡ None → A
some_none d is = cc

judges_of : (roster : Tables) (b next : Board) (note : Note) → JudgesFully roster b note (Fine next) → Judges roster b note (Fine next)
judges_of roster b next note (inl (received, judges)) = judges
judges_of roster b next note (inr (not, is)) = fine_flawed next NotSent is

-- a flaw of a record that closes is OtherState
closes_in_state : (roster : Tables) (b : Board) (note : Note) (cause : Cause) → ClosesAtZero note → JudgesFully roster b note (Flawed cause) →
    (cause ≡ OtherState) × (place_of note ≡ 0)
closes_in_state roster b (Opens id state) cause closes flawed = absurd closes
closes_in_state roster b (Steps id e is_closed kept) cause closes flawed = absurd closes
closes_in_state roster b (Closes id place state) cause closes (inl (received, inl (fits, is))) = fine_flawed b cause (sym is)
closes_in_state roster b (Closes id place state) cause closes (inl (received, inr (not, is))) = (same_flawed cause OtherState is, closes)
closes_in_state roster b (Closes id place state) cause closes (inr (not, is)) = absurd (not tt)
closes_in_state roster b (Calls e is_closed) cause closes flawed = absurd closes

-- the place of a flaw is lesser than each doubled one behind it
flaw_precedes : (roster : Tables) (b : Board) (note : Note) (cause : Cause) (d : ℕ) → JudgesFully roster b note (Flawed cause) →
    (ClosesAtZero note → ⊥) → Precedes note d → place_of note < d
flaw_precedes roster b (Opens id state) cause d (inl (received, inl (can, is))) entry before = fine_flawed _ cause (sym is)
flaw_precedes roster b (Opens id state) cause d (inl (received, inr (not, is))) entry before = fine_flawed _ cause (sym is)
flaw_precedes roster b (Opens id state) cause d (inr (not, is)) entry before = absurd (not tt)
flaw_precedes roster b (Steps id e is_closed kept) cause d flawed entry before = before
flaw_precedes roster b (Closes id place state) cause d flawed entry (inl none) = absurd (entry none)
flaw_precedes roster b (Closes id place state) cause d flawed entry (inr before) = before
flaw_precedes roster b (Calls e is_closed) cause d flawed entry before = before

-- a flaw that is among the notes that are left, or at place 0
abbrev pub IsLeft : Tables → Bool → Board → List OrderedNote → Flaw → Type 0
IsLeft roster is_flawed b ls f = IsDouble ls f ⊎ ((is_flawed ≡ true) × (f ≡ at_zero)) ⊎ IsOfNotes roster b ls f

-- Before the notes that are left, in this state: is_flawed says whether there is a flaw at place 0; all other flaws of
-- the run are among the notes that are left.
pub record Going (roster : Tables) (records : List Record) (entries : List MasterEntry) (is_flawed : Bool) (b : Board) (ls : List OrderedNote) :
    Type 0 where
  pub order : InOrder ls
  pub first : is_flawed ≡ true → IsFlawOf roster records entries at_zero
  pub notes : (f : Flaw) → IsOfNotes roster b ls f → IsFlawOf roster records entries f
  pub doubles : (f : Flaw) → IsDouble ls f → IsFlawOf roster records entries f
  pub all : (f : Flaw) → IsFlawOf roster records entries f → IsLeft roster is_flawed b ls f
  pub run : is_flawed ≡ false → HasVerdict roster b ls Yes → IsVerdictOn roster records entries Yes

module _ (roster : Tables) (records : List Record) (entries : List MasterEntry) where
  -- before the first note
  begun : (is_flawed : Bool) → (HasFlawedAlone roster [] records → is_flawed ≡ true) → (f : Flaw) → IsFlawOf roster records entries f →
      IsLeft roster is_flawed new_board (order_of (tracks_of records entries)) f
  begun is_flawed alone f (inl its) = inl its
  begun is_flawed alone f (inr (inl (has, is))) = inr (inl (alone has, is))
  begun is_flawed alone f (inr (inr its)) = inr (inr its)

  pub begins : (is_flawed : Bool) → (IsTrue is_flawed ↔ HasFlawedAlone roster [] records) →
      Going roster records entries is_flawed new_board (order_of (tracks_of records entries))
  begins is_flawed alone = record {
    order = in_order records entries;
    first = λ is. inr (inl (alone.0 is, refl));
    notes = λ f its. inr (inr its);
    doubles = λ f its. inl its;
    all = begun is_flawed alone.1;
    run = λ none v. v;
  }

  module _ (is_flawed : Bool) (b : Board) (l : OrderedNote) (ls : List OrderedNote) (going : Going roster records entries is_flawed b (l ∷ ls)) where
    -- A note without a flaw

    past_single : {A : Type 0} (f : Flaw) → l.double ≡ None → (l.double ≡ Some f.place) × (f.cause ≡ DoublePlace) → A
    past_single f single its = some_none f.place (sym its.0 ∙ single)

    moved_on : (next : Board) → JudgesFully roster b l.note (Fine next) → (f : Flaw) → IsOfNotes roster b (l ∷ ls) f → IsOfNotes roster next ls f
    moved_on next fine f (inl (flawed, place)) = fine_flawed next f.cause (judged_once roster b l.note (Fine next) (Flawed f.cause) fine flawed)
    moved_on next fine f (inr (single, other, inl leads, its)) =
        subst (λ c. IsOfNotes roster c ls f) (same_fine other next (judged_once roster b l.note (Fine other) (Fine next) leads fine)) its
    moved_on next fine f (inr (single, other, inr (closes, flawed, same), its)) =
        fine_flawed next OtherState (judged_once roster b l.note (Fine next) (Flawed OtherState) fine flawed)

    moved : (next : Board) → l.double ≡ None → JudgesFully roster b l.note (Fine next) → (f : Flaw) → IsLeft roster is_flawed b (l ∷ ls) f →
        IsLeft roster is_flawed next ls f
    moved next single fine f (inl (inl its)) = past_single f single its
    moved next single fine f (inl (inr its)) = inl its
    moved next single fine f (inr (inl zero_flaw)) = inr (inl zero_flaw)
    moved next single fine f (inr (inr its)) = inr (inr (moved_on next fine f its))

    verdict_on : (next : Board) → l.double ≡ None → JudgesFully roster b l.note (Fine next) → HasVerdict roster next ls Yes →
        HasVerdict roster b (l ∷ ls) Yes
    verdict_on next single fine later = subst (λ p. HasVerdictBy roster b l.note p (λ next. HasVerdict roster next ls Yes) Yes) (sym single)
        (inl (next, judges_of roster b next l.note fine, later))

    pub moves : (next : Board) → l.double ≡ None → JudgesFully roster b l.note (Fine next) → Going roster records entries is_flawed next ls
    moves next single fine = record {
      order = (going.order.0 single).1;
      first = going.first;
      notes = λ f its. going.notes f (inr (single, next, inl fine, its));
      doubles = λ f its. going.doubles f (inr its);
      all = λ f its. moved next single fine f (going.all f its);
      run = λ none v. going.run none (verdict_on next single fine v);
    }

    -- A record closes at place 0 with a flaw

    stayed_on : (cause : Cause) → ClosesAtZero l.note → JudgesFully roster b l.note (Flawed cause) → (f : Flaw) → IsOfNotes roster b (l ∷ ls) f →
        IsLeft roster true b ls f
    stayed_on cause closes found f (inl (flawed, place)) =
        let (state, at) = closes_in_state roster b l.note f.cause closes flawed in
        inr (inl (refl, same_flaw f at_zero (place ∙ at) state))
    stayed_on cause closes found f (inr (single, other, inl leads, its)) =
        fine_flawed other cause (judged_once roster b l.note (Fine other) (Flawed cause) leads found)
    stayed_on cause closes found f (inr (single, other, inr (zeroed, flawed, same), its)) = inr (inr (subst (λ c. IsOfNotes roster c ls f) same its))

    stayed : (cause : Cause) → l.double ≡ None → ClosesAtZero l.note → JudgesFully roster b l.note (Flawed cause) → (f : Flaw) →
        IsLeft roster is_flawed b (l ∷ ls) f → IsLeft roster true b ls f
    stayed cause single closes found f (inl (inl its)) = past_single f single its
    stayed cause single closes found f (inl (inr its)) = inl its
    stayed cause single closes found f (inr (inl zero_flaw)) = inr (inl (refl, zero_flaw.1))
    stayed cause single closes found f (inr (inr its)) = stayed_on cause closes found f its

    pub stays : (cause : Cause) → l.double ≡ None → ClosesAtZero l.note → JudgesFully roster b l.note (Flawed cause) →
        Going roster records entries true b ls
    stays cause single closes found =
        let (state, at) = closes_in_state roster b l.note cause closes found in
        let flawed = subst (λ c. JudgesFully roster b l.note (Flawed c)) state found in
        record {
          order = (going.order.0 single).1;
          first = λ is. going.notes at_zero (inl (flawed, sym at));
          notes = λ f its. going.notes f (inr (single, b, inr (closes, flawed, refl), its));
          doubles = λ f its. going.doubles f (inr its);
          all = λ f its. stayed cause single closes found f (going.all f its);
          run = λ none. true_false none;
        }

    -- A flaw ends the search

    earlier_of : (g f : Flaw) (flagged : Bool) → IsNoLater g f ⊎ ((flagged ≡ true) × (f ≡ at_zero)) → IsNoLater (named flagged g) f
    earlier_of g f false (inl before) = before
    earlier_of g f false (inr (is, same)) = true_false (sym is)
    earlier_of g f true its =
        branches (λ (h : Flaw). IsNoLater h f) (nat_eq g.place 0) g at_zero (λ none. earlier_at_zero g f (eqb-true g.place 0 none) its)
        (λ some. zero_earlier g f some its)

    is_named : (g : Flaw) (flagged : Bool) → (flagged ≡ true → IsFlawOf roster records entries at_zero) → IsFlawOf roster records entries g →
        IsFlawOf roster records entries (named flagged g)
    is_named g false first its = its
    is_named g true first its =
        branches (λ (h : Flaw). IsFlawOf roster records entries h) (nat_eq g.place 0) g at_zero (λ _. its) (λ _. first refl)

    first_named : (g : Flaw) → IsFlawOf roster records entries g → ((f : Flaw) → IsLeft roster is_flawed b (l ∷ ls) f →
        IsNoLater g f ⊎ ((is_flawed ≡ true) × (f ≡ at_zero))) → IsFirstOn roster records entries (verdict_of (named is_flawed g))
    first_named g its before = (
      is_named g is_flawed going.first its,
      (λ f is. earlier_of g f is_flawed (before f (going.all f is))),
    )

    before_double : (d : ℕ) → l.double ≡ Some d → (f : Flaw) → IsLeft roster is_flawed b (l ∷ ls) f →
        IsNoLater (record { place = d; cause = DoublePlace }) f ⊎ ((is_flawed ≡ true) × (f ≡ at_zero))
    before_double d double f (inl (inl its)) = inl (no_later d DoublePlace f (omega (same_some d f.place (sym double ∙ its.0), arith)) (omega arith))
    before_double d double f (inl (inr its)) = inl (no_later d DoublePlace f ((going.order.1 d double).1 f its) (omega arith))
    before_double d double f (inr (inl zero_flaw)) = inr zero_flaw
    before_double d double f (inr (inr (inl (flawed, place)))) =
        let before = (going.order.1 d double).0 in
        inl (no_later d DoublePlace f (omega (before, place, arith)) (omega arith))
    before_double d double f (inr (inr (inr (single, other, leads, its)))) = some_none d (sym double ∙ single)

    -- a doubled place is found
    pub ends_double : (d : ℕ) → l.double ≡ Some d → IsFirstOn roster records entries (verdict_of (named is_flawed (record { place = d; cause = DoublePlace })))
    ends_double d double = first_named (record { place = d; cause = DoublePlace })
        (going.doubles (record { place = d; cause = DoublePlace }) (inl (double, refl))) (before_double d double)

    before_flaw : (cause : Cause) → l.double ≡ None → (ClosesAtZero l.note → ⊥) → JudgesFully roster b l.note (Flawed cause) → (f : Flaw) →
        IsLeft roster is_flawed b (l ∷ ls) f →
        IsNoLater (record { place = place_of l.note; cause = cause }) f ⊎ ((is_flawed ≡ true) × (f ≡ at_zero))
    before_flaw cause single entry found f (inl (inl its)) = past_single f single its
    before_flaw cause single entry found f (inl (inr its)) =
        inl (inl (flaw_precedes roster b l.note cause f.place found entry ((going.order.0 single).0 f its)))
    before_flaw cause single entry found f (inr (inl zero_flaw)) = inr zero_flaw
    before_flaw cause single entry found f (inr (inr (inl (flawed, place)))) =
        let same : cause ≡ f.cause = same_flawed cause f.cause (judged_once roster b l.note (Flawed cause) (Flawed f.cause) found flawed) in
        inl (inr (sym place, subst (λ c. rank_of_cause cause ≤ rank_of_cause c) same (omega arith)))
    before_flaw cause single entry found f (inr (inr (inr (none, other, inl leads, its)))) =
        fine_flawed other cause (judged_once roster b l.note (Fine other) (Flawed cause) leads found)
    before_flaw cause single entry found f (inr (inr (inr (none, other, inr (closes, flawed, same), its)))) = absurd (entry closes)

    -- a note has a flaw
    pub ends_flawed : (cause : Cause) → l.double ≡ None → (ClosesAtZero l.note → ⊥) → JudgesFully roster b l.note (Flawed cause) →
        IsFirstOn roster records entries (verdict_of (named is_flawed (record { place = place_of l.note; cause = cause })))
    ends_flawed cause single entry found = first_named (record { place = place_of l.note; cause = cause })
        (going.notes (record { place = place_of l.note; cause = cause }) (inl (found, refl))) (before_flaw cause single entry found)

  -- The end

  at_the_end : (b : Board) (f : Flaw) → IsLeft roster true b [] f → f ≡ at_zero
  at_the_end b f (inl its) = absurd its
  at_the_end b f (inr (inl (is, same))) = same
  at_the_end b f (inr (inr (astray, same))) = same

  -- no note is left, and there is a flaw at place 0
  pub ends_at_zero : (b : Board) → Going roster records entries true b [] → IsFirstOn roster records entries (No 0 OtherState)
  ends_at_zero b going = (going.first refl, (λ f its. same_no_later at_zero f (at_the_end b f (going.all f its))))

  left_at_end : (b : Board) (f : Flaw) → IsLeft roster false b [] f → (list_any is_astray b.posts ≡ true) × (f ≡ at_zero)
  left_at_end b f (inl its) = absurd its
  left_at_end b f (inr (inl (is, same))) = true_false (sym is)
  left_at_end b f (inr (inr its)) = its

  ends_by : (b : Board) (astray : Bool) → list_any is_astray b.posts ≡ astray → Going roster records entries false b [] →
      IsFirstOn roster records entries (cond astray (No 0 OtherState) Yes)
  ends_by b true is going = (
    going.notes at_zero (is, refl),
    (λ f its. same_no_later at_zero f (left_at_end b f (going.all f its)).1),
  )
  ends_by b false is going = (
    (λ f its. true_false (sym (left_at_end b f (going.all f its)).0 ∙ is)),
    going.run refl (ap (λ c. cond c (No 0 OtherState) Yes) (sym is)),
  )

  -- no note is left, and there is no flaw at place 0 but that of a node astray
  pub ends : (b : Board) → Going roster records entries false b [] → IsFirstOn roster records entries (ending b)
  ends b going = ends_by b (list_any is_astray b.posts) refl going
