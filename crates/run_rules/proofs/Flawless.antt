-- The notes of a run without a flaw stand for events of the world: by induction over the notes,
-- each leads from a world that matches the state of the run to another. A node that goes astray
-- leads to a flaw, so none does.
use Rattle.std.proofs.Common.{◌≡◌, ℕ, Bool, true, false, cond, ◌||◌, List, [], ◌∷◌, ◌++◌, map, Option, Some, None, Result, Ok, Err, refl, sym, ◌∙◌, ap, inl}
use Rattle.std.proofs.Common.{inr, nat_eq, subst}
use Rattle.std.specs.List.{AllByRecursion, list_any}
use Rattle.std.proofs.Math.Decide.{ℕ_discrete}
use Rattle.values_tables.specs.declared.plain.Member.{Member}
use Rattle.values_tables.specs.declared.plain.Tables.{Tables}
use Rattle.roster.specs.Judged.{IsRoster}
use Rattle.node_rules.proofs.Cases.{branches}
use Rattle.world_rules.specs.World.{new_world, new_node, node_at}
use Rattle.world_rules.specs.Run.{Step}
use Rattle.run_rules.specs.declared.verdict.Cause.{Cause}
use Rattle.run_rules.specs.declared.verdict.Cause.TheVariants.{NotSent, OtherReply, OtherState, DoublePlace}
use Rattle.run_rules.specs.declared.verdict.Verdict.TheVariants.{Yes, No}
use Rattle.run_rules.specs.Notes.{Note, Opens, Steps, Closes, Calls}
use Rattle.run_rules.specs.Board.{Standing, Astray, Post, Board, new_board, standing_at, with_standing, with_node}
use Rattle.run_rules.specs.Judging.{Fine, Judges, OpensAs, opened_board, StepsSo, after_entry, after_call, judged}
use Rattle.run_rules.specs.Judging.{is_astray as is_unknown}
use Rattle.run_rules.specs.Verdict.{OrderedNote, HasVerdict, HasVerdictBy, is_astray, place_of}
use Rattle.run_rules.specs.Recorded.{Progress, beginning, AllStand}
use Rattle.node_rules.specs.declared.state.NodeState.{NodeState}
use Rattle.node_book.specs.declared.book.NodeEntry.{NodeEntry}
use Rattle.floor_rules.specs.Floors.{FloorTable}
use Rattle.node_rules.specs.State.{setting}
use Rattle.world_rules.proofs.SourceRuns.{run_after}
use Rattle.run_rules.proofs.Lists.{ok_same}
use Rattle.run_rules.proofs.Lists.{contains_none}
use Rattle.run_rules.proofs.Following.{Matches, standing_at-same, standing_at-other}
use Rattle.run_rules.proofs.Entries.{Follows, same_board, not_flawed, entry_follows}
use Rattle.run_rules.proofs.Openings.{opening_follows, closing_follows}
use Rattle.run_rules.proofs.Calling.{call_follows}

yes_no : (place : ℕ) (cause : Cause) → Yes ≡ No place cause → ⊥
yes_no place cause is = cc

-- some node is astray
abbrev GoesAstray : Board → Type 0
GoesAstray b = (id : ℕ) × (standing_at b.posts id ≡ Astray)

standing_changed : (ps : List Post) (id other : ℕ) (st : Standing) → standing_at ps other ≡ Astray → ((other ≡ id) → st ≡ Astray) →
    standing_at (with_standing ps id st) other ≡ Astray
standing_changed ps id other st astray mine = elim (ℕ_discrete other id) [
  | yes e ↦ subst (λ n. standing_at (with_standing ps id st) n ≡ Astray) (sym e) (standing_at-same ps id st ∙ mine e)
  | no ne ↦ standing_at-other ps id other st ne ∙ astray
]

not_open : (st : Standing) (state : NodeState (Unit {0})) → st ≡ Astray → OpensAs st state → ⊥
not_open st state astray opens = subst (λ (s : Standing). OpensAs s state) astray opens

module _ (t : Tables) (b : Board) (who : ℕ) (astray : standing_at b.posts who ≡ Astray) where
  steps_astray : (id : ℕ) (entry : NodeEntry) (is_closed : Bool) (kept : FloorTable) (r : Result Standing Cause) (next : Board) →
      StepsSo (setting t id) (standing_at b.posts id) entry is_closed kept r → Fine next ≡ judged t b id entry r → standing_at next.posts who ≡ Astray
  steps_astray id entry is_closed kept (Err cause) next steps is = absurd (not_flawed next cause is)
  steps_astray id entry is_closed kept (Ok st) next steps is =
      ap (λ (x : Board). standing_at x.posts who) (same_board next (after_entry t b id entry st) is)
      ∙ standing_changed b.posts id who st astray
      (λ same. ok_same st Astray (Ok st) refl (subst (λ (s : Standing). StepsSo (setting t id) s entry is_closed kept (Ok st))
      (ap (standing_at b.posts) (sym same) ∙ astray) steps))

  -- a node that is astray stays so
  stays_astray : (note : Note) (next : Board) → Judges t b note (Fine next) → standing_at next.posts who ≡ Astray
  stays_astray (Opens id state) next (inl ((member, opens), is)) =
      ap (λ (x : Board). standing_at x.posts who) (same_board next (opened_board b id state) is)
      ∙ standing_changed b.posts id who _ astray (λ same. absurd (not_open (standing_at b.posts id) state (ap (standing_at b.posts) (sym same) ∙ astray) opens))
  stays_astray (Opens id state) next (inr (cannot, is)) =
      ap (λ (x : Board). standing_at x.posts who) (same_board next (with_node b id Astray) is) ∙ standing_changed b.posts id who Astray astray (λ same. refl)
  stays_astray (Steps id entry is_closed kept) next (inl (heard, r, steps, is)) = steps_astray id entry is_closed kept r next steps is
  stays_astray (Steps id entry is_closed kept) next (inr (unheard, is)) = absurd (not_flawed next NotSent is)
  stays_astray (Closes id place state) next (inl (closes, is)) = ap (λ (x : Board). standing_at x.posts who) (same_board next b is) ∙ astray
  stays_astray (Closes id place state) next (inr (cannot, is)) = absurd (not_flawed next OtherState is)
  stays_astray (Calls e is_closed) next (inl (sent, keyed, state, calls, is)) = ap (λ (x : Board). standing_at x.posts who)
      (same_board next (after_call t b e state) is) ∙ astray
  stays_astray (Calls e is_closed) next (inr (inl (sent, none, is))) = absurd (not_flawed next OtherReply is)
  stays_astray (Calls e is_closed) next (inr (inr (unsent, is))) = absurd (not_flawed next NotSent is)

or_right : (a b : Bool) → b ≡ true → (a || b) ≡ true
or_right true b h = refl
or_right false b h = h

any_astray : (ps : List Post) (id : ℕ) → standing_at ps id ≡ Astray → list_any is_astray ps ≡ true
any_astray [] id astray = cc
any_astray (p ∷ ps) id astray =
    (branches (λ (st : Standing). st ≡ Astray → list_any is_astray (p ∷ ps) ≡ true) (nat_eq p.id id) p.standing (standing_at ps id)
    (λ _ here. ap (λ (s : Standing). is_unknown s || list_any is_astray ps) here)
    (λ _ there. or_right (is_astray p) (list_any is_astray ps) (any_astray ps id there))) astray

never_by : (t : Tables) (b : Board) (note : Note) (double : Option ℕ) (Later : Board → Type 0) → GoesAstray b →
    ((next : Board) → GoesAstray next → Later next → ⊥) → HasVerdictBy t b note double Later Yes → ⊥
never_by t b note (Some place) Later astray later v = yes_no place DoublePlace v
never_by t b note None Later (who, astray) later (inl (next, judges, rest)) = later next (who, stays_astray t b who astray note next judges) rest
never_by t b note None Later astray later (inr (cause, judges, v)) = yes_no (place_of note) cause v

-- a run with a node astray has a flaw
never_yes : (t : Tables) (ls : List OrderedNote) (b : Board) → GoesAstray b → HasVerdict t b ls Yes → ⊥
never_yes t [] b (who, astray) v = yes_no 0 OtherState (v ∙ ap (λ c. cond c (No 0 OtherState) Yes) (any_astray b.posts who astray))
never_yes t (l ∷ ls) b astray v = never_by t b l.note l.double (λ next. HasVerdict t next ls Yes) astray (λ next. never_yes t ls next) v

-- a note that may follow, and makes no node go astray, stands for events of the world
note_follows : (t : Tables) → IsRoster t → (b : Board) (p : Progress) → Matches t b p → (note : Note) (next : Board) → (GoesAstray next → ⊥) →
    Judges t b note (Fine next) → Follows t p note next
note_follows t proper b p m (Opens id state) next none (inl (can, is)) = opening_follows t b p m id state next can
    (same_board next (opened_board b id state) is)
note_follows t proper b p m (Opens id state) next none (inr (cannot, is)) =
    absurd (none (id, ap (λ (x : Board). standing_at x.posts id) (same_board next (with_node b id Astray) is) ∙ standing_at-same b.posts id Astray))
note_follows t proper b p m (Steps id entry is_closed kept) next none judges = entry_follows t proper b p m id entry is_closed kept next judges
note_follows t proper b p m (Closes id place state) next none judges = closing_follows t b p m id place state next judges
note_follows t proper b p m (Calls e is_closed) next none judges = call_follows t b p m e is_closed next judges

abbrev pub note_in : OrderedNote → Note
note_in l = l.note

-- the notes stand for events of the world, and no place is doubled
pub record Flawless (t : Tables) (p : Progress) (ls : List OrderedNote) : Type 0 where
  pub steps : List Step
  pub end : Progress
  pub stand : AllStand t p (map note_in ls) steps end
  pub single : AllByRecursion (λ (l : OrderedNote). l.double ≡ None) ls

follow_by : (t : Tables) → IsRoster t → (b : Board) (p : Progress) → Matches t b p → (note : Note) (double : Option ℕ) (ls : List OrderedNote)
    (Later : Board → Type 0) →
    ((next : Board) → GoesAstray next → Later next → ⊥) → ((next : Board) (q : Progress) → Matches t next q → Later next → Flawless t q ls) →
    HasVerdictBy t b note double Later Yes →
    Flawless t p (record { note = note; double = double } ∷ ls)
follow_by t proper b p m note (Some place) ls Later none later v = absurd (yes_no place DoublePlace v)
follow_by t proper b p m note None ls Later none later (inr (cause, judges, v)) = absurd (yes_no (place_of note) cause v)
follow_by t proper b p m note None ls Later none later (inl (next, judges, rest)) =
    let here = note_follows t proper b p m note next (λ astray. none next astray rest) judges in
    let there = later next here.to here.matches rest in
    record {
      steps = here.steps ++ there.steps;
      end = there.end;
      stand = (here.steps, there.steps, here.to, here.stands, refl, there.stand);
      single = (refl, there.single);
    }

follow_all : (t : Tables) → IsRoster t → (ls : List OrderedNote) (b : Board) (p : Progress) → Matches t b p → HasVerdict t b ls Yes → Flawless t p ls
follow_all t proper [] b p m v = record { steps = []; end = p; stand = (refl, refl); single = tt }
follow_all t proper (l ∷ ls) b p m v =
    follow_by t proper b p m l.note l.double ls (λ next. HasVerdict t next ls Yes) (λ next. never_yes t ls next) (λ next q. follow_all t proper ls next q) v

new_at : (ms : List Member) (id : ℕ) → node_at (map (λ (m : Member). record { id = m.cache.id; node = new_node }) ms) id ≡ new_node
new_at [] id = refl
new_at (m ∷ ms) id = branches (λ (x : NodeState ℕ). x ≡ new_node) (nat_eq m.cache.id id) new_node _ (λ _. refl) (λ _. new_at ms id)

begins : (t : Tables) → Matches t new_board (beginning t)
begins t = record {
  past = [];
  at = refl;
  after = run_after t [] (new_world t) refl;
  nodes = λ id. new_at t.members id;
  master = refl;
  purges = refl;
  network = record {
    datagrams = λ d has. absurd (contains_none d has);
    asks = λ a has. absurd (contains_none a has);
    answers = λ a has. absurd (contains_none a has);
    waiting = λ id block x is. cc;
  };
}

-- notes without a flaw, from the new world on
pub flawless : (t : Tables) → IsRoster t → (ls : List OrderedNote) → HasVerdict t new_board ls Yes → Flawless t (beginning t) ls
flawless t proper ls v = follow_all t proper ls new_board (beginning t) (begins t) v
