-- The first flaw of a whole run: the one with the least place, and of those at one place the one with the first cause.
-- IsFirstOn is the last definition.
use Rattle.std.specs.Prelude.{◌≡◌, ◌⊎◌, ℕ, ◌<◌, ◌≤◌, true, List, [], ◌∷◌, ◌++◌, Option, Some, None, if◌then◌else◌}
use Rattle.std.specs.List.{list_any}
use Rattle.values_tables.specs.declared.plain.Tables.{Tables}
use Rattle.roster.specs.Lookups.{is_member}
use Rattle.node_book.specs.declared.record.Record.{Record}
use Rattle.purge_master.specs.declared.book.MasterEntry.{MasterEntry}
use Rattle.run_rules.specs.declared.verdict.Cause.{Cause}
use Rattle.run_rules.specs.declared.verdict.Cause.TheVariants.{DoublePlace, NotSent, OtherReply, OtherState}
use Rattle.run_rules.specs.declared.verdict.Verdict.{Verdict}
use Rattle.run_rules.specs.declared.verdict.Verdict.TheVariants.{Yes, No}
use Rattle.run_rules.specs.Notes.{Note, Opens, Steps, Closes, Calls, is_of, tracks_of}
use Rattle.run_rules.specs.Sent.{IsSent, IsCallSent}
use Rattle.run_rules.specs.Board.{Standing, New, Open, Board, new_board}
use Rattle.run_rules.specs.Judging.{Judgement, Fine, Flawed, OpensAs, standing_in, ClosesAs, Judges}
use Rattle.run_rules.specs.Verdict.{OrderedNote, order_of, place_of, is_astray, IsVerdictOn}

-- a flaw: its place, and what is wrong there
pub record Flaw : Type 0 where
  pub place : ℕ
  pub cause : Cause

-- the rank of a cause among those at one place
abbrev pub rank_of_cause : Cause → ℕ
rank_of_cause DoublePlace = 0
rank_of_cause NotSent = 1
rank_of_cause OtherReply = 2
rank_of_cause OtherState = 3

-- a flaw has a lesser place than another, or the same place and no later cause
abbrev pub IsNoLater : Flaw → Flaw → Type 0
IsNoLater f g = (f.place < g.place) ⊎ ((f.place ≡ g.place) × (rank_of_cause f.cause ≤ rank_of_cause g.cause))

-- Doubled places

-- one of these notes has this doubled place
abbrev pub IsDouble : List OrderedNote → Flaw → Type 0
IsDouble [] f = ⊥
IsDouble (l ∷ ls) f = ((l.double ≡ Some f.place) × (f.cause ≡ DoublePlace)) ⊎ IsDouble ls f

-- Records without entries

-- the first of two records that there is
abbrev pub last_by : Option Record → Option Record → Option Record
last_by (Some later) earlier = Some later
last_by None earlier = earlier

-- the last record of this node, if there is one
abbrev pub last_of : ℕ → List Record → Option Record
last_of id [] = None
last_of id (r ∷ rs) = last_by (last_of id rs) (if is_of id r then Some r else None)

-- The standing in which a record leaves its node, by what is recorded alone. That of a closed node
-- is not known.
abbrev pub left_by : Option Record → Option Standing
left_by None = Some New
left_by (Some r) = if r.closing.closed then None else Some (Open r.closing)

-- a record may open and close in this standing, with no entry between
abbrev pub GoesThrough : Option Standing → Record → Type 0
GoesThrough None r = Unit {0}
GoesThrough (Some s) r = OpensAs s r.opening × ClosesAs (standing_in s r.opening) r.closing

-- A record without entries cannot follow the one before it of its node, if there is one; or the
-- roster has no such member. [Record 16]
abbrev pub IsFlawedAlone : Tables → Option Record → Record → Type 0
IsFlawedAlone roster before r = (r.entries ≡ [])
    × (((is_member roster r.node ≡ true) × GoesThrough (left_by before) r) → ⊥)

-- one of the second records is flawed alone; before them stand the first
abbrev pub HasFlawedAlone : Tables → List Record → List Record → Type 0
HasFlawedAlone roster front [] = ⊥
HasFlawedAlone roster front (r ∷ rs) = IsFlawedAlone roster (last_of r.node front) r
    ⊎ HasFlawedAlone roster (front ++ r ∷ []) rs

-- Notes

-- what a note received was sent before, whatever is known of its node [Record 4]
abbrev pub IsReceived : Tables → Board → Note → Type 0
IsReceived roster b (Opens id state) = Unit {0}
IsReceived roster b (Steps id e is_closed kept) = IsSent roster b.network id e.event
IsReceived roster b (Closes id place state) = Unit {0}
IsReceived roster b (Calls e is_closed) = IsCallSent roster b.network e.call

-- the judgement on a note: whether what it received was sent, then the rest [Record 5]
abbrev pub JudgesFully : Tables → Board → Note → Judgement → Type 0
JudgesFully roster b note j = (IsReceived roster b note × Judges roster b note j)
    ⊎ ((IsReceived roster b note → ⊥) × (j ≡ Flawed NotSent))

-- a record closes at place 0, as one without entries does
abbrev pub ClosesAtZero : Note → Type 0
ClosesAtZero (Closes id place state) = place ≡ 0
ClosesAtZero _ = ⊥

-- A note leads to the next state of the run. One that closes at place 0 may have a flaw, and then
-- changes nothing: flaws at place 0 that are found later may have an earlier cause.
abbrev pub LeadsTo : Tables → Board → Note → Board → Type 0
LeadsTo roster b note next = JudgesFully roster b note (Fine next)
    ⊎ (ClosesAtZero note × JudgesFully roster b note (Flawed OtherState) × (next ≡ b))

-- A flaw of one of these notes, each in the state to which the notes before it lead; or a node is
-- astray after the last. (None is: a record that may not open so has a flaw when it closes.)
abbrev pub IsOfNotes : Tables → Board → List OrderedNote → Flaw → Type 0
IsOfNotes roster b [] f = (list_any is_astray b.posts ≡ true) × (f ≡ record { place = 0; cause = OtherState })
IsOfNotes roster b (l ∷ ls) f =
    (JudgesFully roster b l.note (Flawed f.cause) × (f.place ≡ place_of l.note))
    ⊎ ((l.double ≡ None) × (next : Board) × LeadsTo roster b l.note next × IsOfNotes roster next ls f)

-- All flaws

-- a flaw of a run: a doubled place, a record that is flawed alone, or a flaw of a note
abbrev pub IsFlawOf : Tables → List Record → List MasterEntry → Flaw → Type 0
IsFlawOf roster records entries f =
    IsDouble (order_of (tracks_of records entries)) f
    ⊎ (HasFlawedAlone roster [] records × (f ≡ record { place = 0; cause = OtherState }))
    ⊎ IsOfNotes roster new_board (order_of (tracks_of records entries)) f

-- The verdict on a run: No names its first flaw. Yes says that it has none, and that its notes in
-- their order lead from the first state to the last. [Record 2]
abbrev pub IsFirstOn : Tables → List Record → List MasterEntry → Verdict → Type 0
IsFirstOn roster records entries Yes = ((f : Flaw) → IsFlawOf roster records entries f → ⊥)
    × IsVerdictOn roster records entries Yes
IsFirstOn roster records entries (No place cause) =
    IsFlawOf roster records entries (record { place = place; cause = cause })
    × ((f : Flaw) → IsFlawOf roster records entries f → IsNoLater (record { place = place; cause = cause }) f)
