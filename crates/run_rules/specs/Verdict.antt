-- The verdict on a run: Yes, or the first flaw of its notes in their order. IsVerdictOn is the last
-- definition.
use Rattle.std.specs.Prelude.{◌≡◌, ◌⊎◌, ℕ, zero, suc, Bool, nat_le, List, [], ◌∷◌, length, Option, Some, None, if◌then◌else◌}
use Rattle.std.specs.List.{flat_map, list_any}
use Rattle.values_tables.specs.declared.plain.Tables.{Tables}
use Rattle.node_book.specs.declared.record.Record.{Record}
use Rattle.purge_master.specs.declared.book.MasterEntry.{MasterEntry}
use Rattle.run_rules.specs.declared.verdict.Cause.{Cause}
use Rattle.run_rules.specs.declared.verdict.Cause.TheVariants.{DoublePlace, OtherState}
use Rattle.run_rules.specs.declared.verdict.Verdict.{Verdict}
use Rattle.run_rules.specs.declared.verdict.Verdict.TheVariants.{Yes, No}
use Rattle.run_rules.specs.Notes.{Note, Opens, Steps, Closes, Calls, Taken, tracks_of, place_in, rank_by, ranks_of, count_of, least_fall, next_note}
use Rattle.run_rules.specs.Board.{Post, Board, new_board}
use Rattle.run_rules.specs.Judging.{Fine, Flawed, Judges, is_astray as is_unknown}

-- a note in the order of all notes, with the doubled place that is found there, if any
pub record OrderedNote : Type 0 where
  pub note : Note
  pub double : Option ℕ

-- The doubled place that is found at a note with this place: one that does not rise in its track
-- and is not later, else its own if two tracks have it.
abbrev pub double_by : Option ℕ → Bool → Option ℕ → Option ℕ
double_by fall is_shared None = None
double_by None is_shared (Some place) = if is_shared then Some place else None
double_by (Some fall) is_shared (Some place) = if nat_le fall place then Some fall
    else (if is_shared then Some place else None)

-- the same, by the ranks of all tracks [Record 3]
abbrev pub double_of : Option ℕ → List ℕ → Option ℕ → Option ℕ
double_of fall ranks place = double_by fall (nat_le 2 (count_of (rank_by place) ranks)) place

-- a note that is taken from these tracks, with the doubled place
abbrev pub ordered : Option ℕ → List (List Note) → Note → OrderedNote
ordered fall tracks note = record { note = note; double = double_of fall (ranks_of tracks) (place_in note) }

-- the note that was taken, and the order of the rest
abbrev pub order_on : Option ℕ → List (List Note) → (List (List Note) → List OrderedNote) → Option Taken →
    List OrderedNote
order_on fall tracks later None = []
order_on fall tracks later (Some t) = ordered fall tracks t.note ∷ later t.rest

-- the first notes in their order, this many
abbrev pub order_by : ℕ → Option ℕ → List (List Note) → List OrderedNote
order_by zero fall tracks = []
order_by (suc count) fall tracks = order_on fall tracks (λ rest. order_by count fall rest) (next_note tracks)

-- how many notes there are
abbrev pub count_in : List (List Note) → ℕ
count_in tracks = length (flat_map (λ track. track) tracks)

-- all notes in their order [Record 16]
abbrev pub order_of : List (List Note) → List OrderedNote
order_of tracks = order_by (count_in tracks) (least_fall tracks) tracks

-- the place that names a flaw of a note [Record 16]
abbrev pub place_of : Note → ℕ
place_of (Opens node state) = 0
place_of (Steps node entry is_closed kept) = entry.place
place_of (Closes node place state) = place
place_of (Calls entry is_closed) = entry.place

-- whether nothing is known of a node at the end
abbrev pub is_astray : Post → Bool
is_astray p = is_unknown p.standing

-- The verdict after the last note: a node that is astray is a flaw too. (None is: a record that may
-- not open so has a flaw when it closes.)
abbrev pub ending : Board → Verdict
ending b = if list_any is_astray b.posts then No 0 OtherState else Yes

-- The flaw of a note is the verdict; if it has none, the rest decides in the state after it. [Record 14]
abbrev pub HasVerdictBy : Tables → Board → Note → Option ℕ → (Board → Type 0) → Verdict → Type 0
HasVerdictBy roster b note (Some place) Later v = v ≡ No place DoublePlace
HasVerdictBy roster b note None Later v =
    ((next : Board) × Judges roster b note (Fine next) × Later next)
    ⊎ ((cause : Cause) × Judges roster b note (Flawed cause) × (v ≡ No (place_of note) cause))

-- the verdict on these notes, in this state of the run before them
abbrev pub HasVerdict : Tables → Board → List OrderedNote → Verdict → Type 0
HasVerdict roster b [] v = v ≡ ending b
HasVerdict roster b (l ∷ ls) v = HasVerdictBy roster b l.note l.double (λ next. HasVerdict roster next ls v) v

-- the verdict on records and entries [Record 2]
abbrev pub IsVerdictOn : Tables → List Record → List MasterEntry → Verdict → Type 0
IsVerdictOn roster records entries v = HasVerdict roster new_board (order_of (tracks_of records entries)) v
