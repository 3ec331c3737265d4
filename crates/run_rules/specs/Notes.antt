-- Notes: the members' records and the master's entries, cut into single items, and the one order of
-- all of them.
use Rattle.std.specs.Prelude.{ℕ, ◌+◌, Bool, true, false, not, ◌==◌, nat_le, nat_lt, List, [], ◌∷◌, ◌++◌, map, filter, length, option_map, Option, Some, None}
use Rattle.std.specs.Prelude.{Result, Err, if◌then◌else◌}
use Rattle.std.specs.List.{flat_map, filter_map}
use Rattle.floor_rules.specs.Floors.{FloorTable}
use Rattle.node_rules.specs.declared.state.NodeState.{NodeState}
use Rattle.node_rules.specs.declared.reply.Reply.{Reply}
use Rattle.node_rules.specs.declared.reply.StepFault.{StepFault}
use Rattle.node_rules.specs.declared.reply.StepFault.TheVariants as step_fault
use Rattle.purge_rules.specs.declared.calls.MasterCall.{MasterCall}
use Rattle.purge_rules.specs.declared.calls.MasterCall.TheVariants as call
use Rattle.purge_rules.specs.declared.calls.MasterAnswer.{MasterAnswer}
use Rattle.purge_rules.specs.declared.fault.MasterFault.{MasterFault}
use Rattle.purge_rules.specs.declared.fault.MasterFault.TheVariants as master_fault
use Rattle.node_book.specs.declared.book.NodeEntry.{NodeEntry}
use Rattle.node_book.specs.declared.record.Record.{Record}
use Rattle.purge_master.specs.declared.book.MasterEntry.{MasterEntry}

-- one item of what was recorded
pub data Note : Type 0 where
  -- a record of a member opens in this state
  Opens : (node : ℕ) (state : NodeState (Unit {0})) → Note
  -- A record has this entry. Its next items tell whether the node is closed after it, and with
  -- which floors it then opens again.
  Steps : (node : ℕ) (entry : NodeEntry) (is_closed : Bool) (kept : FloorTable) → Note
  -- a record closes in this state; the place is that of its last entry, 0 if it has none
  Closes : (node : ℕ) (place : ℕ) (state : NodeState (Unit {0})) → Note
  -- The master's list has this entry. Its next items tell whether the master is closed after it.
  Calls : (entry : MasterEntry) (is_closed : Bool) → Note

-- A member's records

-- whether a step was refused because the node is closed
abbrev pub is_closed_answer : Result (Reply (Unit {0})) StepFault → Bool
is_closed_answer (Err step_fault.Closed) = true
is_closed_answer _ = false

-- whether a node is closed before these entries of its record, which then closes so
abbrev pub is_closed_before : List NodeEntry → Bool → Bool
is_closed_before [] closing = closing
is_closed_before (e ∷ es) closing = is_closed_answer e.outcome

-- the notes of a record's entries
abbrev pub steps_of : ℕ → Bool → FloorTable → List NodeEntry → List Note
steps_of id closing kept [] = []
steps_of id closing kept (e ∷ es) = Steps id e (is_closed_before es closing) kept ∷ steps_of id closing kept es

-- the place of the last entry; the first argument if there is none [Record 12]
abbrev pub last_place : ℕ → List NodeEntry → ℕ
last_place place [] = place
last_place place (e ∷ es) = last_place e.place es

-- the floors of the next record that opens with an open node, else these
abbrev pub kept_by : FloorTable → List Record → FloorTable
kept_by floors [] = floors
kept_by floors (r ∷ rs) = if r.opening.closed then kept_by floors rs else r.opening.floors

-- the notes of a record after which the node next opens with these floors
abbrev pub record_notes : Record → FloorTable → List Note
record_notes r kept = Opens r.node r.opening ∷ steps_of r.node r.closing.closed kept r.entries
    ++ Closes r.node (last_place 0 r.entries) r.closing ∷ []

-- the notes of a record that these records follow
abbrev pub notes_of : Record → List Record → List Note
notes_of r rs = record_notes r (kept_by r.closing.floors rs)

-- the notes of all records of a node
abbrev pub notes_of_all : List Record → List Note
notes_of_all [] = []
notes_of_all (r ∷ rs) = notes_of r rs ++ notes_of_all rs

-- The master's list

-- whether a call asks for a purge's status
abbrev pub is_status : MasterCall → Bool
is_status (call.Status number) = true
is_status _ = false

-- whether a call was refused because the master is closed
abbrev pub is_shut_answer : Result MasterAnswer MasterFault → Bool
is_shut_answer (Err master_fault.Closed) = true
is_shut_answer _ = false

-- the same for the first of some calls; a status tells nothing, so the later calls decide
abbrev pub is_shut_by : Bool → Result MasterAnswer MasterFault → Bool → Bool
is_shut_by true answer later = later
is_shut_by false answer later = is_shut_answer answer

-- whether the master is closed before these entries: a closed master reports statuses, and refuses
-- all else
abbrev pub is_shut_before : List MasterEntry → Bool
is_shut_before [] = false
is_shut_before (e ∷ es) = is_shut_by (is_status e.call) e.answer (is_shut_before es)

-- the notes of the master's entries
abbrev pub calls_of : List MasterEntry → List Note
calls_of [] = []
calls_of (e ∷ es) = Calls e (is_shut_before es) ∷ calls_of es

-- Tracks

-- whether a record is of this node
abbrev pub is_of : ℕ → Record → Bool
is_of id r = r.node == id

-- the nodes that have records, each once
abbrev pub nodes_in : List Record → List ℕ
nodes_in [] = []
nodes_in (r ∷ rs) = r.node ∷ filter (λ id. not (id == r.node)) (nodes_in rs)

-- The tracks: the notes of each node, and of the master, in the order in which they were handed in.
abbrev pub tracks_of : List Record → List MasterEntry → List (List Note)
tracks_of records entries = map (λ id. notes_of_all (filter (is_of id) records)) (nodes_in records) ++ calls_of entries
    ∷ []

-- the place of a note; opening and closing have none
abbrev pub place_in : Note → Option ℕ
place_in (Opens node state) = None
place_in (Steps node entry is_closed kept) = Some entry.place
place_in (Closes node place state) = None
place_in (Calls entry is_closed) = Some entry.place

-- the places of a track
abbrev pub places_in : List Note → List ℕ
places_in track = filter_map place_in track

-- the places that are not greater than the one before; the first argument is before the first
abbrev pub falls_from : ℕ → List ℕ → List ℕ
falls_from last [] = []
falls_from last (place ∷ places) = if nat_lt last place then falls_from place places else place
    ∷ falls_from place places

-- the places of a list that are not greater than the one before
abbrev pub falls : List ℕ → List ℕ
falls [] = []
falls (place ∷ places) = falls_from place places

-- the lesser of a number and another, if there is one
abbrev pub lesser : ℕ → Option ℕ → ℕ
lesser a None = a
lesser a (Some b) = if nat_le a b then a else b

-- the least of some numbers, if there is one
abbrev pub least : List ℕ → Option ℕ
least [] = None
least (a ∷ others) = Some (lesser a (least others))

-- the least place that is not greater than the one before it in its track, if there is one
abbrev pub least_fall : List (List Note) → Option ℕ
least_fall tracks = least (flat_map (λ track. falls (places_in track)) tracks)

-- Which note comes next: an opening or a closing at once, else the entry with the least place. If
-- several have it, the one of the first track.

-- the rank of a note with this place in the order of all notes: 0 is at once
abbrev pub rank_by : Option ℕ → ℕ
rank_by None = 0
rank_by (Some place) = place + 1

-- the rank of the first note of a track, if there is one
abbrev pub rank_of : List Note → Option ℕ
rank_of [] = None
rank_of (note ∷ notes) = Some (rank_by (place_in note))

-- the ranks of all tracks
abbrev pub ranks_of : List (List Note) → List ℕ
ranks_of tracks = filter_map rank_of tracks

-- a note that was taken, and the tracks without it
pub record Taken : Type 0 where
  pub note : Note
  pub rest : List (List Note)

-- the note with this rank: of the first track, or else of the later ones
abbrev pub take_from : ℕ → List Note → List (List Note) → Option Taken → Option Taken
take_from rank [] tracks later = option_map (λ t. record { note = t.note; rest = [] ∷ t.rest }) later
take_from rank (note ∷ notes) tracks later =
    if rank_by (place_in note) == rank then Some record { note = note; rest = notes ∷ tracks }
    else option_map (λ t. record { note = t.note; rest = (note ∷ notes) ∷ t.rest }) later

-- the note with this rank in the first track whose first note has it
abbrev pub take_at : ℕ → List (List Note) → Option Taken
take_at rank [] = None
take_at rank (track ∷ tracks) = take_from rank track tracks (take_at rank tracks)

-- the same, if there is a rank
abbrev pub take_by : List (List Note) → Option ℕ → Option Taken
take_by tracks None = None
take_by tracks (Some rank) = take_at rank tracks

-- the note that comes next, if there is one [Record 13]
abbrev pub next_note : List (List Note) → Option Taken
next_note tracks = take_by tracks (least (ranks_of tracks))

-- how many tracks have this rank
abbrev pub count_of : ℕ → List ℕ → ℕ
count_of rank ranks = length (filter (λ t. t == rank) ranks)
