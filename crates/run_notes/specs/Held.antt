-- How notes and tracks are held, and the list of notes that are left.
use Rattle.std.specs.Prelude.{ℕ, suc, Bool, true, false, nat_le, ◌==◌, List, [], ◌∷◌, map, option_map, Option, Some, None, if◌then◌else◌}
use Rattle.std.specs.Global.{Vec}
use Rattle.run_rules.specs.Notes.{Note, Opens, Steps, Closes, Calls, lesser, rank_of}
use Rattle.run_rules.specs.Verdict.{OrderedNote, order_by, count_in}
use Rattle.run_notes.specs.declared.note.Note.{Note as Held}
use Rattle.run_notes.specs.declared.note.Note.TheVariants as held
use Rattle.run_notes.specs.declared.order.OrderedNote.{OrderedNote as HeldOrdered}
use Rattle.run_notes.specs.declared.order.Notes.{Notes}

-- the note that a held note refers to
abbrev pub note_of : Held → Note
note_of (held.Opens node state) = Opens node state.now
note_of (held.Steps node entry is_closed kept) = Steps node entry.now is_closed kept.now
note_of (held.Closes node place state) = Closes node place state.now
note_of (held.Calls entry is_closed) = Calls entry.now is_closed

-- the same for a note that was taken
abbrev pub ordered_of : HeldOrdered → OrderedNote
ordered_of l = record { note = note_of l.note; double = l.double }

-- these notes from the last to the first, before those that are done
abbrev pub onto : List Note → List Held → List Note
onto done [] = done
onto done (n ∷ ns) = onto (note_of n ∷ done) ns

-- a track: its next note is held as the last
abbrev pub track_of : List Held → List Note
track_of notes = onto [] notes

-- all tracks
abbrev pub tracks_in : List (Vec Held) → List (List Note)
tracks_in tracks = map (λ track. track_of track.items) tracks

-- the notes that are left, in their order
abbrev pub order_in : Notes → List OrderedNote
order_in n = order_by (count_in (tracks_in n.tracks.items)) n.fall (tracks_in n.tracks.items)

-- the least fall of a track that begins with a place: by the place after it, and the least fall
-- from there on
abbrev pub fall_with : ℕ → Option ℕ → Option ℕ → Option ℕ
fall_with place None fall = fall
fall_with place (Some next) fall = if nat_le next place then Some (lesser next fall) else fall

-- the lesser of two places, or the one that there is
abbrev pub lesser_fall : Option ℕ → Option ℕ → Option ℕ
lesser_fall None other = other
lesser_fall (Some one) other = Some (lesser one other)

-- the index of the item that is looked for: 0 if the first is it, else by its index in the rest
abbrev pub place_in_rest : Bool → Option ℕ → Option ℕ
place_in_rest true later = Some 0
place_in_rest false later = option_map suc later

-- whether a track's rank is this one
abbrev pub has_rank : ℕ → Option ℕ → Bool
has_rank rank None = false
has_rank rank (Some here) = here == rank

-- the index of the first track that has this rank, if any
abbrev pub place_at : ℕ → List (List Note) → Option ℕ
place_at rank [] = None
place_at rank (track ∷ tracks) = place_in_rest (has_rank rank (rank_of track)) (place_at rank tracks)
