-- The least rank is a track's, so an index is found and its track has a note: the two early exits
-- do not happen. The note that is taken is the next, by Taking.
use Rattle.std.proofs.Common.{◌≡◌, ℕ, List, [], ◌∷◌, length, map, set, Option, Some, None, ◌<◌, nat_le, refl, sym, ◌∙◌, ap, subst}
use Rattle.std.specs.Prelude.{slice_get}
use Rattle.std.specs.Global.{Vec}
use Rattle.std.proofs.lemmas.List.{map-set, nil_from_length}
use Rattle.std.proofs.lemmas.Option.{none-some, slice_get_read}
use Rattle.run_rules.specs.Notes.{Note, place_in, ranks_of, least, count_of}
use Rattle.run_rules.specs.Verdict.{double_by, order_by, count_in}
use Rattle.run_notes.specs.declared.note.Note.{Note as Held}
use Rattle.run_notes.specs.Held.{note_of, track_of, tracks_in, place_at}
use Rattle.run_notes.proofs.Stacks.{pushed}
use Rattle.run_notes.proofs.Taking.{found, goes_on, got_mapped, empty_fails}
use Rattle.run_notes.proofs.order.Notes.take.Goals as goal

pub returns-in_err-at : goal.returns-in_err-at
returns-in_err-at c =
    let items = c.args.self.now.tracks.items in
    let rank = c.in_ok-rank.rank in
    let first : least (ranks_of (tracks_in items)) ≡ Some rank = ap (λ l. least (ranks_of (tracks_in l))) (sym c.as_slice.ensures.value)
    ∙ sym c.least_rank.ensures ∙ c.in_ok-rank.was in
    let none : place_at rank (tracks_in items) ≡ None = ap (λ l. place_at rank (tracks_in l)) (sym c.as_slice-3.ensures.value) ∙ sym c.place_at.ensures.place
    ∙ c.in_err-at.was in
    let (at, is) = found rank (tracks_in items) first in
    absurd (none-some at (sym none ∙ is))

pub returns-in_err-note : goal.returns-in_err-note
returns-in_err-note c =
    let items = c.args.self.now.tracks.items in
    let rank = c.in_ok-rank.rank in
    let at = c.in_ok-at.at in
    let track : Vec Held = c.index_mut.result.now in
    let place : place_at rank (tracks_in items) ≡ Some at = ap (λ l. place_at rank (tracks_in l)) (sym c.as_slice-3.ensures.value)
    ∙ sym c.place_at.ensures.place ∙ c.in_ok-at.was in
    let got : slice_get items at ≡ Some track = slice_get_read items _ at track refl
    (subst (λ (l : List (Vec Held)). at < length l) c.as_slice-3.ensures.value c.in_ok-at.ensures.below) c.index_mut.ensures.value in
    let empty : track.items ≡ [] = nil_from_length track.items (sym track.ok.0 ∙ c.in_err-note.ensures.cases.0) in
    absurd (empty_fails rank (tracks_in items) at place (got_mapped (λ (t : Vec Held). track_of t.items) items at track got
    ∙ ap (λ (l : List Held). Some (track_of l)) empty))

-- The least rank is found, then the first track whose front has it, and this front is taken: the next note in order.
pub returns : goal.returns
returns c =
    let items = c.args.self.now.tracks.items in
    let fall = c.args.self.now.fall in
    let rank = c.in_ok-rank.rank in
    let at = c.in_ok-at.at in
    let track : Vec Held = c.index_mut.result.now in
    let left : Vec Held = c.pop.new.self in
    let note : Note = note_of c.in_ok-note.note in
    let all : List (List Note) = tracks_in items in
    let first : least (ranks_of all) ≡ Some rank = ap (λ l. least (ranks_of (tracks_in l))) (sym c.as_slice.ensures.value) ∙ sym c.least_rank.ensures
    ∙ c.in_ok-rank.was in
    let place : place_at rank all ≡ Some at = ap (λ l. place_at rank (tracks_in l)) (sym c.as_slice-3.ensures.value) ∙ sym c.place_at.ensures.place
    ∙ c.in_ok-at.was in
    let read : slice_get items at ≡ Some track = slice_get_read items _ at track refl
    (subst (λ (l : List (Vec Held)). at < length l) c.as_slice-3.ensures.value c.in_ok-at.ensures.below) c.index_mut.ensures.value in
    let got : slice_get all at ≡ Some (note ∷ track_of left.items) =
    got_mapped (λ (t : Vec Held). track_of t.items) items at track read ∙ ap Some (ap track_of c.in_ok-note.ensures.items ∙ pushed left.items c.in_ok-note.note)
    in
    let count : c.count_at-is_shared.result ≡ count_of rank (ranks_of all) = c.count_at-is_shared.ensures.count
    ∙ ap (λ l. count_of rank (ranks_of (tracks_in l))) c.as_slice-2.ensures.value in
    let double : c.double_at-double.result ≡ double_by fall (nat_le 2 (count_of rank (ranks_of all))) (place_in note) =
    c.double_at-double.ensures ∙ ap (λ n. double_by fall (nat_le 2 n) c.place.result) count ∙ ap (double_by fall (nat_le 2 (count_of rank (ranks_of all))))
    c.place.ensures in
    let rest : tracks_in (set items at left) ≡ set all at (track_of left.items) = map-set (λ (t : Vec Held). track_of t.items) items at left in
    goes_on fall all rank at note (track_of left.items) first place got
    ∙ ap (λ (d : Option ℕ). record { note = note; double = d } ∷ order_by (count_in (set all at (track_of left.items))) fall (set all at (track_of left.items)))
    (sym double)
    ∙ ap (λ (t : List (List Note)). record { note = note; double = c.double_at-double.result } ∷ order_by (count_in t) fall t) (sym rest)
