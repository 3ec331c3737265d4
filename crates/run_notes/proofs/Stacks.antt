-- A track is held with its next note as the last, so pushing a note puts it first in the track. By
-- induction over the held notes.
use Rattle.std.proofs.Common.{◌≡◌, ℕ, ◌+◌, ◌-◌, ◌<◌, List, [], ◌∷◌, ◌++◌, length, take, get_or, refl, sym, ◌∙◌, ap, arith}
use Rattle.std.specs.Prelude.{slice_get, option_map}
use Rattle.std.proofs.lemmas.List.{take_more}
use Rattle.run_rules.specs.Notes.{Note, rank_of, rank_by, place_in}
use Rattle.run_notes.specs.declared.note.Note.{Note as Held}
use Rattle.run_notes.specs.Held.{note_of, onto, track_of}

pushed_onto : (done : List Note) (xs : List Held) (n : Held) → onto done (xs ++ n ∷ []) ≡ note_of n ∷ onto done xs
pushed_onto done [] n = refl
pushed_onto done (x ∷ xs) n = pushed_onto (note_of x ∷ done) xs n

-- the note that is pushed comes next
pub pushed : (xs : List Held) (n : Held) → track_of (xs ++ n ∷ []) ≡ note_of n ∷ track_of xs
pushed xs n = pushed_onto [] xs n

pub pushed_is : (xs ys : List Held) (n : Held) → ys ≡ xs ++ n ∷ [] → track_of ys ≡ note_of n ∷ track_of xs
pushed_is xs ys n is = ap track_of is ∙ pushed xs n

-- one more of the held notes comes before the others in the track
pub one_more : (xs : List Held) (i : ℕ) (n : Held) → i < length xs → n ≡ get_or xs i n → track_of (take (i + 1) xs) ≡ note_of n ∷ track_of (take i xs)
one_more xs i n less is = ap track_of (take_more xs i n less) ∙ pushed (take i xs) (get_or xs i n) ∙ ap (λ m. note_of m ∷ track_of (take i xs)) (sym is)

-- the rank of a note
abbrev pub rank_in : Held → ℕ
rank_in n = rank_by (place_in (note_of n))

last_onto : (done : List Note) (x : Held) (xs : List Held) → rank_of (onto done (x ∷ xs)) ≡ option_map rank_in (slice_get (x ∷ xs) (length xs))
last_onto done x [] = refl
last_onto done x (y ∷ ys) = last_onto (note_of x ∷ done) y ys

-- the last note is the next one
pub last_rank : (xs : List Held) → rank_of (track_of xs) ≡ option_map rank_in (slice_get xs (length xs - 1))
last_rank [] = refl
last_rank (x ∷ xs) = last_onto [] x xs ∙ ap (λ n. option_map rank_in (slice_get (x ∷ xs) n)) (omega arith)
