-- The order of all notes keeps the order of each track, and leaves none out: by induction over the
-- number of notes, since what is taken is the first note of one track.
use Rattle.std.proofs.Common.{◌≡◌, ◌⊎◌, ℕ, zero, suc, ◌+◌, Bool, true, false, cond, List, [], ◌∷◌, ◌++◌, length, map, filter, Option, Some, None, refl, sym}
use Rattle.std.proofs.Common.{◌∙◌, ap, inl, inr, nat_eq, nat_le, subst, arith, length-append}
use Rattle.std.specs.Prelude.{option_map}
use Rattle.std.specs.List.{flat_map}
use Rattle.node_rules.proofs.Cases.{branches, true_not_false}
use Rattle.world_rules.proofs.MemberStates.{same_id, ids_same}
use Rattle.run_rules.specs.Notes.{Note, place_in, rank_by, rank_of, ranks_of, Taken, take_from, take_at, take_by, next_note, lesser, least}
use Rattle.run_rules.specs.Verdict.{OrderedNote, order_on, order_by, count_in}
use Rattle.run_rules.proofs.Lists.{either, same_some}

nat_same : (m n : ℕ) → m ≡ n → nat_eq m n ≡ true
nat_same m n is = subst (λ k. nat_eq m k ≡ true) is (same_id m)

later_suc : (m n : ℕ) → m + suc n ≡ suc (m + n)
later_suc m n = omega arith

none_taken : {A : Type 0} (x : Taken) → None ≡ Some x → A
none_taken x is = cc

some_is_none : (x : Taken) → Some x ≡ None → ⊥
some_is_none x is = cc

-- a note is taken from the first track that has its rank
abbrev pub Took : ℕ → List (List Note) → Note → List (List Note) → Type 0
Took rank [] note rest = ⊥
Took rank (track ∷ tracks) note rest =
    ((notes : List Note) × (track ≡ note ∷ notes) × (rest ≡ notes ∷ tracks) × (rank_by (place_in note) ≡ rank))
    ⊎ ((others : List (List Note)) × (rest ≡ track ∷ others) × (rank_of track ≡ Some rank → ⊥) × Took rank tracks note others)

taken_later : (track : List Note) (later : Option Taken) (x : Taken) → option_map (λ (t : Taken). record { note = t.note; rest = track ∷ t.rest }) later ≡ Some
    x → (y : Taken) × (later ≡ Some y) × (x.note ≡ y.note) × (x.rest ≡ track ∷ y.rest)
taken_later track None x is = cc
taken_later track (Some y) x is =
    let same = same_some record { note = y.note; rest = track ∷ y.rest } x is in
    (y, refl, ap (λ (t : Taken). t.note) (sym same), ap (λ (t : Taken). t.rest) (sym same))

none_is_some : (rank : ℕ) → None ≡ Some rank → ⊥
none_is_some rank is = cc

other_rank : (a rank : ℕ) → nat_eq a rank ≡ false → Some a ≡ Some rank → ⊥
other_rank a rank other is = true_not_false (sym (nat_same a rank (same_some a rank is)) ∙ other)

took_from : (rank : ℕ) (track : List Note) (tracks : List (List Note)) (later : Option Taken) (x : Taken) →
    ((y : Taken) → later ≡ Some y → Took rank tracks y.note y.rest) → take_from rank track tracks later ≡ Some x → Took rank (track ∷ tracks) x.note x.rest
took_from rank [] tracks later x below is =
    let (y, has, note, rest) = taken_later [] later x is in
    inr (y.rest, rest, none_is_some rank, subst (λ (n : Note). Took rank tracks n y.rest) (sym note) (below y has))
took_from rank (note ∷ notes) tracks later x below is =
    (branches (λ (o : Option Taken). o ≡ Some x → Took rank ((note ∷ notes) ∷ tracks) x.note x.rest) (nat_eq (rank_by (place_in note)) rank) _ _
    (λ here found.
    let same = same_some record { note = note; rest = notes ∷ tracks } x found in
    inl (
      notes,
      ap (λ (t : Taken). t.note ∷ notes) same,
      ap (λ (t : Taken). t.rest) (sym same),
      ap (λ (t : Taken). rank_by (place_in t.note)) (sym same)
          ∙ ids_same (rank_by (place_in note)) rank here,
    ))
    (λ other found.
    let (y, has, its, rest) = taken_later (note ∷ notes) later x found in
    inr (y.rest, rest, other_rank (rank_by (place_in note)) rank other, subst (λ (n : Note). Took rank tracks n y.rest) (sym its) (below y has)))) is

pub took_at : (rank : ℕ) (tracks : List (List Note)) (x : Taken) → take_at rank tracks ≡ Some x → Took rank tracks x.note x.rest
took_at rank [] x is = none_taken x is
took_at rank (track ∷ tracks) x is = took_from rank track tracks (take_at rank tracks) x (λ y has. took_at rank tracks y has) is

-- The notes of all tracks that pass a test

abbrev pub parts : (Note → Bool) → List (List Note) → List Note
parts test tracks = flat_map (λ track. filter test track) tracks

-- at most one track has such notes
abbrev pub Sole : (Note → Bool) → List (List Note) → Type 0
Sole test [] = Unit {0}
Sole test (track ∷ tracks) = ((filter test track ≡ []) × Sole test tracks) ⊎ (parts test tracks ≡ [])

front_none : {A : Type 0} (xs ys : List A) → xs ++ ys ≡ [] → (xs ≡ []) × (ys ≡ [])
front_none [] ys is = (refl, is)
front_none (x ∷ xs) ys is = cc

kept_none : (test : Note → Bool) (note : Note) (notes : List Note) (b : Bool) → test note ≡ b → cond b (note ∷ filter test notes) (filter test notes) ≡ [] →
    (test note ≡ false) × (filter test notes ≡ [])
kept_none test note notes true is none = cc
kept_none test note notes false is none = (is, none)

taken_first : (test : Note → Bool) (note : Note) (notes : List Note) (tracks : List (List Note)) (b : Bool) →
    cond b (note ∷ filter test notes) (filter test notes) ++ parts test tracks ≡ cond b (note ∷ parts test (notes ∷ tracks)) (parts test (notes ∷ tracks))
taken_first test note notes tracks true = refl
taken_first test note notes tracks false = refl

sole_first : (test : Note → Bool) (track : List Note) (note : Note) (notes : List Note) (tracks : List (List Note)) → track ≡ note ∷ notes →
    Sole test (track ∷ tracks) → Sole test (notes ∷ tracks)
sole_first test track note notes tracks is (inl (none, sole)) = inl ((kept_none test note notes (test note) refl (ap (filter test) (sym is) ∙ none)).1, sole)
sole_first test track note notes tracks is (inr none) = inr none

module _ (test : Note → Bool) (rank : ℕ) where
  -- if no track has such notes, none is taken
  took_none : (tracks rest : List (List Note)) (note : Note) → Took rank tracks note rest → parts test tracks ≡ [] →
      (test note ≡ false) × (parts test rest ≡ [])
  took_none [] rest note took none = absurd took
  took_none (track ∷ tracks) rest note (inl (notes, is, left, ranks)) none =
      let (first, more) = front_none (filter test track) (parts test tracks) none in
      let (fails, others) = kept_none test note notes (test note) refl (ap (filter test) (sym is) ∙ first) in
      (fails, ap (parts test) left ∙ ap (λ (l : List Note). l ++ parts test tracks) others ∙ more)
  took_none (track ∷ tracks) rest note (inr (others, left, elsewhere, took)) none =
      let (first, more) = front_none (filter test track) (parts test tracks) none in
      let (fails, below) = took_none tracks others note took more in
      (fails, ap (parts test) left ∙ ap (λ (l : List Note). l ++ parts test others) first ∙ below)

  -- the note taken is the first of them, if it is one, and the others stay
  took_part : (tracks rest : List (List Note)) (note : Note) → Took rank tracks note rest → Sole test tracks →
      (parts test tracks ≡ cond (test note) (note ∷ parts test rest) (parts test rest)) × Sole test rest
  took_part [] rest note took sole = absurd took
  took_part (track ∷ tracks) rest note (inl (notes, is, left, ranks)) sole =
      let whole : parts test (track ∷ tracks) ≡ cond (test note) (note ∷ parts test (notes ∷ tracks)) (parts test (notes ∷ tracks)) =
      ap (λ (l : List Note). filter test l ++ parts test tracks) is ∙ taken_first test note notes tracks (test note) in (
        whole ∙ ap (λ (l : List (List Note)). cond (test note) (note ∷ parts test l) (parts test l)) (sym left),
        subst (Sole test) (sym left) (sole_first test track note notes tracks is sole),
      )
  took_part (track ∷ tracks) rest note (inr (others, left, elsewhere, took)) (inl (none, sole)) =
      let (whole, below) = took_part tracks others note took sole in (
        ap (λ (l : List Note). l ++ parts test tracks) none ∙ whole ∙ ap (λ (l : List Note). cond (test note) (note ∷ l) l)
            (sym (ap (parts test) left ∙ ap (λ (l : List Note). l ++ parts test others) none)),
        subst (Sole test) (sym left) (inl (none, below)),
      )
  took_part (track ∷ tracks) rest note (inr (others, left, elsewhere, took)) (inr none) =
      let (fails, below) = took_none tracks others note took none in (
        ap (λ (l : List Note). filter test track ++ l) (none ∙ sym below) ∙ sym (ap (parts test) left)
            ∙ sym (ap (λ b. cond b (note ∷ parts test rest) (parts test rest)) fails),
        subst (Sole test) (sym left) (inr below),
      )

-- one note fewer is left
took_count : (rank : ℕ) (tracks rest : List (List Note)) (note : Note) → Took rank tracks note rest → count_in tracks ≡ suc (count_in rest)
took_count rank [] rest note took = absurd took
took_count rank (track ∷ tracks) rest note (inl (notes, is, left, ranks)) =
    ap (λ (l : List Note). length (l ++ flat_map (λ t. t) tracks)) is ∙ ap (λ (l : List (List Note)). suc (count_in l)) (sym left)
took_count rank (track ∷ tracks) rest note (inr (others, left, elsewhere, took)) =
    length-append track (flat_map (λ t. t) tracks) ∙ ap (λ n. length track + n) (took_count rank tracks others note took)
    ∙ later_suc (length track) (count_in others) ∙ ap suc (sym (length-append track (flat_map (λ t. t) others)))
    ∙ ap (λ (l : List (List Note)). suc (count_in l)) (sym left)

-- some track has the least rank
abbrev pub Has : ℕ → List (List Note) → Type 0
Has rank [] = ⊥
Has rank (track ∷ tracks) = (rank_of track ≡ Some rank) ⊎ Has rank tracks

lesser_is : (a : ℕ) (o : Option ℕ) (rank : ℕ) → lesser a o ≡ rank → (a ≡ rank) ⊎ (o ≡ Some rank)
lesser_is a None rank is = inl is
lesser_is a (Some b) rank is = (branches (λ n. n ≡ rank → (a ≡ rank) ⊎ (Some b ≡ Some rank)) (nat_le a b) a b (λ _ h. inl h) (λ _ h. inr (ap Some h))) is

least_has : (tracks : List (List Note)) (rank : ℕ) → least (ranks_of tracks) ≡ Some rank → Has rank tracks
least_has [] rank is = none_is_some rank is
least_has ([] ∷ tracks) rank is = inr (least_has tracks rank is)
least_has ((note ∷ notes) ∷ tracks) rank is = elim (lesser_is (rank_by (place_in note)) (least (ranks_of tracks)) rank (same_some _ rank is)) [
  | inl here ↦ inl (ap Some here)
  | inr there ↦ inr (least_has tracks rank there)
]

found_from : (rank : ℕ) (track : List Note) (tracks : List (List Note)) (later : Option Taken) → rank_of track ≡ Some rank →
    (x : Taken) × (take_from rank track tracks later ≡ Some x)
found_from rank [] tracks later is = absurd (none_is_some rank is)
found_from rank (note ∷ notes) tracks later is = (
  record { note = note; rest = notes ∷ tracks },
  ap (λ b. cond b (Some record { note = note; rest = notes ∷ tracks })
      (option_map (λ (t : Taken). record { note = t.note; rest = (note ∷ notes) ∷ t.rest }) later))
      (nat_same (rank_by (place_in note)) rank (same_some (rank_by (place_in note)) rank is)),
)

kept_from : (rank : ℕ) (track : List Note) (tracks : List (List Note)) (later : Option Taken) (y : Taken) → later ≡ Some y →
    (x : Taken) × (take_from rank track tracks later ≡ Some x)
kept_from rank [] tracks later y is =
    (record { note = y.note; rest = [] ∷ y.rest }, ap (option_map (λ (t : Taken). record { note = t.note; rest = [] ∷ t.rest })) is)
kept_from rank (note ∷ notes) tracks later y is = elim (either (nat_eq (rank_by (place_in note)) rank)) [
  | inl here ↦ found_from rank (note ∷ notes) tracks later (ap Some (ids_same _ rank here))
  | inr other ↦ (
    record { note = y.note; rest = (note ∷ notes) ∷ y.rest },
    ap (λ b. cond b (Some record { note = note; rest = notes ∷ tracks })
        (option_map (λ (t : Taken). record { note = t.note; rest = (note ∷ notes) ∷ t.rest }) later)) other
        ∙ ap (option_map (λ (t : Taken). record { note = t.note; rest = (note ∷ notes) ∷ t.rest })) is,
  )
]

found_at : (rank : ℕ) (tracks : List (List Note)) → Has rank tracks → (x : Taken) × (take_at rank tracks ≡ Some x)
found_at rank [] has = absurd has
found_at rank (track ∷ tracks) (inl here) = found_from rank track tracks (take_at rank tracks) here
found_at rank (track ∷ tracks) (inr there) = let (y, is) = found_at rank tracks there in kept_from rank track tracks (take_at rank tracks) y is

-- if no note is left to take, all tracks are empty
empty_parts : (test : Note → Bool) (tracks : List (List Note)) → least (ranks_of tracks) ≡ None → parts test tracks ≡ []
empty_parts test [] is = refl
empty_parts test ([] ∷ tracks) is = empty_parts test tracks is
empty_parts test ((note ∷ notes) ∷ tracks) is = cc

over_by : (test : Note → Bool) (tracks : List (List Note)) (o : Option ℕ) → least (ranks_of tracks) ≡ o → take_by tracks o ≡ None → parts test tracks ≡ []
over_by test tracks None is none = empty_parts test tracks is
over_by test tracks (Some rank) is none = let (x, found) = found_at rank tracks (least_has tracks rank is) in absurd (some_is_none x (sym found ∙ none))

none_left : (test : Note → Bool) (tracks : List (List Note)) → count_in tracks ≡ 0 → parts test tracks ≡ []
none_left test [] is = refl
none_left test ([] ∷ tracks) is = none_left test tracks is
none_left test ((note ∷ notes) ∷ tracks) is = absurd (omega (is, arith))

-- All notes in their order

abbrev pub note_of : OrderedNote → Note
note_of l = l.note

pub taken_by : (ranks : Option ℕ) (tracks : List (List Note)) (x : Taken) → take_by tracks ranks ≡ Some x →
    (rank : ℕ) × (ranks ≡ Some rank) × Took rank tracks x.note x.rest
taken_by None tracks x is = none_taken x is
taken_by (Some rank) tracks x is = (rank, refl, took_at rank tracks x is)

module _ (test : Note → Bool) where
  order_from : (fall : Option ℕ) (tracks : List (List Note)) (count : ℕ) (o : Option Taken) → next_note tracks ≡ o → count_in tracks ≡ suc count →
      Sole test tracks →
      ((rest : List (List Note)) → count_in rest ≡ count → Sole test rest → filter test (map note_of (order_by count fall rest)) ≡ parts test rest) →
      filter test (map note_of (order_on fall tracks (λ rest. order_by count fall rest) o)) ≡ parts test tracks
  order_from fall tracks count None is many sole later = sym (over_by test tracks (least (ranks_of tracks)) refl is)
  order_from fall tracks count (Some x) is many sole later =
      let (rank, has, took) = taken_by (least (ranks_of tracks)) tracks x is in
      let (whole, below) = took_part test rank tracks x.rest x.note took sole in
      let fewer : count_in x.rest ≡ count = omega (took_count rank tracks x.rest x.note took, many, arith) in
      ap (λ (l : List Note). cond (test x.note) (x.note ∷ l) l) (later x.rest fewer below) ∙ sym whole

  -- the notes that pass, if only one track has any
  pub order_parts : (count : ℕ) (fall : Option ℕ) (tracks : List (List Note)) → count_in tracks ≡ count → Sole test tracks →
      filter test (map note_of (order_by count fall tracks)) ≡ parts test tracks
  order_parts zero fall tracks none sole = sym (none_left test tracks none)
  order_parts (suc count) fall tracks many sole = order_from fall tracks count (next_note tracks) refl many sole
      (λ rest fewer below. order_parts count fall rest fewer below)
