-- The next note is the first of the track at the index that was found, and the order goes on with
-- the rest. By induction over the tracks, as the look-up goes over them.
use Rattle.std.proofs.Common.{◌≡◌, ◌⊎◌, ℕ, zero, suc, ◌+◌, Bool, true, false, cond, List, [], ◌∷◌, ◌++◌, length, set, map, Option, Some, None, nat_le, nat_eq}
use Rattle.std.proofs.Common.{eqb-true, refl, sym, ◌∙◌, ap, inl, inr, length-append, arith}
use Rattle.std.specs.Prelude.{slice_get, option_map}
use Rattle.std.specs.List.{flat_map, cons_option}
use Rattle.std.proofs.lemmas.Option.{none-some}
use Rattle.node_rules.proofs.Cases.{true_not_false}
use Rattle.run_rules.specs.Notes.{Note, Taken, rank_of, rank_by, ranks_of, place_in, least, lesser, take_from, take_at, take_by, next_note, count_of}
use Rattle.run_rules.specs.Verdict.{double_by, double_of, order_by, order_on, count_in}
use Rattle.run_rules.proofs.Lists.{either, same_some}
use Rattle.run_notes.specs.Held.{place_at, place_in_rest, has_rank}

none_some : {A : Type 0} {B : Type 0} (x : A) → None ≡ Some x → B
none_some x e = absurd (none-some x e)

-- the track at this index begins with this note
abbrev Gets : List (List Note) → ℕ → Note → List Note → Type 0
Gets tracks at note notes = slice_get tracks at ≡ Some (note ∷ notes)

-- the first track has the rank
here_taken : (rank : ℕ) (track : List Note) (tracks : List (List Note)) (later : Option Taken) (note : Note) (notes : List Note) → track ≡ note ∷ notes →
    has_rank rank (rank_of track) ≡ true →
    take_from rank track tracks later ≡ Some (record { note = note; rest = notes ∷ tracks })
here_taken rank track tracks later note notes is passes =
    let passes_here : has_rank rank (rank_of (note ∷ notes)) ≡ true = ap (λ t. has_rank rank (rank_of t)) (sym is) ∙ passes in
    ap (λ t. take_from rank t tracks later) is
    ∙ ap (λ b. cond b (Some (record { note = note; rest = notes ∷ tracks }))
    (option_map (λ (t : Taken). record { note = t.note; rest = (note ∷ notes) ∷ t.rest }) later)) passes_here

-- the first track does not have the rank
later_taken : (rank : ℕ) (track : List Note) (tracks : List (List Note)) (x : Taken) → has_rank rank (rank_of track) ≡ false →
    take_from rank track tracks (Some x) ≡ Some (record { note = x.note; rest = track ∷ x.rest })
later_taken rank [] tracks x fails = refl
later_taken rank (n ∷ ns) tracks x fails =
    ap (λ b. cond b (Some (record { note = n; rest = ns ∷ tracks })) (Some (record { note = x.note; rest = (n ∷ ns) ∷ x.rest }))) fails

-- the index, counted from the rest
later_place : (o : Option ℕ) (at : ℕ) → option_map suc o ≡ Some at → (before : ℕ) × (o ≡ Some before) × (at ≡ suc before)
later_place None at e = none_some at e
later_place (Some before) at e = (before, refl, sym (same_some (suc before) at e))

pub taken_at : (rank : ℕ) (tracks : List (List Note)) (at : ℕ) (note : Note) (notes : List Note) → place_at rank tracks ≡ Some at →
    slice_get tracks at ≡ Some (note ∷ notes) →
    take_at rank tracks ≡ Some (record { note = note; rest = set tracks at notes })
taken_at rank [] at note notes place got = none_some at place
taken_at rank (track ∷ tracks) at note notes place got =
    elim (either (has_rank rank (rank_of track))) [
      | inl passes ↦
          let at_once : 0 ≡ at = same_some 0 at (ap (λ b. place_in_rest b (place_at rank tracks)) (sym passes) ∙ place) in
          let is : track ≡ note ∷ notes = same_some track (note ∷ notes) (ap (slice_get (track ∷ tracks)) at_once ∙ got) in
          here_taken rank track tracks (take_at rank tracks) note notes is passes ∙ ap (λ n. Some (record { note = note; rest = set (track ∷ tracks) n notes }))
          at_once
      | inr fails ↦
          let (before, there, is) = later_place (place_at rank tracks) at (ap (λ b. place_in_rest b (place_at rank tracks)) (sym fails) ∙ place) in
          let rest = taken_at rank tracks before note notes there (ap (slice_get (track ∷ tracks)) (sym is) ∙ got) in
          ap (take_from rank track tracks) rest ∙ later_taken rank track tracks (record { note = note; rest = set tracks before notes }) fails
          ∙ ap (λ n. Some (record { note = note; rest = set (track ∷ tracks) n notes })) (sym is)
    ]

-- a track that is found has the rank
pub found_rank : (rank : ℕ) (tracks : List (List Note)) (at : ℕ) (track : List Note) → place_at rank tracks ≡ Some at → slice_get tracks at ≡ Some track →
    has_rank rank (rank_of track) ≡ true
found_rank rank [] at track place got = none_some at place
found_rank rank (first ∷ tracks) at track place got =
    elim (either (has_rank rank (rank_of first))) [
      | inl passes ↦
          let at_once : 0 ≡ at = same_some 0 at (ap (λ b. place_in_rest b (place_at rank tracks)) (sym passes) ∙ place) in
          ap (λ t. has_rank rank (rank_of t)) (sym (same_some first track (ap (slice_get (first ∷ tracks)) at_once ∙ got))) ∙ passes
      | inr fails ↦
          let (before, there, is) = later_place (place_at rank tracks) at (ap (λ b. place_in_rest b (place_at rank tracks)) (sym fails) ∙ place) in
          found_rank rank tracks before track there (ap (slice_get (first ∷ tracks)) (sym is) ∙ got)
    ]

-- one of the tracks has the least rank
lesser_is : (b : Bool) (a c rank : ℕ) → cond b a c ≡ rank → (a ≡ rank) ⊎ (c ≡ rank)
lesser_is true a c rank e = inl e
lesser_is false a c rank e = inr e

lesser_either : (a : ℕ) (o : Option ℕ) (rank : ℕ) → lesser a o ≡ rank → (a ≡ rank) ⊎ (o ≡ Some rank)
lesser_either a None rank e = inl e
lesser_either a (Some c) rank e = elim (lesser_is (nat_le a c) a c rank e) [ inl here ↦ inl here | inr there ↦ inr (ap Some there) ]

found_by : (b : Bool) (o : Option ℕ) → ((b ≡ false) → (at : ℕ) × (o ≡ Some at)) → (at : ℕ) × (place_in_rest b o ≡ Some at)
found_by true o later = (0, refl)
found_by false o later = let (at, is) = later refl in (suc at, ap (λ p. option_map suc p) is)

same_eq : (a b : ℕ) → a ≡ b → nat_eq a b ≡ true
same_eq a b e = grind arith

found_in : (rank : ℕ) (o : Option ℕ) (ranks : List ℕ) (place : Option ℕ) → (least ranks ≡ Some rank → (at : ℕ) × (place ≡ Some at)) →
    least (cons_option o ranks) ≡ Some rank →
    (at : ℕ) × (place_in_rest (has_rank rank o) place ≡ Some at)
found_in rank None ranks place rest e = found_by false place (λ _. rest e)
found_in rank (Some a) ranks place rest e =
    found_by (nat_eq a rank) place (λ other. elim (lesser_either a (least ranks) rank (same_some (lesser a (least ranks)) rank e)) [
      | inl here ↦ absurd (true_not_false (sym (same_eq a rank here) ∙ other))
      | inr there ↦ rest there
    ])

pub found : (rank : ℕ) (tracks : List (List Note)) → least (ranks_of tracks) ≡ Some rank → (at : ℕ) × (place_at rank tracks ≡ Some at)
found rank [] e = none_some rank e
found rank (track ∷ tracks) e = found_in rank (rank_of track) (ranks_of tracks) (place_at rank tracks) (found rank tracks) e

-- Counting

pub nothing_left : (tracks : List (List Note)) → least (ranks_of tracks) ≡ None → count_in tracks ≡ 0
nothing_left [] e = refl
nothing_left ([] ∷ tracks) e = nothing_left tracks e
nothing_left ((n ∷ ns) ∷ tracks) e = none_some _ (sym e)

pub one_less : (tracks : List (List Note)) (at : ℕ) (note : Note) (notes : List Note) → slice_get tracks at ≡ Some (note ∷ notes) →
    count_in tracks ≡ suc (count_in (set tracks at notes))
one_less [] at note notes got = none_some _ got
one_less (track ∷ tracks) zero note notes got = ap (λ t. length (t ++ flat_map (λ u. u) tracks)) (same_some track (note ∷ notes) got)
one_less (track ∷ tracks) (suc at) note notes got =
    let others = one_less tracks at note notes got in
    length-append track (flat_map (λ u. u) tracks) ∙ ap (λ n. length track + n) others ∙ omega arith
    ∙ ap suc (sym (length-append track (flat_map (λ u. u) (set tracks at notes))))

-- The order goes on

double_same : (fall : Option ℕ) (ranks : List ℕ) (place : Option ℕ) (rank : ℕ) → rank_by place ≡ rank →
    double_of fall ranks place ≡ double_by fall (nat_le 2 (count_of rank ranks)) place
double_same fall ranks None rank e = refl
double_same None ranks (Some place) rank e = ap (λ t. cond (nat_le 2 (count_of t ranks)) (Some place) None) e
double_same (Some f) ranks (Some place) rank e = ap (λ t. cond (nat_le f place) (Some f) (cond (nat_le 2 (count_of t ranks)) (Some place) None)) e

has_same : (rank a : ℕ) → nat_eq a rank ≡ true → a ≡ rank
has_same rank a e = eqb-true a rank e

pub goes_on : (fall : Option ℕ) (tracks : List (List Note)) (rank at : ℕ) (note : Note) (notes : List Note) → least (ranks_of tracks) ≡ Some rank →
    place_at rank tracks ≡ Some at → slice_get tracks at ≡ Some (note ∷ notes) →
    order_by (count_in tracks) fall tracks
    ≡ record { note = note; double = double_by fall (nat_le 2 (count_of rank (ranks_of tracks))) (place_in note) }
    ∷ order_by (count_in (set tracks at notes)) fall (set tracks at notes)
goes_on fall tracks rank at note notes first place got =
    let left : ℕ = count_in (set tracks at notes) in
    let next : next_note tracks ≡ Some (record { note = note; rest = set tracks at notes }) = ap (take_by tracks) first
    ∙ taken_at rank tracks at note notes place got in
    let in_rank : rank_by (place_in note) ≡ rank = has_same rank (rank_by (place_in note)) (found_rank rank tracks at (note ∷ notes) place got) in
    ap (λ n. order_by n fall tracks) (one_less tracks at note notes got) ∙ ap (order_on fall tracks (λ rest. order_by left fall rest)) next
    ∙ ap (λ d. record { note = note; double = d } ∷ order_by left fall (set tracks at notes)) (double_same fall (ranks_of tracks) (place_in note) rank in_rank)

pub all_taken : (fall : Option ℕ) (tracks : List (List Note)) → least (ranks_of tracks) ≡ None → order_by (count_in tracks) fall tracks ≡ []
all_taken fall tracks e = ap (λ n. order_by n fall tracks) (nothing_left tracks e)

-- Held tracks

pub got_mapped : {A B : Type 0} (f : A → B) (xs : List A) (at : ℕ) (x : A) → slice_get xs at ≡ Some x → slice_get (map f xs) at ≡ Some (f x)
got_mapped f [] at x got = none_some x got
got_mapped f (y ∷ xs) zero x got = ap (λ z. Some (f z)) (same_some y x got)
got_mapped f (y ∷ xs) (suc at) x got = got_mapped f xs at x got

-- an empty track has no rank
pub empty_fails : (rank : ℕ) (tracks : List (List Note)) (at : ℕ) → place_at rank tracks ≡ Some at → slice_get tracks at ≡ Some [] → ⊥
empty_fails rank tracks at place got = true_not_false (sym (found_rank rank tracks at [] place got))
