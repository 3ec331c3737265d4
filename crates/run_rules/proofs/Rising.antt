-- If no place is doubled, the places of all notes in their order rise: the least rank is always
-- taken, so a place that does not rise is shared by two tracks or does not rise in its own, and
-- both are found as doubled.
use Rattle.std.proofs.Common.{◌≡◌, ◌⊎◌, ℕ, zero, suc, ◌+◌, ◌≤◌, ◌<◌, true, false, cond, List, [], ◌∷◌, ◌++◌, length, map, filter, Option, Some, None, refl, sym}
use Rattle.std.proofs.Common.{◌∙◌, ap, inl, inr, nat_eq, nat_le, nat_lt, subst, arith}
use Rattle.std.specs.List.{AllByRecursion, flat_map, filter_map, cons_option}
use Rattle.std.proofs.lemmas.Bool.Decides.{nat_tests}
use Rattle.node_rules.proofs.Cases.{branches, test_le, test_lt}
use Rattle.world_rules.proofs.MemberStates.{same_id}
use Rattle.run_rules.specs.Notes.{Note, place_in, rank_by, rank_of, ranks_of, places_in, falls, falls_from, lesser, least, least_fall, Taken, next_note}
use Rattle.run_rules.specs.Notes.{count_of}
use Rattle.run_rules.specs.Verdict.{OrderedNote, double_of, order_on, order_by, count_in, order_of}
use Rattle.run_rules.specs.Recorded.{Rise, AllRise}
use Rattle.run_rules.proofs.Lists.{either, same_some}
use Rattle.run_rules.proofs.Taking.{Took, taken_by, note_of}

pub greater : (a c : ℕ) → nat_le a c ≡ false → c < a
greater a c h = grind (arith, nat_tests)

pub less : (a c : ℕ) → nat_lt a c ≡ true → a < c
less a c h = grind (arith, nat_tests)

none_some_place : {A : Type 0} {p : ℕ} → None ≡ Some p → A
none_some_place is = cc

some_none_place : {A : Type 0} (d : ℕ) → Some d ≡ None → A
some_none_place d is = cc

no_fall : (d : ℕ) → None ≡ Some d → ⊥
no_fall d is = cc

-- the place is at least the least one that does not rise
abbrev pub IsLate : Option ℕ → ℕ → Type 0
IsLate fall place = (d : ℕ) × (fall ≡ Some d) × (d ≤ place)

abbrev pub AllLate : Option ℕ → List ℕ → Type 0
AllLate fall [] = Unit {0}
AllLate fall (place ∷ places) = IsLate fall place × AllLate fall places

-- the place is greater than the last one, if there is one
abbrev pub Above : Option ℕ → ℕ → Type 0
Above None place = Unit {0}
Above (Some last) place = last < place

-- the first of these places is greater than the last one, or is late
abbrev pub IsNext : Option ℕ → Option ℕ → List ℕ → Type 0
IsNext fall last [] = Unit {0}
IsNext fall last (place ∷ places) = Above last place ⊎ IsLate fall place

-- what holds of each track after a place was taken
abbrev pub GoOn : Option ℕ → Option ℕ → List (List Note) → Type 0
GoOn fall last [] = Unit {0}
GoOn fall last (track ∷ tracks) = (IsNext fall last (places_in track) × AllLate fall (falls (places_in track))) × GoOn fall last tracks

-- no track has a lower rank
abbrev pub AreAtLeast : ℕ → List (List Note) → Type 0
AreAtLeast rank [] = Unit {0}
AreAtLeast rank (track ∷ tracks) = ((a : ℕ) → rank_of track ≡ Some a → rank ≤ a) × AreAtLeast rank tracks

lesser_least : (a : ℕ) (o : Option ℕ) (rank : ℕ) → lesser a o ≡ rank → (rank ≤ a) × ((b : ℕ) → o ≡ Some b → rank ≤ b)
lesser_least a None rank is = (omega (is, arith), λ b none. cc)
lesser_least a (Some c) rank is =
    (branches (λ n. n ≡ rank → (rank ≤ a) × ((b : ℕ) → Some c ≡ Some b → rank ≤ b)) (nat_le a c) a c
    (λ less h. (omega (h, arith), λ b same. omega (h, test_le a c less, same_some c b same, arith)))
    (λ more h. (omega (h, greater a c more, arith), λ b same. omega (h, same_some c b same, arith)))) is

pub least_least : (tracks : List (List Note)) (o : Option ℕ) → least (ranks_of tracks) ≡ o → (rank : ℕ) → ((b : ℕ) → o ≡ Some b → rank ≤ b)
    → AreAtLeast rank tracks
least_least [] o is rank below = tt
least_least ([] ∷ tracks) o is rank below = ((λ a none. cc), least_least tracks o is rank below)
least_least ((note ∷ notes) ∷ tracks) o is rank below =
    let first = below (lesser (rank_by (place_in note)) (least (ranks_of tracks))) (sym is) in
    let (here, there) = lesser_least (rank_by (place_in note)) (least (ranks_of tracks)) (lesser (rank_by (place_in note)) (least (ranks_of tracks))) refl in (
      (λ a same. omega (first, here, same_some (rank_by (place_in note)) a same, arith)),
      least_least tracks (least (ranks_of tracks)) refl rank
          (λ b same. omega (first, there b same, arith)),
    )

-- no other track has this rank
abbrev HasNone : ℕ → List (List Note) → Type 0
HasNone rank [] = Unit {0}
HasNone rank (track ∷ tracks) = (rank_of track ≡ Some rank → ⊥) × HasNone rank tracks

count_more : (rank : ℕ) (o : Option ℕ) (ranks : List ℕ) → count_of rank ranks ≤ count_of rank (cons_option o ranks)
count_more rank None ranks = omega arith
count_more rank (Some a) ranks = branches (λ (l : List ℕ). count_of rank ranks ≤ length l) (nat_eq a rank) (a ∷ filter (λ t. nat_eq t rank) ranks)
    (filter (λ t. nat_eq t rank) ranks) (λ _. omega arith) (λ _. omega arith)

count_here : (rank : ℕ) (ranks : List ℕ) → count_of rank (rank ∷ ranks) ≡ suc (count_of rank ranks)
count_here rank ranks = ap (λ b. length (cond b (rank ∷ filter (λ t. nat_eq t rank) ranks) (filter (λ t. nat_eq t rank) ranks))) (same_id rank)

none_has : (rank : ℕ) (tracks : List (List Note)) → count_of rank (ranks_of tracks) ≡ 0 → HasNone rank tracks
none_has rank [] none = tt
none_has rank (track ∷ tracks) none = (
  (λ has. omega (subst (λ (o : Option ℕ). count_of rank (cons_option o (ranks_of tracks)) ≡ 0) has none, count_here rank (ranks_of tracks), arith)),
  none_has rank tracks (omega (count_more rank (rank_of track) (ranks_of tracks), none, arith)),
)

-- A place is taken

-- after it the places of its track rise, or one is late
next_of : (fall : Option ℕ) (p : ℕ) (ps : List ℕ) → AllLate fall (falls_from p ps) → IsNext fall (Some p) ps × AllLate fall (falls ps)
next_of fall p [] late = (tt, tt)
next_of fall p (f ∷ fs) late =
    (branches (λ (l : List ℕ). AllLate fall l → ((p < f) ⊎ IsLate fall f) × AllLate fall (falls_from f fs)) (nat_lt p f) (falls_from f fs) (f ∷ falls_from f fs)
    (λ rises h. (inl (less p f rises), h)) (λ stays h. (inr h.0, h.1))) late

place_up : (fall : Option ℕ) (rank p : ℕ) (o : Option ℕ) (ps : List ℕ) → rank ≡ p + 1 → ((a : ℕ) → rank_by o ≡ a → rank ≤ a) → (rank_by o ≡ rank → ⊥) →
    IsNext fall (Some p) (cons_option o ps)
place_up fall rank p None ps is least other = absurd (omega (least 0 refl, is, arith))
place_up fall rank p (Some f) ps is least other = elim (either (nat_lt p f)) [
  | inl rises ↦ inl (less p f rises)
  | inr stays ↦ absurd (other (omega (least (f + 1) refl, is, test_lt p f stays, arith)))
]

above_by : (fall last : Option ℕ) (q p : ℕ) → q ≡ p → Above last q ⊎ IsLate fall q → (IsLate fall p → ⊥) → Above last p
above_by fall last q p same (inl above) early = subst (Above last) same above
above_by fall last q p same (inr late) early = absurd (early (subst (IsLate fall) same late))

-- a track whose rank is neither this nor an earlier one has a later place
track_up : (fall : Option ℕ) (rank p : ℕ) (track : List Note) → rank ≡ p + 1 → ((a : ℕ) → rank_of track ≡ Some a → rank ≤ a) → (rank_of track ≡ Some rank → ⊥) →
    IsNext fall (Some p) (places_in track)
track_up fall rank p [] is least other = tt
track_up fall rank p (note ∷ notes) is least other =
    place_up fall rank p (place_in note) (places_in notes) is (λ a same. least a (ap Some same)) (λ same. other (ap Some same))

-- all other tracks have later places
others_up : (fall : Option ℕ) (last : Option ℕ) (rank p : ℕ) (tracks : List (List Note)) → rank ≡ p + 1 → GoOn fall last tracks → AreAtLeast rank tracks →
    HasNone rank tracks → GoOn fall (Some p) tracks
others_up fall last rank p [] is on least none = tt
others_up fall last rank p (track ∷ tracks) is on least none =
    ((track_up fall rank p track is least.0 none.0, on.0.1), others_up fall last rank p tracks is on.1 least.1 none.1)

taken_up : (fall last : Option ℕ) (p : ℕ) (notes : List Note) (o : Option ℕ) → o ≡ Some p → (IsLate fall p → ⊥) →
    IsNext fall last (cons_option o (places_in notes)) × AllLate fall (falls (cons_option o (places_in notes))) →
    Above last p × (IsNext fall (Some p) (places_in notes) × AllLate fall (falls (places_in notes)))
taken_up fall last p notes None is early (first, late) = none_some_place is
taken_up fall last p notes (Some q) is early (first, late) =
    let same : q ≡ p = same_some q p is in (
      above_by fall last q p same first early,
      subst (λ n. IsNext fall (Some n) (places_in notes) × AllLate fall (falls (places_in notes))) same
          (next_of fall q (places_in notes) late),
    )

pub steps_up : (fall last : Option ℕ) (rank p : ℕ) (tracks rest : List (List Note)) (note : Note) → Took rank tracks note rest → place_in note ≡ Some p →
    rank ≡ p + 1 → GoOn fall last tracks → AreAtLeast rank tracks → count_of rank (ranks_of tracks) ≤ 1 → (IsLate fall p → ⊥) →
    Above last p × GoOn fall (Some p) rest
steps_up fall last rank p [] rest note took place is on least single early = absurd took
steps_up fall last rank p (track ∷ tracks) rest note (inl (notes, its, left, ranks)) place is on least single early =
    let (above, here) = taken_up fall last p notes (place_in note) place early
    (subst (λ (l : List Note). IsNext fall last (places_in l) × AllLate fall (falls (places_in l))) its on.0) in
    let alone : count_of rank (ranks_of tracks) ≡ 0 =
    omega (
      subst (λ (l : List Note). count_of rank (ranks_of (l ∷ tracks)) ≤ 1) its single,
      ap (λ n. count_of rank (n ∷ ranks_of tracks)) ranks,
      count_here rank (ranks_of tracks),
      arith,
    ) in
    (above, subst (GoOn fall (Some p)) (sym left) (here, others_up fall last rank p tracks is on.1 least.1 (none_has rank tracks alone)))
steps_up fall last rank p (track ∷ tracks) rest note (inr (others, left, elsewhere, took)) place is on least single early =
    let (above, there) = steps_up fall last rank p tracks others note took place is on.1 least.1
    (omega (count_more rank (rank_of track) (ranks_of tracks), single, arith)) early in
    (above, subst (GoOn fall (Some p)) (sym left) ((track_up fall rank p track is least.0 elsewhere, on.0.1), there))

-- a note without a place is taken
pub steps_past : (fall last : Option ℕ) (rank : ℕ) (tracks rest : List (List Note)) (note : Note) → Took rank tracks note rest → place_in note ≡ None →
    GoOn fall last tracks → GoOn fall last rest
steps_past fall last rank [] rest note took none on = absurd took
steps_past fall last rank (track ∷ tracks) rest note (inl (notes, its, left, ranks)) none on =
    let same : places_in track ≡ places_in notes = ap places_in its ∙ ap (λ (o : Option ℕ). cons_option o (places_in notes)) none in
    subst (GoOn fall last) (sym left) (subst (λ (l : List ℕ). IsNext fall last l × AllLate fall (falls l)) same on.0, on.1)
steps_past fall last rank (track ∷ tracks) rest note (inr (others, left, elsewhere, took)) none on =
    subst (GoOn fall last) (sym left) (on.0, steps_past fall last rank tracks others note took none on.1)

-- All places

abbrev RiseFrom : Option ℕ → List ℕ → Type 0
RiseFrom None places = AllRise places
RiseFrom (Some last) places = Rise last places

rise_more : (last : Option ℕ) (p : ℕ) (ps : List ℕ) → Above last p → Rise p ps → RiseFrom last (p ∷ ps)
rise_more None p ps above rise = rise
rise_more (Some last) p ps above rise = (above, rise)

shared_by : (ranks : List ℕ) (p : ℕ) → double_of None ranks (Some p) ≡ None → count_of (p + 1) ranks ≤ 1
shared_by ranks p is =
    (branches (λ (o : Option ℕ). o ≡ None → count_of (p + 1) ranks ≤ 1) (nat_le 2 (count_of (p + 1) ranks)) (Some p) None (λ two h. some_none_place p h)
    (λ one h. omega (greater 2 (count_of (p + 1) ranks) one, arith))) is

pub single_by : (fall : Option ℕ) (ranks : List ℕ) (p : ℕ) → double_of fall ranks (Some p) ≡ None → (IsLate fall p → ⊥) × (count_of (p + 1) ranks ≤ 1)
single_by None ranks p is = ((λ late. no_fall late.0 late.1), shared_by ranks p is)
single_by (Some d) ranks p is =
    (branches (λ (o : Option ℕ). o ≡ None → (IsLate (Some d) p → ⊥) × (count_of (p + 1) ranks ≤ 1)) (nat_le d p) (Some d) (double_of None ranks (Some p))
    (λ late h. some_none_place d h)
    (λ early h. ((λ late. omega (greater d p early, same_some d late.0 late.1, late.2, arith)), shared_by ranks p h))) is

abbrev places_of : List OrderedNote → List ℕ
places_of ls = filter_map place_in (map note_of ls)

nothing_rises : (last : Option ℕ) → RiseFrom last []
nothing_rises None = tt
nothing_rises (Some last) = tt

pub took_rank : (rank : ℕ) (tracks rest : List (List Note)) (note : Note) → Took rank tracks note rest → rank_by (place_in note) ≡ rank
took_rank rank [] rest note took = absurd took
took_rank rank (track ∷ tracks) rest note (inl (notes, its, left, ranks)) = ranks
took_rank rank (track ∷ tracks) rest note (inr (others, left, elsewhere, took)) = took_rank rank tracks others note took

module _ (fall : Option ℕ) where
  -- a note is taken, and the rest goes on after it
  taken_rise : (tracks : List (List Note)) (last : Option ℕ) (x : Taken) (rank : ℕ) (later : List (List Note) → List OrderedNote) (place : Option ℕ) →
      least (ranks_of tracks) ≡ Some rank → Took rank tracks x.note x.rest → place_in x.note ≡ place →
      GoOn fall last tracks → double_of fall (ranks_of tracks) (place_in x.note) ≡ None →
      ((behind : Option ℕ) → GoOn fall behind x.rest → RiseFrom behind (places_of (later x.rest))) →
      RiseFrom last (cons_option (place_in x.note) (places_of (later x.rest)))
  taken_rise tracks last x rank later None has took is on single rises =
      subst (λ (o : Option ℕ). RiseFrom last (cons_option o (places_of (later x.rest)))) (sym is)
      (rises last (steps_past fall last rank tracks x.rest x.note took is on))
  taken_rise tracks last x rank later (Some p) has took is on single rises =
      let rank_is : rank ≡ p + 1 = sym (took_rank rank tracks x.rest x.note took) ∙ ap rank_by is in
      let (early, alone) = single_by fall (ranks_of tracks) p (ap (double_of fall (ranks_of tracks)) (sym is) ∙ single) in
      let below = least_least tracks (least (ranks_of tracks)) refl rank (λ b same. omega (same_some rank b (sym has ∙ same), arith)) in
      let (above, on_later) = steps_up fall last rank p tracks x.rest x.note took is rank_is on below
      (subst (λ n. count_of n (ranks_of tracks) ≤ 1) (sym rank_is) alone) early in
      subst (λ (o : Option ℕ). RiseFrom last (cons_option o (places_of (later x.rest)))) (sym is)
      (rise_more last p (places_of (later x.rest)) above (rises (Some p) on_later))

  rise_on : (tracks : List (List Note)) (last : Option ℕ) (later : List (List Note) → List OrderedNote) (o : Option Taken) → next_note tracks ≡ o →
      GoOn fall last tracks → AllByRecursion (λ (l : OrderedNote). l.double ≡ None) (order_on fall tracks later o) →
      ((rest : List (List Note)) (behind : Option ℕ) → GoOn fall behind rest → AllByRecursion (λ (l : OrderedNote). l.double ≡ None) (later rest) →
      RiseFrom behind (places_of (later rest))) → RiseFrom last (places_of (order_on fall tracks later o))
  rise_on tracks last later None is on single rises = nothing_rises last
  rise_on tracks last later (Some x) is on (single, others) rises =
      let (rank, has, took) = taken_by (least (ranks_of tracks)) tracks x is in
      taken_rise tracks last x rank later (place_in x.note) has took refl on single (λ behind on_later. rises x.rest behind on_later others)

  rise : (count : ℕ) (tracks : List (List Note)) (last : Option ℕ) → GoOn fall last tracks →
      AllByRecursion (λ (l : OrderedNote). l.double ≡ None) (order_by count fall tracks) → RiseFrom last (places_of (order_by count fall tracks))
  rise zero tracks last on single = nothing_rises last
  rise (suc count) tracks last on single = rise_on tracks last (λ rest. order_by count fall rest) (next_note tracks) refl on single
      (λ rest behind on_later others. rise count rest behind on_later others)

-- At the start

later_late : (a : ℕ) (o : Option ℕ) (place : ℕ) → IsLate o place → IsLate (Some (lesser a o)) place
later_late a o place (d, is, below) =
    let (here, there) = lesser_least a o (lesser a o) refl in
    (lesser a o, refl, omega (there d is, below, arith))

all_later : (a : ℕ) (o : Option ℕ) (places : List ℕ) → AllLate o places → AllLate (Some (lesser a o)) places
all_later a o [] late = tt
all_later a o (place ∷ places) late = (later_late a o place late.0, all_later a o places late.1)

pub all_late : (places : List ℕ) → AllLate (least places) places
all_late [] = tt
all_late (a ∷ places) = (
  (lesser a (least places), refl, (lesser_least a (least places) (lesser a (least places)) refl).0),
  all_later a (least places) places (all_late places),
)

late_parts : (fall : Option ℕ) (xs ys : List ℕ) → AllLate fall (xs ++ ys) → AllLate fall xs × AllLate fall ys
late_parts fall [] ys late = (tt, late)
late_parts fall (x ∷ xs) ys (first, late) = let (front, back) = late_parts fall xs ys late in ((first, front), back)

first_next : (fall : Option ℕ) (places : List ℕ) → IsNext fall None places
first_next fall [] = tt
first_next fall (place ∷ places) = inl tt

pub begin_on : (fall : Option ℕ) (tracks : List (List Note)) → AllLate fall (flat_map (λ track. falls (places_in track)) tracks) → GoOn fall None tracks
begin_on fall [] late = tt
begin_on fall (track ∷ tracks) late =
    let (here, there) = late_parts fall (falls (places_in track)) (flat_map (λ track. falls (places_in track)) tracks) late in
    ((first_next fall (places_in track), here), begin_on fall tracks there)

-- if no place is doubled, all places rise
pub order_rises : (tracks : List (List Note)) → AllByRecursion (λ (l : OrderedNote). l.double ≡ None) (order_of tracks) →
    AllRise (filter_map place_in (map note_of (order_of tracks)))
order_rises tracks single = rise (least_fall tracks) (count_in tracks) tracks None
    (begin_on (least_fall tracks) tracks (all_late (flat_map (λ track. falls (places_in track)) tracks))) single
