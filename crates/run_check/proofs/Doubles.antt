-- In the order of all notes no doubled place comes too late: behind a note without one, each is greater than the note's
-- place; behind a note with one, none is lesser. A track that has gone on from a place has only greater ones, or ones
-- that are not before the least fall; and a record closes at 0 or at a place that was taken.
use Rattle.std.proofs.Common.{◌≡◌, ◌⊎◌, ℕ, zero, suc, ◌+◌, ◌≤◌, ◌<◌, Bool, true, false, cond, List, [], ◌∷◌, ◌++◌, map, filter, Option, Some, None, refl, sym}
use Rattle.std.proofs.Common.{◌∙◌, ap, inl, inr, nat_le, nat_lt, subst, arith}
use Rattle.std.specs.List.{flat_map, cons_option}
use Rattle.floor_rules.specs.Floors.{FloorTable}
use Rattle.node_rules.specs.declared.state.NodeState.{NodeState}
use Rattle.node_rules.proofs.Cases.{branches, test_le}
use Rattle.node_book.specs.declared.book.NodeEntry.{NodeEntry}
use Rattle.node_book.specs.declared.record.Record.{Record}
use Rattle.purge_master.specs.declared.book.MasterEntry.{MasterEntry}
use Rattle.run_rules.specs.Notes.{Note, Opens, Steps, Closes, Calls, steps_of, last_place, kept_by, notes_of_all, calls_of, is_of, nodes_in, tracks_of}
use Rattle.run_rules.specs.Notes.{place_in, places_in, falls, falls_from, least, least_fall, rank_by, ranks_of, count_of, Taken, next_note}
use Rattle.run_rules.specs.Verdict.{OrderedNote, double_by, double_of, ordered, order_on, order_by, count_in, order_of, place_of}
use Rattle.run_rules.specs.First.{Flaw, IsDouble}
use Rattle.run_rules.proofs.Lists.{either, same_some}
use Rattle.run_rules.proofs.Taking.{Took, taken_by}
use Rattle.run_rules.proofs.Rising.{greater, less, IsLate, AllLate, Above, IsNext, GoOn, AreAtLeast, least_least, steps_up, steps_past, single_by, took_rank}
use Rattle.run_rules.proofs.Rising.{all_late, begin_on}

-- a note's place is lesser than this doubled one; a record that closes may be at 0
abbrev pub Precedes : Note → ℕ → Type 0
Precedes (Opens id state) d = Unit {0}
Precedes (Steps id e is_closed kept) d = e.place < d
Precedes (Closes id place state) d = (place ≡ 0) ⊎ (place < d)
Precedes (Calls e is_closed) d = e.place < d

-- no doubled place comes too late
abbrev pub InOrder : List OrderedNote → Type 0
InOrder [] = Unit {0}
InOrder (l ∷ ls) =
    (l.double ≡ None → ((f : Flaw) → IsDouble ls f → Precedes l.note f.place) × InOrder ls)
    × ((d : ℕ) → l.double ≡ Some d → (d ≤ place_of l.note) × ((f : Flaw) → IsDouble ls f → d ≤ f.place))

-- Places that are not lesser than a number

abbrev IsFrom : ℕ → Option ℕ → Type 0
IsFrom k None = Unit {0}
IsFrom k (Some p) = k ≤ p

abbrev AreFrom : ℕ → List ℕ → Type 0
AreFrom k [] = Unit {0}
AreFrom k (p ∷ ps) = (k ≤ p) × AreFrom k ps

abbrev AllFrom : ℕ → List (List Note) → Type 0
AllFrom k [] = Unit {0}
AllFrom k (track ∷ tracks) = AreFrom k (places_in track) × AllFrom k tracks

from_cons : (k : ℕ) (o : Option ℕ) (ps : List ℕ) → AreFrom k (cons_option o ps) → IsFrom k o × AreFrom k ps
from_cons k None ps from = (tt, from)
from_cons k (Some p) ps from = from

took_from : (k rank : ℕ) (tracks rest : List (List Note)) (note : Note) → Took rank tracks note rest → AllFrom k tracks →
    IsFrom k (place_in note) × AllFrom k rest
took_from k rank [] rest note took from = absurd took
took_from k rank (track ∷ tracks) rest note (inl (notes, its, left, ranks)) from =
    let (here, later) = from_cons k (place_in note) (places_in notes) (subst (λ (l : List Note). AreFrom k (places_in l)) its from.0) in
    (here, subst (AllFrom k) (sym left) (later, from.1))
took_from k rank (track ∷ tracks) rest note (inr (others, left, elsewhere, took)) from =
    let (here, there) = took_from k rank tracks others note took from.1 in
    (here, subst (AllFrom k) (sym left) (from.0, there))

late_from : (k : ℕ) (fall : Option ℕ) (p : ℕ) → IsFrom k fall → IsLate fall p → k ≤ p
late_from k fall p from (d, is, below) = omega (subst (IsFrom k) is from, below, arith)

-- after a place that is not lesser none is
falls_up : (k : ℕ) (fall : Option ℕ) → IsFrom k fall → (p : ℕ) (ps : List ℕ) → k ≤ p → AllLate fall (falls_from p ps) → AreFrom k ps
falls_up k fall from p [] up late = tt
falls_up k fall from p (f ∷ fs) up late =
    (branches (λ (l : List ℕ). AllLate fall l → (k ≤ f) × AreFrom k fs) (nat_lt p f) (falls_from f fs) (f ∷ falls_from f fs)
    (λ rises h.
    let here : k ≤ f = omega (up, less p f rises, arith) in
    (here, falls_up k fall from f fs here h))
    (λ stays h.
    let here : k ≤ f = late_from k fall f from h.0 in
    (here, falls_up k fall from f fs here h.1))) late

next_up : (m : ℕ) (fall : Option ℕ) → IsFrom (suc m) fall → (ps : List ℕ) → IsNext fall (Some m) ps → AllLate fall (falls ps) → AreFrom (suc m) ps
next_up m fall from [] next late = tt
next_up m fall from (p ∷ ps) (inl above) late =
    let here : suc m ≤ p = omega (above, arith) in
    (here, falls_up (suc m) fall from p ps here late)
next_up m fall from (p ∷ ps) (inr its) late =
    let here : suc m ≤ p = late_from (suc m) fall p from its in
    (here, falls_up (suc m) fall from p ps here late)

-- tracks that have gone on from a place have only greater ones
gone_on : (m : ℕ) (fall : Option ℕ) → IsFrom (suc m) fall → (tracks : List (List Note)) → GoOn fall (Some m) tracks → AllFrom (suc m) tracks
gone_on m fall from [] on = tt
gone_on m fall from (track ∷ tracks) on = (next_up m fall from (places_in track) on.0.0 on.0.1, gone_on m fall from tracks on.1)

first_up : (d p : ℕ) (fall : Option ℕ) → IsFrom d fall → d ≤ p → (o : Option ℕ) (ps : List ℕ) → p + 1 ≤ rank_by o →
    AllLate fall (falls (cons_option o ps)) → AreFrom d (cons_option o ps)
first_up d p fall from below None ps least late = absurd (omega (least, arith))
first_up d p fall from below (Some q) ps least late =
    let here : d ≤ q = omega (below, least, arith) in
    (here, falls_up d fall from q ps here late)

-- tracks of which none has a lower rank have no lesser places
least_up : (d p : ℕ) (fall last : Option ℕ) → IsFrom d fall → d ≤ p → (tracks : List (List Note)) → GoOn fall last tracks → AreAtLeast (p + 1) tracks →
    AllFrom d tracks
least_up d p fall last from below [] on least = tt
least_up d p fall last from below ([] ∷ tracks) on least = (tt, least_up d p fall last from below tracks on.1 least.1)
least_up d p fall last from below ((note ∷ notes) ∷ tracks) on least = (
  first_up d p fall from below (place_in note) (places_in notes) (least.0 (rank_by (place_in note)) refl) on.0.1,
  least_up d p fall last from below tracks on.1 least.1,
)

-- Doubled places

never : (d : ℕ) → None ≡ Some d → ⊥
never d is = cc

shared_from : (k : ℕ) (b : Bool) (p d : ℕ) → k ≤ p → cond b (Some p) None ≡ Some d → k ≤ d
shared_from k true p d here is = omega (here, same_some p d is, arith)
shared_from k false p d here is = cc

double_from : (k : ℕ) (fall : Option ℕ) (b : Bool) (o : Option ℕ) (d : ℕ) → IsFrom k fall → IsFrom k o → double_by fall b o ≡ Some d → k ≤ d
double_from k fall b None d from here is = absurd (never d is)
double_from k None b (Some p) d from here is = shared_from k b p d here is
double_from k (Some c) b (Some p) d from here is =
    (branches (λ (o : Option ℕ). o ≡ Some d → k ≤ d) (nat_le c p) (Some c) (cond b (Some p) None)
    (λ _ same. omega (same_some c d same, from, arith))
    (λ _ same. shared_from k b p d here same)) is

shared_parts : (b : Bool) (p d : ℕ) → cond b (Some p) None ≡ Some d → p ≡ d
shared_parts true p d is = same_some p d is
shared_parts false p d is = cc

double_parts : (fall : Option ℕ) (b : Bool) (p d : ℕ) → double_by fall b (Some p) ≡ Some d → (d ≤ p) × IsFrom d fall
double_parts None b p d is = (omega (shared_parts b p d is, arith), tt)
double_parts (Some c) b p d is =
    (branches (λ (o : Option ℕ). o ≡ Some d → (d ≤ p) × (d ≤ c)) (nat_le c p) (Some c) (cond b (Some p) None)
    (λ late same. (omega (same_some c d same, test_le c p late, arith), omega (same_some c d same, arith)))
    (λ early same. (omega (shared_parts b p d same, arith), omega (shared_parts b p d same, greater c p early, arith)))) is

doubles_on : (k : ℕ) (fall : Option ℕ) (tracks : List (List Note)) (later : List (List Note) → List OrderedNote) (o : Option Taken) → next_note tracks ≡ o →
    IsFrom k fall → AllFrom k tracks → ((rest : List (List Note)) → AllFrom k rest → (f : Flaw) → IsDouble (later rest) f → k ≤ f.place) →
    (f : Flaw) → IsDouble (order_on fall tracks later o) f → k ≤ f.place
doubles_on k fall tracks later None is from all below f double = absurd double
doubles_on k fall tracks later (Some x) is from all below f (inl (its, cause)) =
    let (rank, has, took) = taken_by (least (ranks_of tracks)) tracks x is in
    double_from k fall (nat_le 2 (count_of (rank_by (place_in x.note)) (ranks_of tracks))) (place_in x.note) f.place from
    (took_from k rank tracks x.rest x.note took all).0 its
doubles_on k fall tracks later (Some x) is from all below f (inr double) =
    let (rank, has, took) = taken_by (least (ranks_of tracks)) tracks x is in
    below x.rest (took_from k rank tracks x.rest x.note took all).1 f double

-- no doubled place is lesser than all places and the least fall
doubles_from : (k : ℕ) (fall : Option ℕ) → IsFrom k fall → (count : ℕ) (tracks : List (List Note)) → AllFrom k tracks → (f : Flaw) →
    IsDouble (order_by count fall tracks) f → k ≤ f.place
doubles_from k fall from zero tracks all f double = absurd double
doubles_from k fall from (suc count) tracks all f double =
    doubles_on k fall tracks (λ rest. order_by count fall rest) (next_note tracks) refl from all
    (λ rest on g its. doubles_from k fall from count rest on g its) f double

-- Where records close

-- the place is 0, or not greater than the last place
abbrev IsUpTo : Option ℕ → ℕ → Type 0
IsUpTo None place = place ≡ 0
IsUpTo (Some last) place = (place ≡ 0) ⊎ (place ≤ last)

-- each record of a track closes at 0 or at a place that was taken before
abbrev CloseUp : Option ℕ → List Note → Type 0
CloseUp last [] = Unit {0}
CloseUp last (Opens id state ∷ notes) = CloseUp last notes
CloseUp last (Steps id e is_closed kept ∷ notes) = CloseUp (Some e.place) notes
CloseUp last (Closes id place state ∷ notes) = IsUpTo last place × CloseUp last notes
CloseUp last (Calls e is_closed ∷ notes) = CloseUp (Some e.place) notes

abbrev AllCloseUp : Option ℕ → List (List Note) → Type 0
AllCloseUp last [] = Unit {0}
AllCloseUp last (track ∷ tracks) = CloseUp last track × AllCloseUp last tracks

up_later : (last : Option ℕ) (p place : ℕ) → Above last p → IsUpTo last place → IsUpTo (Some p) place
up_later None p place above up = inl up
up_later (Some last) p place above (inl none) = inl none
up_later (Some last) p place above (inr up) = inr (omega (above, up, arith))

close_later : (last : Option ℕ) (p : ℕ) → Above last p → (notes : List Note) → CloseUp last notes → CloseUp (Some p) notes
close_later last p above [] up = tt
close_later last p above (Opens id state ∷ notes) up = close_later last p above notes up
close_later last p above (Steps id e is_closed kept ∷ notes) up = up
close_later last p above (Closes id place state ∷ notes) up = (up_later last p place above up.0, close_later last p above notes up.1)
close_later last p above (Calls e is_closed ∷ notes) up = up

all_later : (last : Option ℕ) (p : ℕ) → Above last p → (tracks : List (List Note)) → AllCloseUp last tracks → AllCloseUp (Some p) tracks
all_later last p above [] up = tt
all_later last p above (track ∷ tracks) up = (close_later last p above track up.0, all_later last p above tracks up.1)

-- a note with this place is taken
close_entry : (last : Option ℕ) (p : ℕ) (note : Note) (notes : List Note) → place_in note ≡ Some p → CloseUp last (note ∷ notes) → CloseUp (Some p) notes
close_entry last p (Opens id state) notes is up = cc
close_entry last p (Steps id e is_closed kept) notes is up = subst (λ n. CloseUp (Some n) notes) (same_some e.place p is) up
close_entry last p (Closes id place state) notes is up = cc
close_entry last p (Calls e is_closed) notes is up = subst (λ n. CloseUp (Some n) notes) (same_some e.place p is) up

took_entry : (last : Option ℕ) (rank p : ℕ) → Above last p → (tracks rest : List (List Note)) (note : Note) → Took rank tracks note rest →
    place_in note ≡ Some p → AllCloseUp last tracks → AllCloseUp (Some p) rest
took_entry last rank p above [] rest note took is up = absurd took
took_entry last rank p above (track ∷ tracks) rest note (inl (notes, its, left, ranks)) is up =
    subst (AllCloseUp (Some p)) (sym left) (close_entry last p note notes is (subst (CloseUp last) its up.0), all_later last p above tracks up.1)
took_entry last rank p above (track ∷ tracks) rest note (inr (others, left, elsewhere, took)) is up =
    subst (AllCloseUp (Some p)) (sym left) (close_later last p above track up.0, took_entry last rank p above tracks others note took is up.1)

-- a note without a place is at 0, or at a place that was taken
abbrev IsNoteUp : Option ℕ → Note → Type 0
IsNoteUp last (Opens id state) = Unit {0}
IsNoteUp last (Steps id e is_closed kept) = ⊥
IsNoteUp last (Closes id place state) = IsUpTo last place
IsNoteUp last (Calls e is_closed) = ⊥

close_past : (last : Option ℕ) (note : Note) (notes : List Note) → place_in note ≡ None → CloseUp last (note ∷ notes) → IsNoteUp last note × CloseUp last notes
close_past last (Opens id state) notes is up = (tt, up)
close_past last (Steps id e is_closed kept) notes is up = cc
close_past last (Closes id place state) notes is up = up
close_past last (Calls e is_closed) notes is up = cc

took_past : (last : Option ℕ) (rank : ℕ) (tracks rest : List (List Note)) (note : Note) → Took rank tracks note rest → place_in note ≡ None →
    AllCloseUp last tracks → IsNoteUp last note × AllCloseUp last rest
took_past last rank [] rest note took is up = absurd took
took_past last rank (track ∷ tracks) rest note (inl (notes, its, left, ranks)) is up =
    let (here, later) = close_past last note notes is (subst (CloseUp last) its up.0) in
    (here, subst (AllCloseUp last) (sym left) (later, up.1))
took_past last rank (track ∷ tracks) rest note (inr (others, left, elsewhere, took)) is up =
    let (here, there) = took_past last rank tracks others note took is up.1 in
    (here, subst (AllCloseUp last) (sym left) (up.0, there))

-- the tracks of a run

up_to_none : (last : Option ℕ) → IsUpTo last 0
up_to_none None = refl
up_to_none (Some last) = inl refl

calls_close : (last : Option ℕ) (es : List MasterEntry) → CloseUp last (calls_of es)
calls_close last [] = tt
calls_close last (e ∷ es) = calls_close (Some e.place) es

steps_close : (last : Option ℕ) (id place : ℕ) (is_closed : Bool) (kept : FloorTable) (state : NodeState (Unit {0})) (es : List NodeEntry) (later : List Note) →
    IsUpTo last place → ((o : Option ℕ) → CloseUp o later) →
    CloseUp last ((steps_of id is_closed kept es ++ Closes id (last_place place es) state ∷ []) ++ later)
steps_close last id place is_closed kept state [] later up all = (up, all last)
steps_close last id place is_closed kept state (e ∷ es) later up all =
    steps_close (Some e.place) id e.place is_closed kept state es later (inr (omega arith)) all

notes_close : (rs : List Record) (last : Option ℕ) → CloseUp last (notes_of_all rs)
notes_close [] last = tt
notes_close (r ∷ rs) last =
    steps_close last r.node 0 r.closing.closed (kept_by r.closing.floors rs) r.closing r.entries (notes_of_all rs) (up_to_none last) (λ o. notes_close rs o)

nodes_close : (records : List Record) (entries : List MasterEntry) (ids : List ℕ) →
    AllCloseUp None (map (λ id. notes_of_all (filter (is_of id) records)) ids ++ calls_of entries ∷ [])
nodes_close records entries [] = (calls_close None entries, tt)
nodes_close records entries (id ∷ ids) = (notes_close (filter (is_of id) records) None, nodes_close records entries ids)

-- All notes

-- the least fall is greater than the last place
abbrev IsEarly : Option ℕ → Option ℕ → Type 0
IsEarly fall None = Unit {0}
IsEarly fall (Some last) = IsFrom (suc last) fall

not_late : (fall : Option ℕ) (p : ℕ) → (IsLate fall p → ⊥) → IsFrom (suc p) fall
not_late None p early = tt
not_late (Some d) p early = elim (either (nat_le d p)) [
  | inl late ↦ absurd (early (d, refl, test_le d p late))
  | inr more ↦ omega (greater d p more, arith)
]

entry_precedes : (note : Note) (p d : ℕ) → place_in note ≡ Some p → p < d → Precedes note d
entry_precedes (Opens id state) p d is below = tt
entry_precedes (Steps id e is_closed kept) p d is below = omega (same_some e.place p is, below, arith)
entry_precedes (Closes id place state) p d is below = cc
entry_precedes (Calls e is_closed) p d is below = omega (same_some e.place p is, below, arith)

entry_place : (note : Note) (p : ℕ) → place_in note ≡ Some p → p ≤ place_of note
entry_place (Opens id state) p is = cc
entry_place (Steps id e is_closed kept) p is = omega (same_some e.place p is, arith)
entry_place (Closes id place state) p is = cc
entry_place (Calls e is_closed) p is = omega (same_some e.place p is, arith)

past_precedes : (last : Option ℕ) (note : Note) (d : ℕ) → IsNoteUp last note → ((m : ℕ) → last ≡ Some m → m < d) → Precedes note d
past_precedes last (Opens id state) d up above = tt
past_precedes last (Steps id e is_closed kept) d up above = absurd up
past_precedes None (Closes id place state) d up above = inl up
past_precedes (Some m) (Closes id place state) d (inl none) above = inl none
past_precedes (Some m) (Closes id place state) d (inr up) above = inr (omega (up, above m refl, arith))
past_precedes last (Calls e is_closed) d up above = absurd up

module _ (fall : Option ℕ) where
  -- a doubled place behind a place that was gone on from is greater
  later_up : (count m : ℕ) (tracks : List (List Note)) → GoOn fall (Some m) tracks → IsFrom (suc m) fall → (f : Flaw) →
      IsDouble (order_by count fall tracks) f → m < f.place
  later_up count m tracks on early f double =
      let below : suc m ≤ f.place = doubles_from (suc m) fall early count tracks (gone_on m fall early tracks on) f double in
      omega (below, arith)

  last_up : (count : ℕ) (last : Option ℕ) (tracks : List (List Note)) → GoOn fall last tracks → IsEarly fall last → (f : Flaw) →
      IsDouble (order_by count fall tracks) f → (m : ℕ) → last ≡ Some m → m < f.place
  last_up count None tracks on early f double m is = cc
  last_up count (Some last) tracks on early f double m is = subst (λ n. n < f.place) (same_some last m is) (later_up count last tracks on early f double)

  -- a note is taken, and the rest is in order after it
  taken_order : (count : ℕ) (tracks : List (List Note)) (last : Option ℕ) (x : Taken) (rank : ℕ) (place : Option ℕ) →
      least (ranks_of tracks) ≡ Some rank → Took rank tracks x.note x.rest → place_in x.note ≡ place →
      GoOn fall last tracks → IsEarly fall last → AllCloseUp last tracks →
      ((behind : Option ℕ) → GoOn fall behind x.rest → IsEarly fall behind → AllCloseUp behind x.rest → InOrder (order_by count fall x.rest)) →
      InOrder (ordered fall tracks x.note ∷ order_by count fall x.rest)
  taken_order count tracks last x rank None has took is on early up rises =
      let on_later = steps_past fall last rank tracks x.rest x.note took is on in
      let (here, later) = took_past last rank tracks x.rest x.note took is up in (
        (λ single. (
          (λ f double. past_precedes last x.note f.place here (last_up count last x.rest on_later early f double)),
          rises last on_later early later,
        )),
        (λ d double. absurd (never d (ap (double_of fall (ranks_of tracks)) (sym is) ∙ double))),
      )
  taken_order count tracks last x rank (Some p) has took is on early up rises =
      let rank_is : rank ≡ p + 1 = sym (took_rank rank tracks x.rest x.note took) ∙ ap rank_by is in
      let below = least_least tracks (least (ranks_of tracks)) refl rank (λ b same. omega (same_some rank b (sym has ∙ same), arith)) in (
        (λ single.
            let (prompt, alone) = single_by fall (ranks_of tracks) p (ap (double_of fall (ranks_of tracks)) (sym is) ∙ single) in
            let (above, on_later) = steps_up fall last rank p tracks x.rest x.note took is rank_is on below
            (subst (λ n. count_of n (ranks_of tracks) ≤ 1) (sym rank_is) alone) prompt in
            let early_later = not_late fall p prompt in (
              (λ f double. entry_precedes x.note p f.place is (later_up count p x.rest on_later early_later f double)),
              rises (Some p) on_later early_later (took_entry last rank p above tracks x.rest x.note took is up),
            )),
        (λ d double.
            let (not_later, from) =
            double_parts fall (nat_le 2 (count_of (rank_by (Some p)) (ranks_of tracks))) p d (ap (double_of fall (ranks_of tracks)) (sym is) ∙ double) in
            let all = least_up d p fall last from not_later tracks on (subst (λ n. AreAtLeast n tracks) rank_is below) in
            let before = entry_place x.note p is in (
              omega (not_later, before, arith),
              (λ f its. doubles_from d fall from count x.rest (took_from d rank tracks x.rest x.note took all).1 f its),
            )),
      )

  order_next : (count : ℕ) (tracks : List (List Note)) (last : Option ℕ) (o : Option Taken) → next_note tracks ≡ o →
      GoOn fall last tracks → IsEarly fall last → AllCloseUp last tracks →
      ((rest : List (List Note)) (behind : Option ℕ) → GoOn fall behind rest → IsEarly fall behind → AllCloseUp behind rest →
      InOrder (order_by count fall rest)) →
      InOrder (order_on fall tracks (λ rest. order_by count fall rest) o)
  order_next count tracks last None is on early up rises = tt
  order_next count tracks last (Some x) is on early up rises =
      let (rank, has, took) = taken_by (least (ranks_of tracks)) tracks x is in
      taken_order count tracks last x rank (place_in x.note) has took refl on early up (λ behind. rises x.rest behind)

  order_from : (count : ℕ) (tracks : List (List Note)) (last : Option ℕ) → GoOn fall last tracks → IsEarly fall last → AllCloseUp last tracks →
      InOrder (order_by count fall tracks)
  order_from zero tracks last on early up = tt
  order_from (suc count) tracks last on early up =
      order_next count tracks last (next_note tracks) refl on early up (λ rest behind. order_from count rest behind)

-- all notes of a run are in order
pub in_order : (records : List Record) (entries : List MasterEntry) → InOrder (order_of (tracks_of records entries))
in_order records entries =
    let tracks = tracks_of records entries in
    order_from (least_fall tracks) (count_in tracks) tracks None
    (begin_on (least_fall tracks) tracks (all_late (flat_map (λ track. falls (places_in track)) tracks))) tt
    (nodes_close records entries (nodes_in records))
