-- The least place that is not greater than the one before it: the loop goes from the end of a track
-- to its start, and each note adds the fall between it and the next.
use Rattle.std.proofs.Common.{◌≡◌, ℕ, ◌+◌, ◌<◌, Bool, true, false, cond, not, List, [], ◌∷◌, ◌++◌, length, take, get_or, Option, Some, None, nat_le}
use Rattle.std.proofs.Common.{nat_lt, append-nil, refl, sym, ◌∙◌, ap, arith}
use Rattle.std.specs.Global.{Vec}
use Rattle.std.specs.List.{flat_map, cons_option}
use Rattle.std.proofs.lemmas.List.{take_more, map-append}
use Rattle.std.proofs.lemmas.Grind.{flat_map-append}
use Rattle.run_rules.specs.Notes.{Note, lesser, least, falls, falls_from, places_in, place_in, least_fall}
use Rattle.run_notes.specs.declared.note.Note.{Note as Held}
use Rattle.run_notes.specs.Held.{note_of, track_of, tracks_in, fall_with, lesser_fall}
use Rattle.run_notes.proofs.Stacks.{one_more}

le_not_lt : (p q : ℕ) → nat_le q p ≡ not (nat_lt p q)
le_not_lt p q = grind arith

by_order : (b : Bool) (q : ℕ) (a : List ℕ) → least (cond b a (q ∷ a)) ≡ cond (not b) (Some (lesser q (least a))) (least a)
by_order true q a = refl
by_order false q a = refl

-- the first of these, if there is one
abbrev pub first_of : List ℕ → Option ℕ
first_of [] = None
first_of (p ∷ ps) = Some p

falls_more : (p : ℕ) (ps : List ℕ) → least (falls (p ∷ ps)) ≡ fall_with p (first_of ps) (least (falls ps))
falls_more p [] = refl
falls_more p (q ∷ ps) = by_order (nat_lt p q) q (falls_from q ps) ∙ ap (λ b. cond b (Some (lesser q (least (falls_from q ps)))) (least (falls_from q ps)))
    (sym (le_not_lt p q))

-- the least fall and the first place of the notes seen so far
pub record Fallen (places : List ℕ) (first least_one : Option ℕ) : Type 0 where
  pub next : first ≡ first_of places
  pub fall : least_one ≡ least (falls places)

pub nothing_fallen : Fallen [] None None
nothing_fallen = record { next = refl; fall = refl }

placed : (xs : List Held) (i : ℕ) (n : Held) → i < length xs → n ≡ get_or xs i n → places_in (track_of (take (i + 1) xs)) ≡ cons_option (place_in (note_of n))
    (places_in (track_of (take i xs)))
placed xs i n less is = ap places_in (one_more xs i n less is)

pub fallen_more : (xs : List Held) (i : ℕ) (n : Held) (p : ℕ) (next fall : Option ℕ) → i < length xs → n ≡ get_or xs i n → place_in (note_of n) ≡ Some p →
    Fallen (places_in (track_of (take i xs))) next fall → Fallen (places_in (track_of (take (i + 1) xs))) (Some p) (fall_with p next fall)
fallen_more xs i n p next fall less is place before =
    let behind : List ℕ = places_in (track_of (take i xs)) in
    let now : places_in (track_of (take (i + 1) xs)) ≡ p ∷ behind = placed xs i n less is ∙ ap (λ o. cons_option o behind) place in
    record {
      next = ap first_of (sym now);
      fall = ap (λ o. fall_with p o fall) before.next ∙ ap (fall_with p (first_of behind)) before.fall ∙ sym (falls_more p behind)
          ∙ ap (λ l. least (falls l)) (sym now);
    }

pub fallen_same : (xs : List Held) (i : ℕ) (n : Held) (next fall : Option ℕ) → i < length xs → n ≡ get_or xs i n → place_in (note_of n) ≡ None →
    Fallen (places_in (track_of (take i xs))) next fall → Fallen (places_in (track_of (take (i + 1) xs))) next fall
fallen_same xs i n next fall less is place before =
    let behind : List ℕ = places_in (track_of (take i xs)) in
    let now : places_in (track_of (take (i + 1) xs)) ≡ behind = placed xs i n less is ∙ ap (λ o. cons_option o behind) place in
    record { next = before.next ∙ ap first_of (sym now); fall = before.fall ∙ ap (λ l. least (falls l)) (sym now) }

pub fallen_by : (places : List ℕ) (next fall first least_one : Option ℕ) → next ≡ first → fall ≡ least_one → Fallen places first least_one →
    Fallen places next fall
fallen_by places next fall first least_one n f fallen = record { next = n ∙ fallen.next; fall = f ∙ fallen.fall }

-- All tracks

lesser_three : (a b c : ℕ) → lesser a (Some (lesser b (Some c))) ≡ lesser (lesser a (Some b)) (Some c)
lesser_three a b c = grind arith

lesser_both : (a : ℕ) (o p : Option ℕ) → lesser a (lesser_fall o p) ≡ lesser (lesser a o) p
lesser_both a None p = refl
lesser_both a (Some b) None = refl
lesser_both a (Some b) (Some c) = lesser_three a b c

least_append : (xs ys : List ℕ) → least (xs ++ ys) ≡ lesser_fall (least xs) (least ys)
least_append [] ys = refl
least_append (a ∷ xs) ys = ap (λ o. Some (lesser a o)) (least_append xs ys) ∙ ap Some (lesser_both a (least xs) (least ys))

abbrev falls_in : List Note → List ℕ
falls_in track = falls (places_in track)

of_one : (track : List Note) → least (falls (places_in track)) ≡ least_fall (track ∷ [])
of_one track = ap least (sym (append-nil (falls (places_in track))))

-- one more track
pub fall_more : (tracks : List (Vec Held)) (i : ℕ) (t : Vec Held) → i < length tracks → t ≡ get_or tracks i t →
    lesser_fall (least_fall (tracks_in (take i tracks))) (least (falls (places_in (track_of t.items)))) ≡ least_fall (tracks_in (take (i + 1) tracks))
fall_more tracks i t less is =
    let before : List (List Note) = tracks_in (take i tracks) in
    ap (lesser_fall (least_fall before)) (of_one (track_of t.items)) ∙ sym (least_append (flat_map falls_in before) (flat_map falls_in (track_of t.items ∷ [])))
    ∙ ap least (sym (flat_map-append falls_in before (track_of t.items ∷ [])))
    ∙ ap least_fall (sym (map-append (λ (v : Vec Held). track_of v.items) (take i tracks) (t ∷ [])))
    ∙ ap (λ x. least_fall (tracks_in (take i tracks ++ x ∷ []))) is ∙ ap (λ l. least_fall (tracks_in l)) (sym (take_more tracks i t less))
