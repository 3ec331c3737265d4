-- A round has a place for each first answer. An answer that counts takes one place, and makes the
-- peers that have not answered fewer by one at least (`awaited_less`). So the places used never
-- exceed the peers asked, of which there are at most 23.
use Rattle.std.proofs.Common.{◌≡◌, ℕ, ◌+◌, ◌<◌, ◌≤◌, ◌==◌, ◌||◌, Bool, true, false, not, cond, List, [], ◌∷◌, ◌++◌, length, take, set, Option, Some, None, refl}
use Rattle.std.proofs.Common.{sym, ap, subst, ◌∙◌, arith}
use Rattle.std.specs.List.{find}
use Rattle.std.proofs.lemmas.Bool.{eqb-true}
use Rattle.std.proofs.lemmas.Bool.Decides.{nat_tests}
use Rattle.std.proofs.lemmas.List.{length-set, take_more_set}
use Rattle.std.proofs.lemmas.List.Folds.{list_any-append}
use Rattle.std.proofs.lemmas.List.Sums.{sum_by-cons}
use Rattle.values_tables.specs.declared.plain.Peer.{Peer}
use Rattle.peer_chooser.specs.declared.said.Said.{Said}
use Rattle.peer_chooser.specs.declared.said.FirstAnswer.{FirstAnswer}
use Rattle.peer_chooser.specs.Round.{RoundText, has_answered, awaited, with_answer, answered}
use Rattle.peer_chooser.specs.Room.{HasRoom, awaited_count}

-- 1 if this peer has not answered, else 0
abbrev waits : List FirstAnswer → Peer → ℕ
waits answers p = cond (not (has_answered answers p.id)) 1 0

waits_less : (before now : Bool) → cond (not (before || (now || false))) 1 0 ≤ cond (not before) 1 0
waits_less true now = omega arith
waits_less false true = omega arith
waits_less false false = omega arith

waits_no_more : (answers : List FirstAnswer) (t : FirstAnswer) (p : Peer) → waits (answers ++ t ∷ []) p ≤ waits answers p
waits_no_more answers t p = rw list_any-append (waits_less (has_answered answers p.id) (t.peer.id == p.id))

more_peers : (answers : List FirstAnswer) (p : Peer) (asked : List Peer) → awaited_count (p ∷ asked) answers ≡ waits answers p + awaited_count asked answers
more_peers answers p asked = sum_by-cons (waits answers) p asked

awaited_no_more : (asked : List Peer) (answers : List FirstAnswer) (t : FirstAnswer) → awaited_count asked (answers ++ t ∷ []) ≤ awaited_count asked answers
awaited_no_more [] answers t = omega arith
awaited_no_more (p ∷ asked) answers t =
    let here = waits_no_more answers t p in
    let others = awaited_no_more asked answers t in
    omega (arith, more_peers answers p asked, more_peers (answers ++ t ∷ []) p asked, here, others)

answered_now : (before : Bool) (id : ℕ) → ◌≡◌ {A = ℕ} (cond (not (before || ((id == id) || false))) 1 0) 0
answered_now true id = refl
answered_now false id = grind (arith, nat_tests)

waits_not : (answers : List FirstAnswer) (t : FirstAnswer) → waits (answers ++ t ∷ []) t.peer ≡ 0
waits_not answers t = rw list_any-append (answered_now (has_answered answers t.peer.id) t.peer.id)

silent_waits : (answers : List FirstAnswer) (p : Peer) → has_answered answers p.id ≡ false → waits answers p ≡ 1
silent_waits answers p silent = rw silent refl

-- a peer that has not answered yet, and others: once it answers, the count falls
first_waits : (q : Peer) (asked : List Peer) (answers : List FirstAnswer) (said : Said) → has_answered answers q.id ≡ false
    → awaited_count (q ∷ asked) (answers ++ record { peer = q; said = said } ∷ []) + 1 ≤ awaited_count (q ∷ asked) answers
first_waits q asked answers said silent =
    let t : FirstAnswer = record { peer = q; said = said } in
    let others = awaited_no_more asked answers t in
    omega (arith, more_peers answers q asked, more_peers (answers ++ t ∷ []) q asked, others, waits_not answers t, silent_waits answers q silent)

pub awaited_less : (asked : List Peer) (answers : List FirstAnswer) (id : ℕ) (p : Peer) (said : Said) → has_answered answers id ≡ false →
    find (λ q. q.id == id) asked ≡ Some p
    → awaited_count asked (answers ++ record { peer = p; said = said } ∷ []) + 1 ≤ awaited_count asked answers
awaited_less [] answers id p said silent found = cc
awaited_less (q ∷ asked) answers id p said silent found = by_cases (q.id == id) refl found (awaited_less asked answers id p said silent)
  where
    by_cases : (same : Bool) → (q.id == id) ≡ same → cond same (Some q) (find (λ q. q.id == id) asked) ≡ Some p
        → (find (λ q. q.id == id) asked ≡ Some p → awaited_count asked (answers ++ record { peer = p; said = said } ∷ []) + 1 ≤ awaited_count asked answers)
        → awaited_count (q ∷ asked) (answers ++ record { peer = p; said = said } ∷ []) + 1 ≤ awaited_count (q ∷ asked) answers
    by_cases true same here further =
        let is : q ≡ p = cc in
        let silent_q : has_answered answers q.id ≡ false = rw (eqb-true q.id id same) silent in
        subst (λ (r : Peer). awaited_count (q ∷ asked) (answers ++ record { peer = r; said = said } ∷ []) + 1 ≤ awaited_count (q ∷ asked) answers) is
        (first_waits q asked answers said silent_q)
    by_cases false other later further =
        let t : FirstAnswer = record { peer = p; said = said } in
        let here = waits_no_more answers t q in
        let others = further later in
        omega (arith, more_peers answers q asked, more_peers (answers ++ t ∷ []) q asked, here, others)

awaited_parts : (answers : List FirstAnswer) (id : ℕ) (others : Option Peer) (p : Peer) → cond (has_answered answers id) None others ≡ Some p →
    (has_answered answers id ≡ false) × (others ≡ Some p)
awaited_parts answers id others p is = by_cases (has_answered answers id) is
  where
    by_cases : (has : Bool) → cond has None others ≡ Some p → (has ≡ false) × (others ≡ Some p)
    by_cases true is = cc
    by_cases false is = (refl, is)

-- An answer that counts

-- what a contract sees of a round's arrays
abbrev pub seen : List Peer → ℕ → List FirstAnswer → ℕ → Bool → RoundText
seen asked asked_count answers answer_count expired = record { asked = take asked_count asked; answers = take answer_count answers; expired = expired }

module _ (asked : List Peer) (asked_count : ℕ) (answers : List FirstAnswer) (answer_count : ℕ) (expired : Bool) (id : ℕ) (p : Peer) (said : Said)
    (room : HasRoom asked asked_count answers answer_count)
    (is : awaited (seen asked asked_count answers answer_count expired) id ≡ Some p) where
  less : awaited_count (take asked_count asked) (take answer_count answers ++ record { peer = p; said = said } ∷ []) + 1 ≤ awaited_count
      (take asked_count asked) (take answer_count answers)
  less =
      let parts = awaited_parts (take answer_count answers) id (find (λ q. q.id == id) (take asked_count asked)) p is in
      awaited_less (take asked_count asked) (take answer_count answers) id p said parts.0 parts.1

  pub has_place : answer_count < 23
  has_place = omega (arith, less, room.few, room.room)

  within : answer_count < length answers
  within = omega (arith, has_place, room.places)

  pub HasRoom-more : HasRoom asked asked_count (set answers answer_count record { peer = p; said = said }) (answer_count + 1)
  HasRoom-more = record {
    few = room.few;
    places = length-set answers answer_count record { peer = p; said = said } ∙ room.places;
    room = rw (take_more_set answers answer_count record { peer = p; said = said } within) (omega (arith, less, room.room));
  }

  pub seen_more : seen asked asked_count (set answers answer_count record { peer = p; said = said }) (answer_count + 1) expired ≡ answered
      (seen asked asked_count answers answer_count expired) id said
  seen_more =
      ap (λ (ts : List FirstAnswer). record { asked = take asked_count asked; answers = ts; expired = expired })
      (take_more_set answers answer_count record { peer = p; said = said } within)
      ∙ sym (ap (with_answer (seen asked asked_count answers answer_count expired) said) is)
