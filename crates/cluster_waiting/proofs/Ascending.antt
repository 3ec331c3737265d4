-- Rounds stay in the order of their deadlines: one that is added gets the latest deadline so far or a later one, and
-- only the first is taken out.
use Rattle.std.proofs.Common.{◌≡◌, ◌≤◌, ◌<◌, ℕ, Bool, true, false, cond, List, [], ◌∷◌, ◌++◌, length, get_or, length-append, arith}
use Rattle.std.specs.List.{All}
use Rattle.std.specs.Prelude.{filter, not, ◌==◌}
use Rattle.std.proofs.lemmas.List.Elements.{All-nil, All-push, All-head, All-tail, All-weaker, All-filter}
use Rattle.std.proofs.lemmas.List.Sums.{length-filter, count_by-le-length}
use Rattle.cluster_waiting.specs.declared.rounds.WaitingRound.{WaitingRound}
use Rattle.cluster_waiting.specs.Waiting.{Ascend, rounds_without}

-- a round with the latest deadline so far may stand last
ascend_push : (rounds : List WaitingRound) (w : WaitingRound) → Ascend rounds → All (λ v. v.until ≤ w.until) rounds → Ascend (rounds ++ w ∷ [])
ascend_push [] w up low = (All-nil _, tt)
ascend_push (v ∷ rounds) w up low = (
  All-push (λ later. v.until ≤ later.until) rounds w up.0 (All-head (λ x. x.until ≤ w.until) v rounds low),
  ascend_push rounds w up.1 (All-tail (λ x. x.until ≤ w.until) v rounds low),
)

-- the rounds with one more: still in order, none later than the latest, 65,536 at most
pub one_more : (rounds : List WaitingRound) (w : WaitingRound) (latest : ℕ) → Ascend rounds → All (λ v. v.until ≤ latest) rounds → latest ≤ w.until →
    length rounds < 65536
    → Ascend (rounds ++ w ∷ []) × All (λ v. v.until ≤ w.until) (rounds ++ w ∷ []) × (length (rounds ++ w ∷ []) ≤ 65536)
one_more rounds w latest up early late few =
    let low : All (λ v. v.until ≤ w.until) rounds = All-weaker (λ v. v.until ≤ latest) (λ v. v.until ≤ w.until) (λ v h. omega arith) rounds early in (
      ascend_push rounds w up low,
      All-push (λ v. v.until ≤ w.until) rounds w low (omega arith),
      omega (arith, length-append rounds (w ∷ [])),
    )

-- the rounds without the first: the same
pub one_fewer : (old rest : List WaitingRound) (w : WaitingRound) (latest : ℕ) → old ≡ w ∷ rest → Ascend old × All (λ v. v.until ≤ latest) old
    × (length old ≤ 65536)
    → Ascend rest × All (λ v. v.until ≤ latest) rest × (length rest ≤ 65536)
one_fewer old rest w latest e h =
    let k = rw e at h in
    let few : length (w ∷ rest) ≤ 65536 = k.2 in
    (k.0.1, All-tail (λ v. v.until ≤ latest) w rest k.1, omega arith)

-- the first round, which is taken out, is the one whose deadline was compared
pub front_is_over : (old rest : List WaitingRound) (w v : WaitingRound) (now : ℕ) → old ≡ w ∷ rest → v ≡ get_or old 0 v → v.until ≤ now → w.until ≤ now
front_is_over old rest w v now e seen late =
    let same : v ≡ w = rw e at seen in
    rw same at late

-- a round before some of those that were behind it
ascend_case : (kept : Bool) (w : WaitingRound) (rounds : List WaitingRound) → All (λ later. w.until ≤ later.until) rounds → Ascend rounds →
    Ascend (cond kept (w ∷ rounds) rounds)
ascend_case true w rounds low up = (low, up)
ascend_case false w rounds low up = up

-- some of the rounds, in the same order
ascend_some : (test : WaitingRound → Bool) (rounds : List WaitingRound) → Ascend rounds → Ascend (filter test rounds)
ascend_some test [] up = tt
ascend_some test (w ∷ rounds) up =
    ascend_case (test w) w (filter test rounds) (All-filter test (λ later. w.until ≤ later.until) rounds up.0) (ascend_some test rounds up.1)

-- the rounds but for those of a serial: still in order, none later than the latest, 65,536 at most
pub some_fewer : (rounds : List WaitingRound) (serial latest : ℕ) → Ascend rounds × All (λ v. v.until ≤ latest) rounds × (length rounds ≤ 65536)
    → Ascend (rounds_without serial rounds) × All (λ v. v.until ≤ latest) (rounds_without serial rounds) × (length (rounds_without serial rounds) ≤ 65536)
some_fewer rounds serial latest h =
    let test : WaitingRound → Bool = λ w. not (w.serial == serial) in (
      ascend_some test rounds h.0,
      All-filter test (λ v. v.until ≤ latest) rounds h.1,
      omega (arith, length-filter test rounds, count_by-le-length test rounds),
    )
