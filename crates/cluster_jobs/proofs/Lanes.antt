-- How many jobs of each lane wait: one more after a put, one fewer after a take, and never more than 256.
use Rattle.std.proofs.Common.{◌≡◌, ◌≤◌, ◌<◌, ◌+◌, ◌-◌, ◌==◌, ℕ, zero, Bool, true, false, if◌then◌else◌, List, [], ◌∷◌, ◌++◌, length, slice_index_or, slice_set}
use Rattle.std.proofs.Common.{refl, sym, ap, ◌∙◌, subst, arith, length-set, replicate, suc}
use Rattle.std.proofs.lemmas.List.{get_or-replicate, get_or-set_other, get_or-set_same, length-replicate}
use Rattle.std.proofs.lemmas.Bool.Decides.{nat_tests}
use Rattle.cluster_jobs.specs.declared.job.Sender.TheVariants.{Master, Peer, Stranger}
use Rattle.cluster_jobs.specs.declared.order.Sight.{Sight}
use Rattle.cluster_jobs.specs.declared.order.Sight.TheVariants as sight
use Rattle.cluster_jobs.specs.Lanes.{lane_of, place_of, at_place, AreCounts}

-- the place at which a job waits
abbrev at_of : Sight → ℕ
at_of s = place_of (lane_of s)

-- how many this job is among those at a place
abbrev one : ℕ → Sight → ℕ
one k s = if at_of s == k then 1 else 0

-- each place is one of the six
pub below_six : (s : Sight) → at_of s < 6
below_six (sight.Datagram Master udp from octets) = omega arith
below_six (sight.Datagram Peer udp from octets) = omega arith
below_six (sight.Datagram Stranger udp from octets) = omega arith
below_six (sight.Stream number) = omega arith
below_six (sight.Timer serial) = omega arith
below_six (sight.Fetched f) = omega arith
below_six (sight.Failed serial) = omega arith

-- the jobs at a place, with one more in front
pub count_cons : (k : ℕ) (s : Sight) (xs : List Sight) → length (at_place k (s ∷ xs)) ≡ one k s + length (at_place k xs)
count_cons k s xs = by_test (at_of s == k) refl where
  by_test : (b : Bool) → (at_of s == k) ≡ b → length (at_place k (s ∷ xs)) ≡ one k s + length (at_place k xs)
  by_test true is = rw is (omega arith)
  by_test false is = rw is (omega arith)

-- the jobs at a place, with one more behind
pub count_snoc : (k : ℕ) (xs : List Sight) (s : Sight) → length (at_place k (xs ++ s ∷ [])) ≡ length (at_place k xs) + one k s
count_snoc k [] s = let h = count_cons k s [] in omega (arith, h)
count_snoc k (x ∷ xs) s =
    omega (arith, count_cons k x (xs ++ s ∷ []), count_cons k x xs, count_snoc k xs s)

-- the job itself is at its place
pub one_here : (k : ℕ) (s : Sight) → at_of s ≡ k → one k s ≡ 1
one_here k s here = by_test (at_of s == k) refl where
  by_test : (b : Bool) → (at_of s == k) ≡ b → one k s ≡ 1
  by_test true is = rw is refl
  by_test false is = absurd (grind (arith, nat_tests, is, here))

-- and at no other
pub one_else : (k : ℕ) (s : Sight) → ¬ (at_of s ≡ k) → one k s ≡ 0
one_else k s apart = by_test (at_of s == k) refl where
  by_test : (b : Bool) → (at_of s == k) ≡ b → one k s ≡ 0
  by_test true is = absurd (apart (grind (arith, nat_tests, is)))
  by_test false is = rw is refl

-- all jobs are those at the six places
pub all_six : (xs : List Sight) → length xs
    ≡ length (at_place 0 xs) + length (at_place 1 xs) + length (at_place 2 xs) + length (at_place 3 xs) + length (at_place 4 xs) + length (at_place 5 xs)
all_six [] = refl
all_six (sight.Datagram Master udp from octets ∷ xs) = let h = all_six xs in omega (arith, h)
all_six (sight.Datagram Peer udp from octets ∷ xs) = let h = all_six xs in omega (arith, h)
all_six (sight.Datagram Stranger udp from octets ∷ xs) = let h = all_six xs in omega (arith, h)
all_six (sight.Stream number ∷ xs) = let h = all_six xs in omega (arith, h)
all_six (sight.Timer serial ∷ xs) = let h = all_six xs in omega (arith, h)
all_six (sight.Fetched f ∷ xs) = let h = all_six xs in omega (arith, h)
all_six (sight.Failed serial ∷ xs) = let h = all_six xs in omega (arith, h)

-- no job waits, and no lane has one
pub counts_none : (counts : List ℕ) → counts ≡ replicate 6 0 → AreCounts counts []
counts_none counts are = let none : ℕ = 0 in record {
  six = ap length are ∙ length-replicate 6 none;
  each = λ k d below. ap (λ ns. slice_index_or ns k d) are ∙ get_or-replicate 6 k 0 d below;
  most = λ k below. omega arith;
}

-- where a lane has fewer than 256 jobs, all lanes have fewer than 1,536
pub has_room : (counts : List ℕ) (xs : List Sight) (k : ℕ) → AreCounts counts xs → k < 6 → length (at_place k xs) < 256 → length xs < 1536
has_room counts xs k are below room =
    let all = all_six xs in
    let a = are.most 0 (omega arith) in
    let b = are.most 1 (omega arith) in
    let d = are.most 2 (omega arith) in
    let e = are.most 3 (omega arith) in
    let f = are.most 4 (omega arith) in
    let h = are.most 5 (omega arith) in
    by_place k below room all a b d e f h where
      by_place : (k : ℕ) → k < 6 → length (at_place k xs) < 256
          → length xs
          ≡ length (at_place 0 xs) + length (at_place 1 xs) + length (at_place 2 xs) + length (at_place 3 xs)
          + length (at_place 4 xs) + length (at_place 5 xs)
          → length (at_place 0 xs) ≤ 256 → length (at_place 1 xs) ≤ 256 → length (at_place 2 xs) ≤ 256 → length (at_place 3 xs) ≤ 256
          → length (at_place 4 xs) ≤ 256 → length (at_place 5 xs) ≤ 256 → length xs < 1536
      by_place zero below room all a b d e f h = omega (arith, room, all, b, d, e, f, h)
      by_place (suc zero) below room all a b d e f h = omega (arith, room, all, a, d, e, f, h)
      by_place (suc (suc zero)) below room all a b d e f h = omega (arith, room, all, a, b, e, f, h)
      by_place (suc (suc (suc zero))) below room all a b d e f h = omega (arith, room, all, a, b, d, f, h)
      by_place (suc (suc (suc (suc zero)))) below room all a b d e f h = omega (arith, room, all, a, b, d, e, h)
      by_place (suc (suc (suc (suc (suc zero))))) below room all a b d e f h = omega (arith, room, all, a, b, d, e, f)
      by_place (suc (suc (suc (suc (suc (suc k)))))) below room all a b d e f h = absurd (omega (arith, below))

-- a number of one lane that is changed as its jobs are keeps the numbers right
counts_changed : (counts : List ℕ) (xs ys : List Sight) (s : Sight) (n : ℕ) → AreCounts counts xs → n ≡ length (at_place (at_of s) ys) → n ≤ 256 →
    ((k : ℕ) → ¬ (at_of s ≡ k) → length (at_place k ys) ≡ length (at_place k xs)) → AreCounts (slice_set counts (at_of s) n) ys
counts_changed counts xs ys s n are is most others = record {
  six = length-set counts (at_of s) n ∙ are.six;
  each = λ j d below. each j d below (at_of s == j) refl;
  most = λ j below. most_at j below (at_of s == j) refl;
} where
  each : (j d : ℕ) → j < 6 → (b : Bool) → (at_of s == j) ≡ b → slice_index_or (slice_set counts (at_of s) n) j d ≡ length (at_place j ys)
  each j d below true same =
      let at : at_of s ≡ j = grind (arith, nat_tests, same) in
      subst (λ m. slice_index_or (slice_set counts (at_of s) n) m d ≡ length (at_place m ys)) at
      (get_or-set_same counts (at_of s) n d (omega (arith, are.six, below_six s)) ∙ is)
  each j d below false differ =
      let apart : ¬ (at_of s ≡ j) = λ eq. absurd (grind (arith, nat_tests, differ, eq)) in
      get_or-set_other counts (at_of s) j n d (λ eq. apart (sym eq)) ∙ (are.each j d below ∙ sym (others j apart))

  most_at : (j : ℕ) → j < 6 → (b : Bool) → (at_of s == j) ≡ b → length (at_place j ys) ≤ 256
  most_at j below true same =
      let at : at_of s ≡ j = grind (arith, nat_tests, same) in
      subst (λ m. length (at_place m ys) ≤ 256) at (omega (arith, is, most))
  most_at j below false differ =
      let apart : ¬ (at_of s ≡ j) = λ eq. absurd (grind (arith, nat_tests, differ, eq)) in
      omega (arith, others j apart, are.most j below)

-- a job that is put is one more of its lane
pub counts_put : (counts : List ℕ) (xs : List Sight) (s : Sight) (n : ℕ) → AreCounts counts xs → n ≡ length (at_place (at_of s) xs) → n < 256 →
    AreCounts (slice_set counts (at_of s) (n + 1)) (xs ++ s ∷ [])
counts_put counts xs s n are is room = counts_changed counts xs (xs ++ s ∷ []) s (n + 1) are
    (omega (arith, is, count_snoc (at_of s) xs s, one_here (at_of s) s refl)) (omega (arith, room))
    (λ k apart. omega (arith, count_snoc k xs s, one_else k s apart))

-- a job that is taken is one fewer of its lane
pub counts_took : (counts : List ℕ) (xs : List Sight) (s : Sight) (n : ℕ) → AreCounts counts (s ∷ xs) → n ≡ length (at_place (at_of s) (s ∷ xs)) →
    AreCounts (slice_set counts (at_of s) (n - 1)) xs
counts_took counts xs s n are is =
    let h = count_cons (at_of s) s xs in
    let o = one_here (at_of s) s refl in
    counts_changed counts (s ∷ xs) xs s (n - 1) are (omega (arith, is, h, o)) (omega (arith, is, are.most (at_of s) (below_six s)))
    (λ k apart. omega (arith, count_cons k s xs, one_else k s apart))

-- the lane of a job that is to be taken has one at least
pub has_one : (xs : List Sight) (s : Sight) → 0 < length (at_place (at_of s) (s ∷ xs))
has_one xs s = omega (arith, count_cons (at_of s) s xs, one_here (at_of s) s refl)
