-- The one pass of the queue knows exactly which jobs wait in it.
use Rattle.std.proofs.Common.{◌≡◌, ℕ, zero, suc, List, [], ◌∷◌, ◌++◌, length, map, set, sym, refl, ap, ◌∙◌, arith}
use Rattle.std.proofs.lemmas.List.{length-map, map-append}
use mathlib.Core.Option.{some, some-injective, some-ne-none}
use lib.ListN.{get_elem?}
use Rattle.crossbeam_queue.specs.Fifo.{Pushes, Pops, Learns, Held}
use Rattle.cluster_jobs.specs.declared.job.Job.{Job}
use Rattle.cluster_jobs.specs.declared.order.Sight.{Sight}
use Rattle.cluster_jobs.specs.Order.{sight_of, Are, Goes, IsKnown, Joins}

-- where there is one view, it is this one, and a change leaves one
only : (is v w : List Sight) (pass : ℕ) → get_elem? (is ∷ []) pass ≡ some v → (is ≡ v) × (set (is ∷ []) pass w ≡ w ∷ [])
only is v w zero at = (some-injective is v at, refl)
only is v w (suc pass) at = absurd (some-ne-none v (sym at))

-- the pass knows the jobs in the queue, and goes on alone
known : (jobs : List Job) (v w : List Sight) (views : List (List Sight)) (pass : ℕ) → IsKnown jobs views → get_elem? views pass ≡ some v
    → (map sight_of jobs ≡ v) × (set views pass w ≡ w ∷ [])
known jobs v w views pass kept at =
    let one = only (map sight_of jobs) v w pass (ap (λ l. get_elem? l pass) (sym kept) ∙ at) in
    (one.0, ap (λ l. set l pass w) kept ∙ one.1)

-- a put keeps this
pub puts : (n pass : ℕ) (v : List Sight) (job : Job) → Pushes IsKnown n pass v job (Joins v job)
puts n pass v job jobs views room kept at =
    let after = map sight_of (jobs ++ job ∷ []) in
    let one = known jobs v after views pass kept at in
    (after, one.1, map-append sight_of jobs (job ∷ []) ∙ ap (λ l. l ++ sight_of job ∷ []) one.0)

-- a take keeps it
pub takes : (pass : ℕ) (v : List Sight) → Pops IsKnown pass v (Goes v)
takes pass v job jobs views kept at =
    let one = known (job ∷ jobs) v (map sight_of jobs) views pass kept at in
    (map sight_of jobs, one.1, sym one.0)

-- the pass learns which jobs wait
pub learns : (pass : ℕ) (v : List Sight) → Learns IsKnown pass v (Are v)
learns pass v jobs views kept at = (known jobs v v views pass kept at).0

-- and how many
pub counted : (n : ℕ) (v : List Sight) → Held n (Are v) → length v ≡ n
counted n v held = ap length (sym held.2) ∙ length-map held.0 sight_of ∙ held.1

-- none, where the queue is empty
pub none_waits : (v : List Sight) → Held 0 (Are v) → v ≡ []
none_waits [] held = refl
none_waits (s ∷ v) held = let n = counted 0 (s ∷ v) held in absurd (omega (arith, n))
