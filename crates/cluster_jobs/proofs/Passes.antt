-- What a pass knows after a call: what it knew, then the steps of others, and then its own.
use Rattle.std.proofs.Common.{◌≡◌, List, [], ◌∷◌, ◌++◌, Option, None, Some, Result, Ok, Err, MatchOption, MatchResult, sym, ap, ◌∙◌, subst}
use mathlib.Core.List.{IsPrefix}
use Rattle.cluster_jobs.specs.declared.job.Job.{Job}
use Rattle.cluster_jobs.specs.declared.order.Step.{Step}
use Rattle.cluster_jobs.specs.declared.order.View.{View}
use Rattle.cluster_jobs.specs.Lanes.{lane_of}
use Rattle.cluster_jobs.specs.Order.{BacklogView, sight_of, put, took, Adds, Finds, Follows, IsEmpty, IsFull, IsInOrder}

-- a step of its own
follows : (v w : View) (step : Step) (before after : BacklogView) → IsPrefix v.seen before.seen → Adds step before v.own after w.own
    → w.seen ≡ after.seen → IsInOrder w.seen → Follows v step w
follows v w step before after known adds now order = record {
  seen = (known.0, now ∙ (adds.seen ∙ ap (λ l. l ++ step ∷ []) (sym known.1)));
  own = adds.own_is;
  in_order = order;
}

-- a look at the queue
finds : (v w : View) (are : List Step → Type 0) (before : BacklogView) → IsPrefix v.seen before.seen → w.own ≡ v.own → w.seen ≡ before.seen →
    IsInOrder w.seen → are before.seen → Finds v are w
finds v w are before known own now order found = record {
  seen = (known.0, known.1 ∙ sym now);
  own = own;
  in_order = order;
  found = subst are (sym now) found;
}

-- a call that puts a job, or gives it back
pub has_put : (v w : View) (job : Job) (answer : Result (Unit {0}) Job) (before after : BacklogView) → IsPrefix v.seen before.seen →
    MatchResult answer (λ _. Adds (put job) before v.own after w.own)
    (λ back. (back ≡ job) × (after ≡ before) × (w.own ≡ v.own) × IsFull (lane_of (sight_of job)) before.seen)
    → w.seen ≡ after.seen → IsInOrder w.seen
    → MatchResult answer (λ _. Follows v (put job) w) (λ back. (back ≡ job) × Finds v (IsFull (lane_of (sight_of job))) w)
has_put v w job (Ok done) before after known adds now order = follows v w (put job) before after known adds now order
has_put v w job (Err back) before after known h now order =
    (h.0, finds v w (IsFull (lane_of (sight_of job))) before known h.2 (now ∙ ap (λ b. b.seen) h.1) order h.3)

-- a call that takes a job, or finds none
pub has_taken : (v w : View) (answer : Option Job) (before after : BacklogView) → IsPrefix v.seen before.seen →
    MatchOption answer ((after ≡ before) × (w.own ≡ v.own) × IsEmpty before.seen) (λ job. Adds (took job) before v.own after w.own)
    → w.seen ≡ after.seen → IsInOrder w.seen → MatchOption answer (Finds v IsEmpty w) (λ job. Follows v (took job) w)
has_taken v w (Some job) before after known adds now order = follows v w (took job) before after known adds now order
has_taken v w None before after known h now order = finds v w IsEmpty before known h.1 (now ∙ ap (λ b. b.seen) h.0) order h.2
