-- A pass that puts nothing, one job, or first some jobs and then others, has only put jobs that came over a socket. So
-- each loop of a poll keeps HasPut, and so does the poll.
use Rattle.std.proofs.Common.{Result, Ok, Err, MatchResult, ◌≡◌, List, [], ◌∷◌, ◌++◌, map, sym, ap, ◌∙◌, append_assoc, append-nil}
use Rattle.std.proofs.lemmas.List.{map-append}
use Rattle.std.proofs.lemmas.List.Elements.{All-nil, All-cons, All-append}
use Rattle.cluster_jobs.specs.declared.job.Job.{Job}
use Rattle.cluster_jobs.specs.declared.order.Step.{Step}
use Rattle.cluster_jobs.specs.declared.order.Step.TheVariants.{Put}
use Rattle.cluster_jobs.specs.declared.order.View.{View}
use Rattle.cluster_jobs.specs.Order.{sight_of, put, Begins, Finds, Follows, IsFull}
use Rattle.cluster_jobs.specs.Lanes.{lane_of}
use Rattle.cluster_sockets.specs.Polls.{HasCome, HasPut}

-- a beginning of a beginning of a list is a beginning of it
begins_further : (xs ys zs : List Step) → Begins xs ys → Begins ys zs → Begins xs zs
begins_further xs ys zs h k = (h.0 ++ k.0, sym (append_assoc xs h.0 k.0) ∙ ap (λ l. l ++ k.0) h.1 ∙ k.1)

-- a pass that puts nothing
pub none_put : (v : View) → HasPut v v
none_put v = record { seen = ([], append-nil v.seen); own = ([], sym (append-nil v.own), All-nil HasCome) }

-- a pass that puts one job that came over a socket
pub one_put : (v w : View) (job : Job) → HasCome (sight_of job) → Follows v (put job) w → HasPut v w
one_put v w job come h = record {
  seen = (h.seen.0 ++ put job ∷ [], sym (append_assoc v.seen h.seen.0 (put job ∷ [])) ∙ sym h.seen.1);
  own = (sight_of job ∷ [], h.own, All-cons HasCome (sight_of job) [] come (All-nil HasCome));
}

-- a pass that first puts some jobs and then others
pub more_put : (u v w : View) → HasPut u v → HasPut v w → HasPut u w
more_put u v w h k = record {
  seen = begins_further u.seen v.seen w.seen h.seen k.seen;
  own = (
    h.own.0 ++ k.own.0,
    k.own.1 ∙ ap (λ l. l ++ map Put k.own.0) h.own.1 ∙ append_assoc u.own (map Put h.own.0) (map Put k.own.0)
        ∙ ap (λ l. u.own ++ l) (sym (map-append Put h.own.0 k.own.0)),
    All-append HasCome h.own.0 k.own.0 h.own.2 k.own.2,
  );
}

-- a call that puts a job, or gives it back
pub put_or_not : (v w : View) (job : Job) (answer : Result (Unit {0}) Job) → HasCome (sight_of job)
    → MatchResult answer (λ _. Follows v (put job) w) (λ back. (back ≡ job) × Finds v (IsFull (lane_of (sight_of job))) w) → HasPut v w
put_or_not v w job (Ok done) come h = one_put v w job come h
put_or_not v w job (Err back) come h = record { seen = h.1.seen; own = ([], h.1.own ∙ sym (append-nil v.own), All-nil HasCome) }
