-- The order of the queue's steps, and what a pass knows of it.
use Rattle.std.specs.Prelude.{◌≡◌, ℕ, Bool, List, [], ◌∷◌, ◌++◌, length, map, nat_le, if◌then◌else◌}
use Rattle.cluster_jobs.specs.declared.job.Job.{Job}
use Rattle.cluster_jobs.specs.declared.job.Job.TheVariants as job
use Rattle.cluster_jobs.specs.declared.job.Lane.{Lane}
use Rattle.cluster_jobs.specs.declared.order.Sight.{Sight}
use Rattle.cluster_jobs.specs.declared.order.Sight.TheVariants as sight
use Rattle.cluster_jobs.specs.declared.order.Step.{Step}
use Rattle.cluster_jobs.specs.declared.order.Step.TheVariants.{Put, Took}
use Rattle.cluster_jobs.specs.declared.order.View.{View}
use Rattle.cluster_jobs.specs.Lanes.{in_lane}

-- a job as contracts see it: a stream is its number alone
abbrev pub sight_of : Job → Sight
sight_of (job.Datagram sender udp from octets) = sight.Datagram sender udp from octets.items
sight_of (job.Stream number stream octets) = sight.Stream number
sight_of (job.Timer serial) = sight.Timer serial
sight_of (job.Fetched f) = sight.Fetched f
sight_of (job.Failed serial) = sight.Failed serial

-- the step by which a job is put
abbrev pub put : Job → Step
put job = Put (sight_of job)

-- the step by which a job is taken
abbrev pub took : Job → Step
took job = Took (sight_of job)

-- the step by which the timer of a round with this serial is put
abbrev pub put_timer : ℕ → Step
put_timer serial = Put (sight.Timer serial)

-- the jobs that these steps put, in order
abbrev pub put_in : List Step → List Sight
put_in [] = []
put_in (Put job ∷ steps) = job ∷ put_in steps
put_in (Took job ∷ steps) = put_in steps

-- the jobs that these steps took, in order
abbrev pub taken_in : List Step → List Sight
taken_in [] = []
taken_in (Put job ∷ steps) = taken_in steps
taken_in (Took job ∷ steps) = job ∷ taken_in steps

-- the first list is a beginning of the second
abbrev pub Begins : {A : Type 0} → List A → List A → Type 0
Begins {A} early all = (rest : List A) × (early ++ rest ≡ all)

-- at every moment the jobs taken are a prefix of the jobs put: first in, first out
abbrev pub IsInOrder : List Step → Type 0
IsInOrder steps = (early : List Step) → Begins early steps → Begins (taken_in early) (put_in early)

-- the jobs put are the jobs taken and then these, which wait
abbrev pub Leaves : List Step → List Sight → Type 0
Leaves steps waiting = put_in steps ≡ taken_in steps ++ waiting

-- after these steps no job waits
abbrev pub IsEmpty : List Step → Type 0
IsEmpty steps = Leaves steps []

-- after these steps the lane holds 256 jobs
abbrev pub IsFull : Lane → List Step → Type 0
IsFull lane steps = (waiting : List Sight) × Leaves steps waiting × (length (in_lane lane waiting) ≡ 256)

-- the jobs in the queue are these, as contracts see them
abbrev pub Are : List Sight → List Job → Type 0
Are waiting jobs = map sight_of jobs ≡ waiting

-- the queue has one pass, which knows the jobs in it
abbrev pub IsKnown : List Job → List (List Sight) → Type 0
IsKnown jobs known = known ≡ map sight_of jobs ∷ []

-- a job that is put waits behind the others
abbrev pub Joins : List Sight → Job → List Sight → Type 0
Joins before job after = after ≡ before ++ sight_of job ∷ []

-- a job that is taken was the first
abbrev pub Goes : List Sight → Job → List Sight → Type 0
Goes before job after = before ≡ sight_of job ∷ after

-- the queue under its lock: all steps so far, and whether it is ended
pub record BacklogView : Type 0 where
  pub seen : List Step
  pub over : Bool

-- one step more, in the queue and among the own steps of a pass
pub record Adds (step : Step) (before : BacklogView) (own : List Step) (after : BacklogView) (owned : List Step) :
    Type 0 where
  pub seen : after.seen ≡ before.seen ++ step ∷ []
  pub over : after.over ≡ before.over
  pub own_is : owned ≡ own ++ step ∷ []

-- the pass that has seen no step
abbrev pub newcomer : View
newcomer = record { seen = []; own = [] }

-- the pass that a split gives to another thread: it has seen the same, and has no step of its own
abbrev pub cut : View → View
cut v = record { seen = v.seen; own = [] }

-- the longer of two beginnings of one list
abbrev pub longer : List Step → List Step → List Step
longer xs ys = if nat_le (length xs) (length ys) then ys else xs

-- two passes in one: it has seen what either had, and has the own steps of the first
abbrev pub joined : View → View → View
joined v w = record { seen = longer v.seen w.seen; own = v.own }

-- a pass after a step of its own: it has seen more steps of others, and then this one, the last of all so far
pub record Follows (v : View) (step : Step) (w : View) : Type 0 where
  pub seen : (between : List Step) × (w.seen ≡ (v.seen ++ between) ++ step ∷ [])
  pub own : w.own ≡ v.own ++ step ∷ []
  pub in_order : IsInOrder w.seen

-- a pass after a look at the queue: it has seen all steps up to that moment, and they are so
pub record Finds (v : View) (are : List Step → Type 0) (w : View) : Type 0 where
  pub seen : Begins v.seen w.seen
  pub own : w.own ≡ v.own
  pub in_order : IsInOrder w.seen
  pub found : are w.seen
