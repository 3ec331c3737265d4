-- What a poll of the event loop does to the queue of jobs.
use Rattle.std.specs.Prelude.{◌≡◌, List, ◌++◌, map, All, IfSome}
use Rattle.cluster_jobs.specs.declared.order.Sight.{Sight}
use Rattle.cluster_jobs.specs.declared.order.Sight.TheVariants as sight
use Rattle.cluster_jobs.specs.declared.order.Step.TheVariants.{Put}
use Rattle.cluster_jobs.specs.declared.order.View.{View}
use Rattle.cluster_jobs.specs.Order.{sight_of, Begins}
use Rattle.cluster_sockets.specs.declared.putting.Come.{Come}
use Rattle.cluster_sockets.specs.declared.putting.Come.TheVariants.{Taken, Nothing}

-- the job came over a socket: it is a datagram, a stream or a fetch that has ended, and no timer and no failed fetch
abbrev pub HasCome : Sight → Type 0
HasCome (sight.Datagram sender udp from octets) = Unit {0}
HasCome (sight.Stream number) = Unit {0}
HasCome (sight.Timer serial) = ⊥
HasCome (sight.Fetched f) = Unit {0}
HasCome (sight.Failed serial) = ⊥

-- the pass has seen more steps, and its own new ones are puts of jobs that came over a socket
pub record HasPut (before after : View) : Type 0 where
  pub seen : Begins before.seen after.seen
  pub own : (come : List Sight) × (after.own ≡ before.own ++ map Put come) × All HasCome come

-- the job of what came, if it has one, came over a socket
abbrev pub IsSound : Come → Type 0
IsSound (Taken job) = IfSome job (λ j. HasCome (sight_of j))
IsSound Nothing = Unit {0}
