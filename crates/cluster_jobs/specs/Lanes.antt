-- The lanes of the queue: which job waits in which, and how many of each wait.
use Rattle.std.specs.Prelude.{◌≡◌, ◌≤◌, ◌<◌, ℕ, ◌==◌, if◌then◌else◌, List, [], ◌∷◌, length, slice_index_or}
use Rattle.cluster_jobs.specs.declared.job.Lane.{Lane}
use Rattle.cluster_jobs.specs.declared.job.Lane.TheVariants as lane
use Rattle.cluster_jobs.specs.declared.job.Sender.{Sender}
use Rattle.cluster_jobs.specs.declared.job.Sender.TheVariants.{Master, Peer, Stranger}
use Rattle.cluster_jobs.specs.declared.order.Sight.{Sight}
use Rattle.cluster_jobs.specs.declared.order.Sight.TheVariants as sight

-- the lane of a datagram, by its sender
abbrev pub lane_for : Sender → Lane
lane_for Master = lane.Purges
lane_for Peer = lane.Peers
lane_for Stranger = lane.Strangers

-- the lane in which a job waits
abbrev pub lane_of : Sight → Lane
lane_of (sight.Datagram sender udp from octets) = lane_for sender
lane_of (sight.Stream number) = lane.Streams
lane_of (sight.Timer serial) = lane.Timers
lane_of (sight.Fetched f) = lane.Fetches
lane_of (sight.Failed serial) = lane.Fetches

-- the place of a lane among the six
abbrev pub place_of : Lane → ℕ
place_of lane.Purges = 0
place_of lane.Peers = 1
place_of lane.Strangers = 2
place_of lane.Streams = 3
place_of lane.Timers = 4
place_of lane.Fetches = 5

-- the jobs among these that wait at this place
abbrev pub at_place : ℕ → List Sight → List Sight
at_place k [] = []
at_place k (job ∷ jobs) = if place_of (lane_of job) == k then job ∷ at_place k jobs else at_place k jobs

-- the jobs among these that wait in this lane
abbrev pub in_lane : Lane → List Sight → List Sight
in_lane lane jobs = at_place (place_of lane) jobs

-- the number of jobs of each lane, by its place; no lane has more than 256
pub record AreCounts (counts : List ℕ) (jobs : List Sight) : Type 0 where
  pub six : length counts ≡ 6
  pub each : (k d : ℕ) → k < 6 → slice_index_or counts k d ≡ length (at_place k jobs)
  pub most : (k : ℕ) → k < 6 → length (at_place k jobs) ≤ 256
