-- Whether the master of a folder has given every number that the members have stored.
use Rattle.std.specs.Prelude.{◌≡◌, ℕ, ◌<◌, Bool, true, false, nat_lt, List, Result, Ok, Err}
use Rattle.std.specs.List.{list_any}
use Rattle.cluster_process.specs.declared.fault.ClusterFault.{ClusterFault}
use Rattle.cluster_process.specs.declared.fault.ClusterFault.TheVariants as cluster

-- some member's greatest number is greater than the master's last one
abbrev pub has_ahead : ℕ → List ℕ → Bool
has_ahead last greatest = list_any (nat_lt last) greatest

-- such a fault names the master's last number, and a greater one
abbrev pub NamesAhead : ℕ → ClusterFault → Type 0
NamesAhead last (cluster.MasterBehind dir named id number) = (named ≡ last) × (last < number)
NamesAhead last _ = ⊥

-- `MasterBehind` comes exactly where some member has stored a number that the master has not given [Cluster 7]
abbrev pub IsJudged : ℕ → List ℕ → Result (Unit {0}) ClusterFault → Type 0
IsJudged last greatest (Ok done) = has_ahead last greatest ≡ false
IsJudged last greatest (Err fault) = (has_ahead last greatest ≡ true) × NamesAhead last fault
