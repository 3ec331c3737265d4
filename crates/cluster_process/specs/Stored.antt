-- Whether the files of the members have the numbers that the members have acknowledged, as far as the greatest number of
-- a file tells, and no others.
use Rattle.std.specs.Prelude.{◌≡◌, ℕ, ◌<◌, ◌≤◌, Bool, true, false, not, ◌&&◌, nat_lt, Option, Some, None, Result, Ok, Err}
use Rattle.purge_rules.specs.declared.nodes.Nodes.{Nodes}
use Rattle.purge_rules.specs.Members.{is_among}
use Rattle.purge_rules.specs.Needed.{needed}
use Rattle.purge_rules.specs.Purges.{PurgeList, is_admitted}
use Rattle.purge_rules.specs.Calls.{missing}
use Rattle.cluster_process.specs.declared.fault.OtherFile.TheVariants.{Early}
use Rattle.cluster_process.specs.declared.fault.ClusterFault.{ClusterFault}
use Rattle.cluster_process.specs.declared.fault.ClusterFault.TheVariants as cluster

-- the number needs the member, and is not pending for it: the member has acknowledged it
abbrev pub has_acknowledged : Nodes → PurgeList → ℕ → ℕ → Bool
has_acknowledged nodes purges id number =
    is_among id (needed nodes purges.admissions number) && not (is_among id (missing nodes purges number))

-- of the numbers that were given, the member has acknowledged none above this one
abbrev pub HasStored : Nodes → PurgeList → ℕ → ℕ → Type 0
HasStored nodes purges id greatest =
    (number : ℕ) → greatest < number → number ≤ purges.last → has_acknowledged nodes purges id number ≡ false

-- the number was given, is above this one, and the member has acknowledged it
abbrev pub Lacks : Nodes → PurgeList → ℕ → ℕ → ℕ → Type 0
Lacks nodes purges id greatest number =
    (greatest < number) × (number ≤ purges.last) × (has_acknowledged nodes purges id number ≡ true)

-- this is so of each member, by the greatest number of its file
abbrev pub AreStored : Nodes → PurgeList → (ℕ → ℕ) → Type 0
AreStored nodes purges greatest = (id : ℕ) → 1 ≤ id → id ≤ 16 → HasStored nodes purges id (greatest id)

-- the file of the member lacks the number
abbrev pub IsBehind : Nodes → PurgeList → (ℕ → ℕ) → ℕ × ℕ → Type 0
IsBehind nodes purges greatest (id, number) = (1 ≤ id) × (id ≤ 16) × Lacks nodes purges id (greatest id) number

-- such a fault names a member, and a number that its file lacks
abbrev pub NamesBehind : Nodes → PurgeList → (ℕ → ℕ) → ClusterFault → Type 0
NamesBehind nodes purges greatest (cluster.MemberBehind dir id number) = IsBehind nodes purges greatest (id, number)
NamesBehind nodes purges greatest _ = ⊥

-- `MemberBehind` comes exactly where a member's file lacks a number that the member has acknowledged [Cluster 7]
abbrev pub IsStored : Nodes → PurgeList → (ℕ → ℕ) → Result (Unit {0}) ClusterFault → Type 0
IsStored nodes purges greatest (Ok done) = AreStored nodes purges greatest
IsStored nodes purges greatest (Err fault) = NamesBehind nodes purges greatest fault

-- The member joins and was not admitted, so the master has sent it nothing, and yet its file has this number: it is the file of
-- another cluster, or the member was a founding one.
abbrev pub is_early : Nodes → PurgeList → ℕ → ℕ → Bool
is_early nodes purges id greatest = is_among id nodes.joining && not (is_admitted purges id) && nat_lt 0 greatest

-- the fault names this member, and says that its file has a number too early
abbrev pub NamesEarly : ℕ → ClusterFault → Type 0
NamesEarly id (cluster.OtherRoster dir named what) = (named ≡ id) × (what ≡ Early)
NamesEarly id _ = ⊥

-- `OtherRoster` comes exactly where the file of some member has a number too early, and names the first one
abbrev pub IsInTime : Option ℕ → Result (Unit {0}) ClusterFault → Type 0
IsInTime early (Ok done) = early ≡ None
IsInTime early (Err fault) = (id : ℕ) × (early ≡ Some id) × NamesEarly id fault
