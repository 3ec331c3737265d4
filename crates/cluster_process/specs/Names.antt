-- The names of the faults of a cluster, as the program prints them.
use Rattle.std.specs.Prelude.{ℕ, List, codes}
use Rattle.floor_rules.specs.Fault.{floor_fault_name}
use Rattle.purge_rules.specs.Names.{purge_fault_name}
use Rattle.purge_master.specs.Names.{open_fault_name}
use Rattle.cluster_master.specs.Names as master
use Rattle.node_workers.specs.Names as node
use Rattle.cluster_process.specs.declared.fault.ClusterFault.{ClusterFault}
use Rattle.cluster_process.specs.declared.fault.ClusterFault.TheVariants as cluster

-- the name of the fault inside, where there is one; Io for a file or a socket that is not opened [Cluster 7]
abbrev pub cluster_fault_name : ClusterFault → List ℕ
cluster_fault_name (cluster.OtherRoster dir id what) = codes "OtherRoster"
cluster_fault_name (cluster.File path) = codes "Io"
cluster_fault_name (cluster.Ports id http icp htcp) = codes "Io"
cluster_fault_name (cluster.Floors path fault) = floor_fault_name fault
cluster_fault_name (cluster.Purges path fault) = purge_fault_name fault
cluster_fault_name (cluster.MasterOpen fault) = open_fault_name fault
cluster_fault_name (cluster.MasterStart fault) = master.start_fault_name fault
cluster_fault_name (cluster.Node id fault) = node.start_fault_name fault
cluster_fault_name cluster.NoThread = codes "NoThread"
cluster_fault_name cluster.System = codes "Io"
cluster_fault_name (cluster.MasterBehind dir last id number) = codes "MasterBehind"
cluster_fault_name (cluster.MemberBehind dir id number) = codes "MemberBehind"
cluster_fault_name cluster.Input = codes "Io"
cluster_fault_name cluster.Output = codes "Io"
cluster_fault_name (cluster.Stop id fault) = node.stop_fault_name fault
cluster_fault_name cluster.NoMemory = codes "NoMemory"
