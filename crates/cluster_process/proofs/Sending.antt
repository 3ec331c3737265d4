-- The stores of a cluster may be sent to the threads of its members and its master: each owns one open SQLite file, and
-- an open file may be sent.
use Rattle.std.proofs.Common.{◌≡◌, [], ◌∷◌, refl, sym, subst}
use denote.RattleType.{RattleType}
use denote.Param.Send.{IsSend, sendable}
use denote.Param.SendFields.{FieldsHave, declared_send, as_row_send}
use denote.Struct.Field.{Field}
use denote.Struct.Declared as S
use Rattle.sqlite.specs.contracts.FileStore as FileStore
use Rattle.sqlite.proofs.FileStore.TheSendSync as files
use Rattle.sqlite.specs.contracts.Unknown as Unknown
use Rattle.purge_numbers.below.sqlite_disk.specs.contracts.modelled.Modelled as Modelled
use Rattle.purge_numbers.below.sqlite_disk.proofs.modelled.Modelled.TheSendSync as modelled
use Rattle.purge_numbers.below.sqlite_disk.specs.contracts.modelled.ModelledDisk.TheImpl as disks
use Rattle.purge_numbers.below.sqlite_disk.specs.contracts.start.UnknownStart.TheImpl as start
use Rattle.purge_numbers.below.sqlite_disk.specs.declared.Disk as Disk
use Rattle.sqlite.below.sqlite_std_file.specs.contracts.host.Host as Host
use Rattle.sqlite.below.sqlite_std_file.specs.contracts.host.HostCalls.TheImpl as calls
use Rattle.sqlite.below.sqlite_store.specs.contracts.store.FileStoreStore.TheImpl as stores
use Rattle.purge_numbers.proofs.durable.SqliteFloors.TheSendSync as floors
use Rattle.purge_records.proofs.durable.SqlitePurges.TheSendSync as purges
use Rattle.cluster_process.specs.contracts.files.NodeStore as NodeStore
use Rattle.cluster_process.specs.contracts.files.MasterStore as MasterStore

-- a struct of one field may be sent where its field may
one_part_send : (T : S.Declared) (F : Field) → T.parts ≡ F ∷ [] → IsSend F.row → IsSend (S.row T)
one_part_send T F is sent = declared_send T (subst (FieldsHave IsSend) (sym is) (as_row_send F sent, tt))

-- the operating system, as the file calls it, may be sent
host_send : IsSend Host.the_row
host_send = search (sendable, declared_send, as_row_send) depth 40 fits 20000

-- an open file
abbrev file : RattleType
file = Modelled.the_row Host.the_row Unknown.the_row calls.ghosts start.ghosts

-- the disk that it is to the database
abbrev disk : Disk.Ghosts file.Denot
disk = disks.ghosts Host.the_row Unknown.the_row calls.ghosts disks.no_dict start.ghosts disks.no_dict disks.no_dict

-- the store of a database over an open file may be sent
store_send : IsSend (FileStore.the_row file disk)
store_send = files.the_send file disk (modelled.the_send Host.the_row Unknown.the_row calls.ghosts start.ghosts host_send)

-- so may the store of floors of a member
pub node_send : IsSend NodeStore.the_row
node_send = one_part_send NodeStore.the_type _ refl (floors.the_send (FileStore.the_row file disk) (stores.ghosts file disk stores.no_dict) store_send)

-- and the store of purges of the master
pub master_send : IsSend MasterStore.the_row
master_send = one_part_send MasterStore.the_type _ refl (purges.the_send (FileStore.the_row file disk) (stores.ghosts file disk stores.no_dict) store_send)
