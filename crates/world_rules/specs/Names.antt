-- The names of faults, as scripts print them.
use Rattle.std.specs.Prelude.{ℕ, List, codes}
use Rattle.world_rules.specs.declared.outcome.WorldFault.{WorldFault}
use Rattle.world_rules.specs.declared.outcome.WorldFault.TheVariants.{NoSuchPacket, NotPending, NoMemory, PlacesSpent}

-- the name of each fault
abbrev pub world_fault_name : WorldFault → List ℕ
world_fault_name NoSuchPacket = codes "NoSuchPacket"
world_fault_name NotPending = codes "NotPending"
world_fault_name NoMemory = codes "NoMemory"
world_fault_name PlacesSpent = codes "PlacesSpent"
