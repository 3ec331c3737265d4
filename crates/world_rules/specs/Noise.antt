-- Octets of a stranger that say nothing.
use Rattle.std.specs.Prelude.{◌≡◌, ℕ, List, Some, None}
use Rattle.values_plain.specs.declared.address.Address.{Address}
use Rattle.values_plain.specs.declared.address.Udp.{Udp}
use Rattle.values_tables.specs.declared.plain.Tables.{Tables}
use Rattle.roster.specs.Lookups.{member_at}
use Rattle.node_rules.specs.Spelled.{decoded_by}
use Rattle.world_rules.specs.declared.event.WorldEvent.{WorldEvent}
use Rattle.world_rules.specs.declared.event.WorldEvent.TheVariants as world

-- octets that come to an address spell no message by the protocol of the member there
abbrev pub SpellNothingAt : Tables → Address → List ℕ → Type 0
SpellNothingAt roster to octets = (by : Udp) (id : ℕ) → member_at roster to by ≡ Some id → decoded_by by octets ≡ None

-- the event is octets of a stranger that spell no message there
abbrev pub IsNoise : Tables → WorldEvent → Type 0
IsNoise roster (world.Strange to sender octets) = SpellNothingAt roster to octets
IsNoise roster _ = ⊥
