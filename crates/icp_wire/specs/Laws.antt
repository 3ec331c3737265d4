-- What the law `grammar_is_exact` says of octets, by the grammar and the faults.
use Rattle.std.specs.Prelude.{◌≡◌, ℕ, ◌⊎◌, List, Some, None}
use Rattle.icp_wire.specs.declared.message.Icp.{Icp}
use Rattle.icp_wire.specs.declared.fault.IcpFault.{IcpFault}
use Rattle.icp_wire.specs.Grammar.{Spells}
use Rattle.icp_wire.specs.Faults.{first_fault}

-- the octets spell this message alone, and have no fault
pub record SpellsOnly (octets : List ℕ) (message : Icp) : Type 0 where
  pub spelled : Spells octets message
  pub alone : (other : Icp) → Spells octets other → other ≡ message
  pub no_fault : first_fault octets ≡ None

-- the octets have this fault, and spell no message
pub record SpellsNone (octets : List ℕ) (fault : IcpFault) : Type 0 where
  pub first : first_fault octets ≡ Some fault
  pub none : (message : Icp) → ¬ Spells octets message

-- the octets spell exactly one message and have no fault, or have a fault and spell none
abbrev pub IsDecided : List ℕ → Type 0
IsDecided octets = ((message : Icp) × SpellsOnly octets message) ⊎ ((fault : IcpFault) × SpellsNone octets fault)
