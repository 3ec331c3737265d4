-- What the law `grammar_is_exact` says of octets, by the grammar and the faults.
use Rattle.std.specs.Prelude.{◌≡◌, ℕ, ◌⊎◌, List, Some, None}
use Rattle.htcp_wire.specs.declared.message.Htcp.{Htcp}
use Rattle.htcp_wire.specs.declared.fault.HtcpFault.{HtcpFault}
use Rattle.htcp_wire.specs.Grammar.{Spells}
use Rattle.htcp_wire.specs.Faults.{first_fault}

-- the octets spell this message alone, and have no fault
pub record SpellsOnly (octets : List ℕ) (message : Htcp) : Type 0 where
  pub spelled : Spells octets message
  pub alone : (other : Htcp) → Spells octets other → other ≡ message
  pub no_fault : first_fault octets ≡ None

-- the octets have this fault, and spell no message
pub record SpellsNone (octets : List ℕ) (fault : HtcpFault) : Type 0 where
  pub first : first_fault octets ≡ Some fault
  pub none : (message : Htcp) → ¬ Spells octets message

-- the octets spell exactly one message and have no fault, or have a fault and spell none
abbrev pub IsDecided : List ℕ → Type 0
IsDecided octets = ((message : Htcp) × SpellsOnly octets message) ⊎ ((fault : HtcpFault) × SpellsNone octets fault)
