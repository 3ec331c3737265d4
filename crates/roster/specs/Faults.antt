-- What each fault of a roster says of the text, in the order of the tests, and its name.
use Rattle.std.specs.Prelude.{◌≡◌, ℕ, true, false, List, Some, None, codes}
use Rattle.values_tables.specs.Reading.{tables_in}
use Rattle.values_tables.specs.declared.plain.Tables.{Tables}
use Rattle.values_tables.specs.declared.fault.TablesFault.{TablesFault}
use Rattle.values_tables.specs.declared.fault.TablesFault.TheVariants as tables
use Rattle.roster.specs.declared.fault.RosterFault.{RosterFault}
use Rattle.roster.specs.declared.fault.RosterFault.TheVariants as fault
use Rattle.roster.specs.Judged.{has_too_many, has_double_address, has_unknown_peer, HasParentLoop}

-- the fault of a text whose tables cannot be read
abbrev pub fault_of : TablesFault → RosterFault
fault_of (tables.BadToml _) = fault.BadToml
fault_of (tables.BadField _) = fault.BadField
fault_of tables.NoMemory = fault.NoMemory

-- what a fault says of tables: it holds, and none of those before it does
abbrev pub IsFirst : Tables → RosterFault → Type 0
IsFirst t fault.BadToml = ⊥
IsFirst t fault.BadField = ⊥
IsFirst t fault.TooMany = has_too_many t ≡ true
IsFirst t fault.DoubleAddress = (has_too_many t ≡ false) × (has_double_address t ≡ true)
IsFirst t fault.UnknownPeer = (has_too_many t ≡ false) × (has_double_address t ≡ false) × (has_unknown_peer t ≡ true)
IsFirst t fault.ParentLoop =
    (has_too_many t ≡ false) × (has_double_address t ≡ false) × (has_unknown_peer t ≡ false) × HasParentLoop t
IsFirst t fault.NoMemory = Unit {0}

-- what a fault says of a text: it holds, and none of those before it does [Roster 2]
abbrev pub IsFirstOf : List ℕ → RosterFault → Type 0
IsFirstOf text fault.BadToml = tables_in text ≡ None
IsFirstOf text fault.BadField = tables_in text ≡ Some None
IsFirstOf text fault.NoMemory = Unit {0}
IsFirstOf text f = (t : Tables) × (tables_in text ≡ Some (Some t)) × IsFirst t f

-- the name of a fault, as scripts print it
abbrev pub fault_name : RosterFault → List ℕ
fault_name fault.BadToml = codes "BadToml"
fault_name fault.BadField = codes "BadField"
fault_name fault.TooMany = codes "TooMany"
fault_name fault.DoubleAddress = codes "DoubleAddress"
fault_name fault.UnknownPeer = codes "UnknownPeer"
fault_name fault.ParentLoop = codes "ParentLoop"
fault_name fault.NoMemory = codes "NoMemory"
