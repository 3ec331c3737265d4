-- What each fault says of a text.
use Rattle.std.specs.Prelude.{◌≡◌, ℕ, List, Some, None}
use Rattle.values_tables.specs.declared.fault.TablesFault.{TablesFault}
use Rattle.values_tables.specs.declared.fault.TablesFault.TheVariants.{BadToml, BadField, NoMemory}
use Rattle.values_tables.specs.Reading.{tables_in}

-- a fault of a field, which says this fact, or want of memory, which says nothing
abbrev pub IsFieldFault : TablesFault → Type 0 → Type 0
IsFieldFault (BadToml _) P = ⊥
IsFieldFault (BadField _) P = P
IsFieldFault NoMemory P = Unit {0}

-- `BadToml`: the text is no document; `BadField`: it is one in which a field is bad; `NoMemory`
-- says nothing
abbrev pub IsReason : List ℕ → TablesFault → Type 0
IsReason text (BadToml _) = tables_in text ≡ None
IsReason text (BadField _) = tables_in text ≡ Some None
IsReason text NoMemory = Unit {0}

-- the fault is `BadField`
abbrev pub IsBadField : TablesFault → Type 0
IsBadField (BadToml _) = ⊥
IsBadField (BadField _) = Unit {0}
IsBadField NoMemory = ⊥

-- the fault is `BadToml`
abbrev pub IsBadToml : TablesFault → Type 0
IsBadToml (BadToml _) = Unit {0}
IsBadToml (BadField _) = ⊥
IsBadToml NoMemory = ⊥
