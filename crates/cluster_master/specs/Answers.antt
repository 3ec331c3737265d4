-- What a caller of a master knows of an answer without seeing the master.
use Rattle.std.specs.Prelude.{◌≡◌, ◌≢◌, ◌⊎◌, ℕ, List, Result, Ok, Err, option_map, Option}
use Rattle.htcp_wire.specs.declared.message.Htcp.{Htcp}
use Rattle.htcp_wire.specs.Written.{written}
use Rattle.purge_rules.specs.declared.calls.MasterCall.{MasterCall}
use Rattle.purge_rules.specs.declared.calls.MasterCall.TheVariants as call
use Rattle.purge_rules.specs.declared.calls.MasterAnswer.{MasterAnswer}
use Rattle.purge_rules.specs.declared.calls.MasterAnswer.TheVariants as answer
use Rattle.purge_rules.specs.declared.fault.MasterFault.{MasterFault}
use Rattle.purge_rules.specs.declared.fault.MasterFault.TheVariants as fault
use Rattle.purge_rules.specs.Clear.{clear, base_clear}
use Rattle.values_plain.specs.declared.address.Address.{Address}
use Rattle.values_tables.specs.declared.plain.Tables.{Tables}
use Rattle.roster.specs.Lookups.{member_of}

-- the answer is of the kind of the call
abbrev pub IsOfKind : MasterCall → MasterAnswer → Type 0
IsOfKind (call.Issue key) (answer.Issue number) = Unit {0}
IsOfKind (call.Admit id) (answer.Admit number) = Unit {0}
IsOfKind (call.Acknowledge id trans code) (answer.Acknowledge number) = Unit {0}
IsOfKind call.Due (answer.Due pairs) = Unit {0}
IsOfKind (call.Status number) (answer.Status status) = Unit {0}
IsOfKind _ _ = ⊥

-- an answer of the kind of the call, or a fault; the fault of a full book is never told
abbrev pub IsToldOf : MasterCall → Result MasterAnswer MasterFault → Type 0
IsToldOf c (Ok a) = IsOfKind c a
IsToldOf c (Err f) = f ≢ fault.ShiftFull

-- the CLR of this number: that of a purge, or that of an admission (RFC 2756, "CLR")
abbrev pub IsClearOf : ℕ → Htcp → Type 0
IsClearOf number message = ((key : List ℕ) × (message ≡ clear number key)) ⊎ (message ≡ base_clear number)

-- octets that spell such a CLR
abbrev pub AreClearOf : ℕ → List ℕ → Type 0
AreClearOf number octets = (message : Htcp) × IsClearOf number message × (octets ≡ written message)

-- where CLRs are sent to the member of an id: its HTCP address
abbrev pub htcp_of : Tables → ℕ → Option Address
htcp_of roster id = option_map (λ m. m.cache.htcp) (member_of roster id)
