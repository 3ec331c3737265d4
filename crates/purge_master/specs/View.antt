-- A master as contracts see it, and the outcomes of its methods as outcomes of calls.
use Rattle.std.specs.Prelude.{◌≡◌, ℕ, Bool, IsTrue, false, not, ◌&&◌, List, Option, Result, Ok, Err}
use Rattle.purge_rules.specs.declared.nodes.Nodes.{Nodes}
use Rattle.purge_rules.specs.declared.calls.MasterCall.{MasterCall}
use Rattle.purge_rules.specs.declared.calls.MasterAnswer.{MasterAnswer}
use Rattle.purge_rules.specs.declared.calls.MasterAnswer.TheVariants as answer
use Rattle.purge_rules.specs.declared.fault.PurgeFault.{PurgeFault}
use Rattle.purge_rules.specs.declared.fault.PurgeFault.TheVariants as purge
use Rattle.purge_rules.specs.declared.fault.MasterFault.{MasterFault}
use Rattle.purge_rules.specs.declared.fault.MasterFault.TheVariants as fault
use Rattle.purge_rules.specs.Purges.{PurgeList}
use Rattle.purge_rules.specs.Calls.{MasterState, is_written}

-- a master: the nodes of its roster, its state, and the store of its purges
pub record MasterView (S : Type 0) : Type 0 where
  pub nodes : Nodes
  pub state : MasterState
  pub store : S

-- while the master is open, no call of its store has failed, and an honest store has committed its
-- purges
abbrev pub IsTied : Bool → PurgeList → Bool → Type 0 → PurgeList → Type 0
IsTied closed purges usable honest stored = closed ≡ false → IsTrue usable × (honest → stored ≡ purges)

-- the call writes: the master is open, and the call changes what is stored
abbrev pub writes : {S : Type 0} → MasterView S → MasterCall → Bool
writes v c = not v.state.closed && is_written v.nodes v.state.purges c

-- the fault of a call whose store returned this one
abbrev pub fault_of : PurgeFault → MasterFault
fault_of purge.NoMemory = fault.NoMemory
fault_of _ = fault.StoreFault

-- Outcomes of methods, as outcomes of calls

-- of `issue`
abbrev pub issue_outcome : Result ℕ MasterFault → Result MasterAnswer MasterFault
issue_outcome (Ok number) = Ok (answer.Issue number)
issue_outcome (Err f) = Err f

-- of `admit`
abbrev pub admit_outcome : Result ℕ MasterFault → Result MasterAnswer MasterFault
admit_outcome (Ok number) = Ok (answer.Admit number)
admit_outcome (Err f) = Err f

-- of `acknowledge`
abbrev pub acknowledge_outcome : Result (Option ℕ) MasterFault → Result MasterAnswer MasterFault
acknowledge_outcome (Ok done) = Ok (answer.Acknowledge done)
acknowledge_outcome (Err f) = Err f

-- of `due`
abbrev pub due_outcome : Result (List (ℕ × ℕ)) MasterFault → Result MasterAnswer MasterFault
due_outcome (Ok pairs) = Ok (answer.Due pairs)
due_outcome (Err f) = Err f
