-- A master with a book, as contracts see it, and what one entry is.
use Rattle.std.specs.Prelude.{◌≡◌, ℕ, List, [], ◌∷◌, ◌++◌, Result}
use Rattle.purge_rules.specs.declared.calls.MasterCall.{MasterCall}
use Rattle.purge_rules.specs.declared.calls.MasterAnswer.{MasterAnswer}
use Rattle.purge_rules.specs.declared.fault.MasterFault.{MasterFault}
use Rattle.purge_master.specs.declared.book.MasterEntry.{MasterEntry}
use Rattle.purge_master.specs.View.{MasterView}
use Rattle.purge_master.specs.Store.{Witness, IsCalled}

-- the master, and the entries in order
pub record BookView (S : Type 0) : Type 0 where
  pub master : MasterView S
  pub entries : List MasterEntry

-- the master has made the call with this outcome, and one entry for it stands behind the others [Book 2]
pub record IsEntered {S : Type 0} (was now : Witness) (before after : BookView S) (place : ℕ) (c : MasterCall)
    (out : Result MasterAnswer MasterFault) : Type 0 where
  pub entries : after.entries ≡ before.entries ++ record { place = place; call = c; answer = out } ∷ []
  pub called : IsCalled was now before.master after.master c out
