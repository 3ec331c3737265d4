-- What a call leaves of a master and its store.
use Rattle.std.specs.Prelude.{◌≡◌, ◌⊎◌, ℕ, true, false, Result, Err, OnOk, OnErr}
use Rattle.purge_rules.specs.declared.calls.MasterCall.{MasterCall}
use Rattle.purge_rules.specs.declared.calls.MasterAnswer.{MasterAnswer}
use Rattle.purge_rules.specs.declared.fault.MasterFault.{MasterFault}
use Rattle.purge_rules.specs.declared.fault.MasterFault.TheVariants as fault
use Rattle.purge_rules.specs.Purges.{PurgeList}
use Rattle.purge_rules.specs.Store.{IsEither}
use Rattle.floor_rules.specs.Store.{HaveRisen}
use Rattle.purge_rules.specs.Calls.{Calls, called}
use Rattle.purge_master.specs.View.{MasterView, writes}

-- what a store says of itself at a moment: whether its disk is honest, what an open may find after
-- a crash, and how many calls have returned `StoreFault`
pub record Witness : Type 1 where
  pub is_honest : Type 0
  pub may_find : PurgeList → Type 0
  pub failed : ℕ

-- these three as one
abbrev pub witness : Type 0 → (PurgeList → Type 0) → ℕ → Witness
witness is_honest may_find failed = record { is_honest = is_honest; may_find = may_find; failed = failed }

-- what a call leaves of the store. If the disk is honest now, it was before. A call that writes
-- nothing leaves the store as it was. After a write that succeeded, a crash leaves the purges as
-- they are now. After a call that failed, the store is as it was, or a crash leaves the purges from
-- before the call or from after it. `StoreFault` comes only if the count of failures has risen or
-- stands at its maximum.
pub record KeepsStore {S : Type 0} (was now : Witness) (before after : MasterView S) (c : MasterCall)
    (out : Result MasterAnswer MasterFault) : Type 0 where
  pub honest : now.is_honest → was.is_honest
  pub untouched : writes before c ≡ false → after.store ≡ before.store
  pub durable : OnOk out (writes before c ≡ true → now.is_honest → (found : PurgeList) → now.may_find found →
      found ≡ after.state.purges)
  pub crash :
      OnErr out
      ((after.store ≡ before.store)
      ⊎ (now.is_honest → (found : PurgeList) → now.may_find found →
      IsEither before.state.purges (called before.nodes before.state c).state.purges found))
  pub fault : out ≡ Err fault.StoreFault → HaveRisen was.failed now.failed

-- the master has made the call with this outcome, and is left so, with the same nodes
pub record IsCalled {S : Type 0} (was now : Witness) (before after : MasterView S) (c : MasterCall)
    (out : Result MasterAnswer MasterFault) : Type 0 where
  pub nodes : after.nodes ≡ before.nodes
  pub call : Calls before.nodes before.state c out after.state
  pub store : KeepsStore was now before after c out
