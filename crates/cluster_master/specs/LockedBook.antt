-- A master's book under its lock, and what a call does to it.
use Rattle.std.specs.Prelude.{◌≡◌, ◌⊎◌, ℕ, nat_le, nat_lt, Bool, true, false, ◌||◌, List, [], ◌∷◌, ◌++◌, length, if◌then◌else◌, Result, Ok, Err}
use Rattle.purge_rules.specs.declared.calls.MasterCall.{MasterCall}
use Rattle.purge_rules.specs.declared.calls.MasterAnswer.{MasterAnswer}
use Rattle.purge_rules.specs.declared.calls.MasterAnswer.TheVariants as answer
use Rattle.purge_rules.specs.declared.fault.MasterFault.{MasterFault}
use Rattle.purge_rules.specs.declared.fault.MasterFault.TheVariants.{Closed, NoMemory}
use Rattle.purge_rules.specs.Calls.{due}
use Rattle.purge_master.specs.declared.book.MasterEntry.{MasterEntry}
use Rattle.purge_master.specs.View.{MasterView}
use Rattle.purge_master.specs.Store.{Witness}
use Rattle.purge_master.specs.Book.{BookView, IsEntered}
use Rattle.cluster_master.specs.Weight.{weight_of_all}
use Rattle.cluster_master.specs.declared.locked_book.KeptEntries.{KeptEntries}
use Rattle.cluster_master.specs.declared.locked_book.KeptEntries.TheVariants.{UpTo, Dropped}

-- the book, the entries of the pages that were filed, whether these are kept, and whether a CLR may be due
pub record LockedBookView (S : Type 0) : Type 0 where
  pub book : BookView S
  pub kept : List MasterEntry
  pub to_keep : KeptEntries
  pub may_be_due : Bool

-- no CLR is due: the master is closed, or no member is missing of a pending number
abbrev pub IsNothingDue : {S : Type 0} → MasterView S → Type 0
IsNothingDue master = (master.state.closed ≡ true) ⊎ (due master.nodes master.state.purges ≡ [])

-- whether a CLR may be due after an answer: not once the answer is that nothing is due, or that the master is closed,
-- which it stays; but from the next number or response on
abbrev pub may_be_due_after : Result MasterAnswer MasterFault → Bool → Bool
may_be_due_after (Ok (answer.Due [])) was = false
may_be_due_after (Ok (answer.Due (_ ∷ _))) was = true
may_be_due_after (Ok (answer.Status _)) was = was
may_be_due_after (Ok (answer.Issue _)) was = true
may_be_due_after (Ok (answer.Admit _)) was = true
may_be_due_after (Ok (answer.Acknowledge _)) was = true
may_be_due_after (Err Closed) was = false
may_be_due_after (Err _) was = was

-- the book after its entries were taken
abbrev pub emptied : {S : Type 0} → BookView S → BookView S
emptied book = record { master = book.master; entries = [] }

-- whether a page is kept behind entries that weigh so much
abbrev pub keeps : KeptEntries → ℕ → Bool
keeps (UpTo most) kept = nat_lt kept most
keeps Dropped kept = false

-- whether entries are dropped
abbrev pub is_dropped : KeptEntries → Bool
is_dropped (UpTo most) = false
is_dropped Dropped = true

-- the entries of a page stand behind those that are kept; or all are dropped, where the page is not kept
abbrev pub kept_with : KeptEntries → List MasterEntry → List MasterEntry → List MasterEntry
kept_with to_keep kept page = if keeps to_keep (weight_of_all kept) then kept ++ page else []

-- once a page is not kept, none is kept from then on
abbrev pub to_keep_after : KeptEntries → List MasterEntry → KeptEntries
to_keep_after to_keep kept = if keeps to_keep (weight_of_all kept) then to_keep else Dropped

-- the page is filed: the book has no entry, and the same master
abbrev pub filed : {S : Type 0} → LockedBookView S → LockedBookView S
filed locked = record locked {
  book = emptied locked.book;
  kept = kept_with locked.to_keep locked.kept locked.book.entries;
  to_keep = to_keep_after locked.to_keep locked.kept;
}

-- a page is full that has 4,096 entries, or whose entries weigh so much
abbrev pub is_full_page : List MasterEntry → Bool
is_full_page entries = nat_le 4096 (weight_of_all entries) || nat_le 4096 (length entries)

-- a page that is full is filed before a call [Book 5]
abbrev pub ready : {S : Type 0} → LockedBookView S → LockedBookView S
ready locked = if is_full_page locked.book.entries then filed locked else locked

-- the master has answered the call so, at some place, and the call is entered with that answer behind the entries of
-- the page
pub record IsCalledAt {S : Type 0} (was now : Witness) (before after : LockedBookView S) (c : MasterCall)
    (out : Result MasterAnswer MasterFault) : Type 0 where
  pub place : ℕ
  pub entered : IsEntered was now (ready before).book after.book place c out
  pub kept : after.kept ≡ (ready before).kept
  pub to_keep : after.to_keep ≡ (ready before).to_keep
  pub may_be_due : after.may_be_due ≡ may_be_due_after out before.may_be_due

-- there was no memory, so the call was not made; the page may have been filed
abbrev pub IsUnmade : {S : Type 0} → LockedBookView S → LockedBookView S → Result MasterAnswer MasterFault → Type 0
IsUnmade before after out = (out ≡ Err NoMemory) × ((after ≡ before) ⊎ (after ≡ ready before))

-- this book under the lock, with no entries kept
abbrev pub cleared : {S : Type 0} → LockedBookView S → BookView S → LockedBookView S
cleared locked book = record locked { book = book; kept = [] }

-- all entries are taken; or those that are kept, where there was no memory to put the open page's behind them
abbrev pub IsTaken : {S : Type 0} → LockedBookView S → List MasterEntry → LockedBookView S → Type 0
IsTaken before taken after =
    (taken ≡ before.kept ++ before.book.entries) × (after ≡ cleared before (emptied before.book))
    ⊎ (taken ≡ before.kept) × (after ≡ cleared before before.book)
