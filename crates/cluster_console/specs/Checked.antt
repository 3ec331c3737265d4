-- What is gathered of the run of a hierarchy, and what is said of it.
use Rattle.std.specs.Prelude.{◌≡◌, List, ◌++◌, Option, Some, None, MatchOption}
use Rattle.values_tables.specs.declared.plain.Tables.{Tables}
use Rattle.node_book.specs.declared.record.Record.{Record}
use Rattle.purge_master.specs.declared.book.MasterEntry.{MasterEntry}
use Rattle.run_rules.specs.First.{IsFirstOn}
use Rattle.cluster_console.specs.declared.check.Checked.{Checked}
use Rattle.cluster_console.specs.declared.check.Checked.TheVariants as checked

-- the records of the members, and the entries of the master
pub record Gathered : Type 0 where
  pub records : List Record
  pub entries : List MasterEntry

-- what was gathered before stands before what is gathered later; or some of it is lost, and from then on nothing is
-- gathered
abbrev pub GoesOn : Option Gathered → Option Gathered → Type 0
GoesOn old None = Unit {0}
GoesOn None (Some new) = ⊥
GoesOn (Some old) (Some new) = (records : List Record) × (entries : List MasterEntry)
    × (new.records ≡ old.records ++ records) × (new.entries ≡ old.entries ++ entries)

-- a verdict is the one on all that was gathered, and the run is forgotten where nothing is gathered any more; why the
-- records of a member are not given no contract can say, since they are under a lock [Cluster 4]
abbrev pub IsChecked : Tables → Option Gathered → Checked → Type 0
IsChecked roster gathered (checked.Judged verdict) = MatchOption gathered ⊥
    (λ g. IsFirstOn roster g.records g.entries verdict)
IsChecked roster gathered checked.Forgotten = gathered ≡ None
IsChecked roster gathered checked.Ended = Unit {0}
