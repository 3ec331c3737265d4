-- What is kept of a run goes on: it stays, is dropped, or has more records or entries put behind it, and two such steps
-- make one. So it goes on through everything that the judge does.
use Rattle.std.proofs.Common.{◌≡◌, Bool, true, false, List, [], ◌∷◌, ◌++◌, if◌then◌else◌, Option, Some, None, refl, sym, ap, ◌∙◌, subst}
use Rattle.std.proofs.lemmas.List.{append-nil}
use Rattle.node_book.specs.declared.record.Record.{Record}
use Rattle.purge_master.specs.declared.book.MasterEntry.{MasterEntry}
use Rattle.cluster_console.specs.Checked.{GoesOn}
use Rattle.cluster_console.proofs.Gathering.{goes_on, goes_on_twice}
use Rattle.cluster_process.specs.Kept.{gathered_in, tells_nothing, with_record}
use Rattle.cluster_process.specs.declared.kept.RecordedRun.{RecordedRun}

-- what stays as it was goes on
pub kept_as_it_was : (old new : Option RecordedRun) → new ≡ old → GoesOn (gathered_in old) (gathered_in new)
kept_as_it_was old new same = goes_on (gathered_in old) (gathered_in new) (ap gathered_in same)

-- what is dropped goes on
pub dropped : (old new : Option RecordedRun) → new ≡ None → GoesOn (gathered_in old) (gathered_in new)
dropped old new none = subst (λ n. GoesOn (gathered_in old) (gathered_in n)) (sym none) tt

-- two steps in a row make one
pub kept_twice : (old middle new : Option RecordedRun) → GoesOn (gathered_in old) (gathered_in middle) → GoesOn (gathered_in middle) (gathered_in new) →
    GoesOn (gathered_in old) (gathered_in new)
kept_twice old middle new first second = goes_on_twice (gathered_in old) (gathered_in middle) (gathered_in new) first second

-- the records with one more, or the same records
more_records : (records : List Record) (next : Record) (b : Bool) → (more : List Record) × ((if b then records else records ++ next ∷ []) ≡ records ++ more)
more_records records next true = ([], sym (append-nil records))
more_records records next false = (next ∷ [], refl)

-- the records with the next one put behind them
pub record_put : (old new : RecordedRun) (next : Record) → new.records.items ≡ with_record old.records.items next → new.entries ≡ old.entries →
    GoesOn (gathered_in (Some old)) (gathered_in (Some new))
record_put old new next records entries =
    let more = more_records old.records.items next (tells_nothing old.records.items next) in
    (more.0, [], records ∙ more.1, ap (λ e. e.items) entries ∙ sym (append-nil old.entries.items))

-- the master's entries with more put behind them
pub entries_put : (old new : RecordedRun) (more : List MasterEntry) → new.entries.items ≡ old.entries.items ++ more → new.records ≡ old.records →
    GoesOn (gathered_in (Some old)) (gathered_in (Some new))
entries_put old new more entries records = ([], more, ap (λ r. r.items) records ∙ sym (append-nil old.records.items), entries)
