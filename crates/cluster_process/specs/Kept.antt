-- What a cluster keeps of its run.
use Rattle.std.specs.Prelude.{ℕ, Bool, ◌==◌, ◌&&◌, List, [], ◌∷◌, ◌++◌, length, if◌then◌else◌, Option, Some, None, option_map}
use Rattle.std.specs.List.{list_any}
use Rattle.values_tables.specs.declared.plain.Tables.{Tables}
use Rattle.node_book.specs.declared.record.Record.{Record}
use Rattle.cluster_console.specs.Checked.{Gathered, GoesOn}
use Rattle.cluster_console.specs.declared.play.Ended.{Ended}
use Rattle.cluster_console.specs.declared.play.Ended.TheVariants as ended
use Rattle.cluster_console.specs.Answering.{HasAnswered}
use Rattle.cluster_process.specs.declared.kept.RecordedRun.{RecordedRun}

-- this record has no entry, and it is not the first of its member
abbrev pub tells_nothing : List Record → Record → Bool
tells_nothing records next = (length next.entries == 0) && list_any (λ r. r.node == next.node) records

-- the record stands behind the others, unless it tells nothing
abbrev pub with_record : List Record → Record → List Record
with_record records next = if tells_nothing records next then records else records ++ next ∷ []

-- what is kept, as it was gathered
abbrev pub gathered_in : Option RecordedRun → Option Gathered
gathered_in kept = option_map (λ k. record { records = k.records.items; entries = k.entries.items }) kept

-- what is gathered before anything was done, where this many pages of each member are kept
abbrev pub gathered_at_first : ℕ → Option Gathered
gathered_at_first pages = if pages == 0 then None else Some (record { records = []; entries = [] })

-- a run that ended well: there was no line, or each was answered and each answer written
abbrev pub EndedWell : Ended → Type 0
EndedWell ended.NoLine = Unit {0}
EndedWell ended.Answered = Unit {0}
EndedWell _ = ⊥

-- the lines were answered while the run was gathered, and what is kept at the end goes on from that
abbrev pub HasRun : Tables → ℕ → Option (List ℕ) → Option (List ℕ) → Option (List ℕ) → Option RecordedRun → Type 0
HasRun roster pages input old new kept = (gathered : Option Gathered) × (end : Ended) × EndedWell end
    × HasAnswered roster (gathered_at_first pages) input old new end gathered × GoesOn gathered (gathered_in kept)
