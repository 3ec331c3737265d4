use Rattle.std.proofs.Common.{drop, []}
use Rattle.purge_rules.specs.Purges.{PurgeList}
use Rattle.purge_rules.specs.Places.{with_admissions}
use Rattle.purge_records.specs.Rows.{Admits}
use Rattle.purge_records.proofs.rows.admissions_of.Given as goal

-- what is left to admit makes of these admissions just what all rows make of none
abbrev pub invariant-loop-row : goal.invariant-loop-row
invariant-loop-row l = ((all : PurgeList) → Admits l.low (with_admissions l.purges l.admissions.items) (drop l.row-index l.rows) all →
    Admits 0 (with_admissions l.purges []) l.rows all)
    × ((all : PurgeList) → Admits 0 (with_admissions l.purges []) l.rows all →
    Admits l.low (with_admissions l.purges l.admissions.items) (drop l.row-index l.rows) all)
