use Rattle.std.proofs.Common.{drop}
use Rattle.purge_rules.specs.Purges.{PurgeList, no_purges}
use Rattle.purge_records.specs.Rows.{Adds}
use Rattle.purge_records.proofs.rows.purges_of.Given as goal

-- what is left to add makes of these purges just what all rows make of none
abbrev pub invariant-loop-row : goal.invariant-loop-row
invariant-loop-row l = ((all : PurgeList) → Adds l.purges (drop l.row-index l.rows) all → Adds no_purges l.rows all)
    × ((all : PurgeList) → Adds no_purges l.rows all → Adds l.purges (drop l.row-index l.rows) all)
