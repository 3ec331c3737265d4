use Rattle.std.proofs.Common.{drop, None}
use Rattle.purge_rules.specs.Purges.{PurgeList}
use Rattle.purge_records.specs.Rows.{Marks}
use Rattle.purge_records.proofs.rows.mark_all.Given as goal

-- what is left to mark makes of these purges just what all rows make of those at first
abbrev pub invariant-loop-row : goal.invariant-loop-row
invariant-loop-row l = ((all : PurgeList) → Marks l.low l.purges (drop l.row-index l.rows) all → Marks None l.fn.purges l.rows all)
    × ((all : PurgeList) → Marks None l.fn.purges l.rows all → Marks l.low l.purges (drop l.row-index l.rows) all)
