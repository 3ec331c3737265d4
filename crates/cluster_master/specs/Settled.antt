-- The pending purges that no member misses: each member that had not acknowledged them was taken out
-- of the roster. The next acknowledgement of one that is needed makes such a purge done.
use Rattle.std.specs.Prelude.{ℕ, Bool, ◌==◌, List, length, map, filter}
use Rattle.purge_rules.specs.declared.nodes.Nodes.{Nodes}
use Rattle.purge_rules.specs.declared.purges.Purge.{Purge}
use Rattle.purge_rules.specs.Purges.{PurgeList}
use Rattle.purge_rules.specs.Calls.{missing}

-- the purge, if it is pending, misses no member
abbrev pub is_settled : Nodes → PurgeList → Purge → Bool
is_settled nodes purges p = length (missing nodes purges p.number) == 0

-- the numbers of those of these purges that miss no member, in order
abbrev pub settled_in : Nodes → PurgeList → List Purge → List ℕ
settled_in nodes purges pending = map (λ p. p.number) (filter (is_settled nodes purges) pending)

-- the numbers of the pending purges that miss no member, ascending
abbrev pub settled : Nodes → PurgeList → List ℕ
settled nodes purges = settled_in nodes purges purges.pending
