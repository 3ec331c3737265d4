use Rattle.purge_rules.proofs.Listing.{IsListed}
use Rattle.purge_rules.proofs.purges.Purges.due.Given as goal

abbrev pub invariant-loop-purge : goal.invariant-loop-purge
invariant-loop-purge l = IsListed l.nodes l.self l.purge-index l.after l.pairs.items
