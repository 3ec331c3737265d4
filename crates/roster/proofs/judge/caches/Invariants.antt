use Rattle.std.proofs.Common.{◌≡◌, ◌++◌, map, take}
use Rattle.values_tables.specs.declared.plain.Member.{Member}
use Rattle.roster.proofs.judge.caches.Given as goal

abbrev pub invariant-loop-member : goal.invariant-loop-member
invariant-loop-member l = map (λ c. c.now) l.caches.items ≡ map (λ (m : Member). m.cache) (take l.member-index l.member-items)

abbrev pub invariant-loop-cache : goal.invariant-loop-cache
invariant-loop-cache l = map (λ c. c.now) l.caches.items ≡ map (λ (m : Member). m.cache) l.fn.tables.members ++ take l.cache-index l.cache-items
