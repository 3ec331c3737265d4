-- No member of a roster has more than 23 peers: a roster with such a member is refused
-- (`IsRoster`).
use Rattle.std.proofs.Common.{◌≡◌, ℕ, ◌≤◌, ◌==◌, Bool, true, false, cond, List, [], ◌∷◌, length, Option, Some, arith}
use Rattle.std.specs.Prelude.{nat_lt}
use Rattle.std.specs.List.{list_any, find}
use Rattle.std.proofs.lemmas.Bool.{or_parts, ltb-false}
use Rattle.values_tables.specs.declared.plain.Member.{Member}
use Rattle.values_tables.specs.declared.plain.Tables.{Tables}
use Rattle.roster.specs.Lookups.{peers_in, peers_of}
use Rattle.roster.specs.Judged.{IsRoster}

first_or_later : (same : Bool) (m : Member) (later : Option Member) → length m.peers ≤ 23 → length (peers_in later) ≤ 23 →
    length (peers_in (cond same (Some m) later)) ≤ 23
first_or_later true m later here there = here
first_or_later false m later here there = there

few_of_members : (members : List Member) (id : ℕ) → list_any (λ m. nat_lt 23 (length m.peers)) members ≡ false →
    length (peers_in (find (λ m. m.cache.id == id) members)) ≤ 23
few_of_members [] id few = omega arith
few_of_members (m ∷ members) id few =
    let parts = or_parts (nat_lt 23 (length m.peers)) (list_any (λ m. nat_lt 23 (length m.peers)) members) few in
    first_or_later (m.cache.id == id) m _ (ltb-false 23 (length m.peers) parts.0) (few_of_members members id parts.1)

pub few_peers : (t : Tables) (id : ℕ) → IsRoster t → length (peers_of t id) ≤ 23
few_peers t id roster = few_of_members t.members id (or_parts _ _ (or_parts _ _ (or_parts _ _ roster.fit.few).1).1).0
