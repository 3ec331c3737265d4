-- Words for the contract of a store of purges (`PurgeStore`).
use Rattle.std.specs.Prelude.{◌≡◌, ◌⊎◌, ℕ, false, Option, Some, None}
use Rattle.purge_rules.specs.declared.purges.Purge.{Purge}
use Rattle.purge_rules.specs.Members.{is_among}
use Rattle.purge_rules.specs.Purges.{PurgeList, pending_at}

-- the purges from before a call, or from after it
abbrev pub IsEither : PurgeList → PurgeList → PurgeList → Type 0
IsEither before after found = (found ≡ before) ⊎ (found ≡ after)

-- there is a purge, and the member is not marked at it
abbrev pub IsUnmarkedBy : ℕ → Option Purge → Type 0
IsUnmarkedBy id None = ⊥
IsUnmarkedBy id (Some p) = is_among id p.marked ≡ false

-- the purge with this number is pending, and the member has not acknowledged it
abbrev pub Misses : PurgeList → ℕ → ℕ → Type 0
Misses purges number id = IsUnmarkedBy id (pending_at purges number)
