-- The invariant of a store: limits, one copy of each key, and the count of octets.
use Rattle.std.specs.Prelude.{◌≡◌, ℕ, ◌≤◌}
use Rattle.object_store.specs.Held.{Held, IsStore}
use Rattle.object_store.specs.Listed.{octets}

-- a store for at least one copy, whose octets `count` counts
pub record IsCounted {T : Type 0} (held : Held T) (count : ℕ) : Type 0 where
  pub is_store : IsStore held
  pub counted : count ≡ octets held.copies
  pub some : 1 ≤ held.limit_count
