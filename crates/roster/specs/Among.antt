-- The ids that are left as `parent_loop` removes the members that have no parent among those left.
use Rattle.std.specs.Prelude.{ℕ, Bool, ◌&&◌, ◌==◌, List}
use Rattle.std.specs.List.{list_any}
use Rattle.values_tables.specs.declared.plain.Tables.{Tables}
use Rattle.values_tables.specs.Roles.{is_parent}
use Rattle.roster.specs.Lookups.{peers_of}

-- the id is one of these
abbrev pub is_among : List ℕ → ℕ → Bool
is_among ids id = list_any (λ other. other == id) ids

-- the member has a parent among the ids
abbrev pub climbs : Tables → List ℕ → ℕ → Bool
climbs t ids id = list_any (λ p. is_parent p.role && is_among ids p.id) (peers_of t id)
