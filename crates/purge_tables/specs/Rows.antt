-- Which version the rows of `form` mean.
use Rattle.std.specs.Prelude.{◌≡◌, ℕ, pos, List, [], ◌∷◌, map}
use Rattle.sqlite.specs.declared.types.Value.TheVariants.{Int}
use Rattle.sqlite_value.specs.Order.{Row}
use Rattle.sqlite_trees.specs.Tree.{rowid}
use Rattle.sqlite_trees.specs.Objects.{number_in}

-- what the query shows of a row of `form`: the version, which is its rowid
abbrev pub shown_version : Row → Row
shown_version row = rowid row ∷ []

-- `form` has one row, this version
abbrev pub HasVersion : ℕ → List Row → Type 0
HasVersion version rows = map shown_version rows ≡ (Int (pos version) ∷ []) ∷ []

-- the version in the first row of `form`, 0 if there is none
abbrev pub version_in : List Row → ℕ
version_in [] = 0
version_in (row ∷ rows) = number_in (rowid row)
