-- The rows that a query showed of `form` are one row with a version exactly if those of the table
-- are.
use Rattle.std.proofs.Common.{◌≡◌, ◌≢◌, ℕ, pos, subst, ap, List, [], ◌∷◌, map}
use Rattle.std.specs.List.Sorted.{IsPermutation}
use Rattle.std.proofs.lemmas.List.Sorted.{IsPermutation-sym}
use Rattle.sqlite.specs.declared.types.Value.TheVariants.{Int}
use Rattle.sqlite_value.specs.Order.{Row}
use Rattle.sqlite_trees.specs.Tree.{rowid}
use Rattle.sqlite_trees.specs.Objects.{number_in}
use Rattle.sqlite.proofs.Callers.{one_permutation}
use Rattle.purge_tables.specs.Rows.{shown_version, version_in, HasVersion}

pub one_version : (table rows : List Row) (row : Row) → IsPermutation (map shown_version table) rows → rows ≡ row ∷ [] → map shown_version table ≡ row ∷ []
one_version table rows row same is = one_permutation row (map shown_version table) (IsPermutation-sym (map shown_version table) (row ∷ []) (rw (← is) same))

-- a version that was not found is not there
pub other_version : (version : ℕ) (table rows : List Row) → IsPermutation (map shown_version table) rows → rows ≢ (Int (pos version) ∷ []) ∷ [] →
    ¬ HasVersion version table
other_version version table rows same other one = other (one_permutation (Int (pos version) ∷ []) rows (subst (λ xs. IsPermutation xs rows) one same))

pub version_is : (version : ℕ) (rows : List Row) → HasVersion version rows → version_in rows ≡ version
version_is version [] h = absurd (cc)
version_is version (row ∷ rows) h = let id : rowid row ≡ Int (pos version) = cc in ap number_in id
