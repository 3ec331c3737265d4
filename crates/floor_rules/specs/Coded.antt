-- How the logic stores a table of floors.
use Rattle.std.specs.Prelude.{ℕ}
use Rattle.std.specs.Coded.{Coded, code_by, coded×, coded_list, coded_ℕ}
use Rattle.std.specs.FinMap.{code}
use Rattle.floor_rules.specs.Floors.{FloorRows, FloorTable}
use mathlib.Core.Path.{refl}

abbrev pub floors_code : Coded FloorTable
floors_code = code_by (FloorRows × ℕ) (coded× (code (coded_list coded_ℕ) coded_ℕ) coded_ℕ) (λ f. (f.rows, f.base))
    (λ p. record { rows = p.0; base = p.1 }) (λ _. refl)
