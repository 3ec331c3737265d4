-- What the last statement of the transaction that sets the base does to a node's file: the UPDATE
-- replaces the one row of `base`.
use Rattle.std.proofs.Common.{ℕ, Ok, Err, Result, OnOk, ap, ◌∙◌}
use Rattle.sqlite.specs.State.{State, HasCleanDisk, Executes}
use Rattle.sqlite.specs.declared.error.Error.{Error}
use Rattle.floor_rules.specs.Floors.{base_only}
use Rattle.purge_tables.specs.Making.{Makes}
use Rattle.purge_tables.proofs.StatementLemmas.{Ran, inside}
use Rattle.purge_numbers.specs.Tables.{rows_of}
use Rattle.purge_numbers.specs.Put.{base_text, base_params}
use Rattle.purge_numbers.specs.Writing.{HasNoRows, Holds}
use Rattle.purge_numbers.proofs.BaseLemmas.{base_runs}

-- ---- the base is set

base_step : (old new : State) (n count : ℕ) → HasNoRows old.now → Executes base_text (base_params n) old new (Ok count) → Holds (base_only n) new.now
base_step old new n count from h =
    let set = base_runs old new n count from.0 h in
    (set.0, set.1 ∙ ap (λ rows. record { rows = rows_of rows; base = n }) from.1)

-- ---- in a transaction

pub makes_rebased : (old new : State) (n : ℕ) (r : Result ℕ Error) → Ran base_text (base_params n) old new r →
    OnOk r (HasCleanDisk new → Makes HasNoRows (Holds (base_only n)) old new)
makes_rebased old new n (Err e) h = tt
makes_rebased old new n (Ok count) h = λ clean on from. let it = inside old new base_text (base_params n) count (h clean on) in
    (it.1, base_step old new n count from it.0)
