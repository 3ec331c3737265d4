-- The statement that makes `form` leads from a blank file to one that has `form` alone.
use Rattle.std.proofs.Common.{ℕ, [], Ok, Err, Result, OnOk, ◌≡◌, refl}
use Rattle.sqlite.specs.declared.error.Error.{Error}
use Rattle.sqlite.specs.State.{State, HasCleanDisk, Executes}
use Rattle.purge_tables.specs.Tables.{form_table, empty_schema, form_schema}
use Rattle.purge_tables.specs.Making.{IsBlank, IsFormed, Makes}
use Rattle.purge_tables.proofs.Texts.{create_form, form_defined, form_created, create_form_is, create_form_plain}
use Rattle.purge_tables.proofs.StatementLemmas.{creates, Ran, inside}

form_step : (old new : State) (count : ℕ) → old.now.schema ≡ empty_schema → Executes create_form [] old new (Ok count) → IsFormed new.now
form_step old new count has h =
    let made = creates create_form empty_schema form_schema form_table create_form_is.0 create_form_is.1 create_form_plain form_defined form_created refl old
    new count has h in (made.0, made.1)

pub makes_form : (old new : State) (r : Result ℕ Error) → Ran create_form [] old new r → OnOk r (HasCleanDisk new → Makes IsBlank IsFormed old new)
makes_form old new (Err e) h = tt
makes_form old new (Ok count) h = λ clean on from. let it = inside old new create_form [] count (h clean on) in (it.1, form_step old new count from it.0)
