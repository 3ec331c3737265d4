-- What an iterator over the values of one name has still to give.
use Rattle.std.specs.Prelude.{ℕ, List}
use Rattle.http_reading.specs.declared.fields.Values.{Values}
use Rattle.http_reading.specs.Fields.{fields_of, values_named}

-- what a contract sees of an iterator
abbrev pub values_left : Values → List (List ℕ)
values_left it = values_named it.name.now (fields_of it.window.now it.headers.now)
