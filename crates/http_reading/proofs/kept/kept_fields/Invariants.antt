use Rattle.std.proofs.Common.{◌≡◌, true, ◌++◌, map}
use Rattle.std.specs.List.{list_all}
use Rattle.http_messages.specs.Field.{field_text, is_kept_field}
use Rattle.http_reading.specs.Fields.{fields_of}
use Rattle.http_reading.specs.Kept.{kept, options_of}
use Rattle.http_reading.proofs.Keeping.{kept_from}
use Rattle.http_reading.proofs.kept.kept_fields.Given as goal

abbrev pub invariant-loop-header : goal.invariant-loop-header
invariant-loop-header l = record {
  same : map field_text l.fields.items ++ kept_from (options_of (fields_of l.window l.headers)) l.window l.headers l.header-index ≡ kept
      (fields_of l.window l.headers);
  held : list_all is_kept_field (map field_text l.fields.items) ≡ true;
}
