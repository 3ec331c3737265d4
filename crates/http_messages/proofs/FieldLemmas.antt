-- Loops over fields, seen as lists of names and values: what holds of the first fields holds of
-- one more, and the sum of line lengths grows by that of the next field, so it never passes that
-- of all fields.
use Rattle.std.proofs.Common.{◌≡◌, ℕ, ◌+◌, ◌<◌, ◌≤◌, Bool, true, false, List, length, map, take, get_or, sym, ap, ◌∙◌, arith}
use Rattle.std.specs.Prelude.{sum_by}
use Rattle.std.specs.List.{list_all}
use Rattle.std.proofs.lemmas.Bool.{and_from}
use Rattle.std.proofs.lemmas.List.{length-map, get_or-map}
use Rattle.std.proofs.lemmas.List.Folds.{list_all_more, list_all_at}
use Rattle.std.proofs.lemmas.List.Sums.{sum_by_more, sum_by_more_le}
use Rattle.http_messages.specs.declared.fields.Field.{Field}
use Rattle.http_messages.specs.Field.{FieldText, field_text, line_length}

module _ (fields : List Field) (i : ℕ) (within : i < length fields) (field : Field) (is : field ≡ get_or fields i field) where
  -- the place lies within the list of names and values too
  inside : i < length (map field_text fields)
  inside = omega (arith, length-map fields field_text)

  -- the name and value at the place are those of the field
  here : get_or (map field_text fields) i (field_text field) ≡ field_text field
  here = get_or-map field_text fields i field (field_text field) within ∙ ap field_text (sym is)

  -- one more field that passes
  pub all_more : (p : FieldText → Bool) → list_all p (take i (map field_text fields)) ≡ true → p (field_text field) ≡ true →
      list_all p (take (i + 1) (map field_text fields)) ≡ true
  all_more p before now =
      list_all_more p (map field_text fields) i (field_text field) inside ∙ and_from _ _ before (ap p here ∙ now)

  -- a field that does not pass
  pub all_fails : (p : FieldText → Bool) → p (field_text field) ≡ false → list_all p (map field_text fields) ≡ false
  all_fails p now = list_all_at p (map field_text fields) i (field_text field) inside (ap p here ∙ now)

  -- one more line in the sum
  pub sum_more : sum_by line_length (take (i + 1) (map field_text fields)) ≡ sum_by line_length (take i (map field_text fields)) + line_length
      (field_text field)
  sum_more = sum_by_more line_length (map field_text fields) i (field_text field) inside
      ∙ ap (λ f. sum_by line_length (take i (map field_text fields)) + line_length f) here

  -- the sum with this line is at most that of all lines
  pub sum_over : sum_by line_length (take i (map field_text fields)) + line_length (field_text field) ≤ sum_by line_length (map field_text fields)
  sum_over =
      let most = sum_by_more_le line_length (map field_text fields) i (field_text field) inside in
      omega (arith, ap line_length here)
