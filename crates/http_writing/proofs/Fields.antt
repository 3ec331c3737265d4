-- The loop over field lines: before each field, the lines of the fields from it on are still to be
-- written.
use Rattle.std.proofs.Common.{◌≡◌, ℕ, ◌+◌, ◌<◌, List, ◌∷◌, ◌++◌, length, map, drop, get_or, sym, ap, ◌∙◌}
use Rattle.std.proofs.lemmas.List.{drop_more}
use Rattle.http_messages.specs.declared.fields.Field.{Field}
use Rattle.http_messages.specs.Field.{field_text}
use Rattle.http_writing.specs.Answer.{kept_line, kept_lines}

-- the lines of the fields from place `i` on
abbrev pub lines_from : List Field → ℕ → List ℕ
lines_from fields i = kept_lines (map field_text (drop i fields))

-- they are the line of the field there, and those from the next place on
pub lines_from-next : (fields : List Field) (i : ℕ) (field : Field) → i < length fields → field ≡ get_or fields i field →
    lines_from fields i ≡ kept_line (field_text field) ++ lines_from fields (i + 1)
lines_from-next fields i field within is =
    ap (λ fs. kept_lines (map field_text fs)) (drop_more fields i field within ∙ ap (λ f. f ∷ drop (i + 1) fields) (sym is))
