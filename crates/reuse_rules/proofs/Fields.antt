-- Fields seen as names and values: the directives left after a field was begun are those left
-- before.
use Rattle.std.proofs.Common.{◌≡◌, ℕ, Bool, true, false, cond, bytes_eq, List, [], ◌∷◌, ◌++◌, map, Option, Some, None, codes, refl, ap, ◌||◌}
use Rattle.std.specs.List.{list_any, flat_map}
use Rattle.http_messages.specs.declared.fields.Field.{Field}
use Rattle.http_messages.specs.Field.{FieldText, field_text}
use Rattle.http_lists.specs.Members.{members}
use Rattle.reuse_rules.specs.Directives.{DirectiveText, directive_of, directives_of_field}
use Rattle.reuse_rules.specs.Left.{directives_in}

-- a test of names and values, asked of the fields
pub list_any-map : (test : FieldText → Bool) (fields : List Field) → list_any test (map field_text fields) ≡ list_any (λ f. test (field_text f)) fields
list_any-map test [] = refl
list_any-map test (f ∷ fields) = ap (λ (b : Bool). test (field_text f) || b) (list_any-map test fields)

-- the directives of a field's text, if it is a `cache-control` field
directives_of_text : (is_list : Bool) (value : List ℕ) → directives_in (cond is_list (Some value) None) ≡ cond is_list (map directive_of (members value)) []
directives_of_text true value = refl
directives_of_text false value = refl

-- the next field is begun
pub next_field : (text : Option (List ℕ)) (fields others : List Field) (field : Field) → fields ≡ field ∷ others
    → text ≡ cond (bytes_eq field.name (codes "cache-control")) (Some field.value.bytes) None
    → directives_in text ++ flat_map directives_of_field (map field_text others) ≡ flat_map directives_of_field (map field_text fields)
next_field text fields others field first is =
    rw (first, is)
    (ap (λ (ds : List DirectiveText). ds ++ flat_map directives_of_field (map field_text others))
    (directives_of_text (bytes_eq field.name (codes "cache-control")) field.value.bytes))
