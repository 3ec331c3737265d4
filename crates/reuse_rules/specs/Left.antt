-- What an iterator over directives has still to give.
use Rattle.std.specs.Prelude.{ℕ, List, [], ◌++◌, map, Option, Some, None, option_copied}
use Rattle.std.specs.List.{flat_map}
use Rattle.http_messages.specs.Field.{field_text}
use Rattle.reuse_rules.specs.declared.directive.Directives.{Directives}
use Rattle.http_lists.specs.Members.{members}
use Rattle.reuse_rules.specs.Directives.{DirectiveText, directive_of, directives_of_field}

-- the directives of what is left of a field value
abbrev pub directives_in : Option (List ℕ) → List DirectiveText
directives_in None = []
directives_in (Some text) = map directive_of (members text)

-- what a contract sees of an iterator: the directives of the current field, then those of the
-- fields after it
abbrev pub directives_left : Directives → List DirectiveText
directives_left it = directives_in (option_copied it.text) ++ flat_map directives_of_field
    (map field_text it.fields.now)
