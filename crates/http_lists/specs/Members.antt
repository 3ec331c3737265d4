-- The members of a field value, cut at the commas outside quoted strings (RFC 9110, sections 5.6.1
-- and 5.6.4).
use Rattle.std.specs.Prelude.{ℕ, Bool, true, false, ◌==◌, List, [], ◌∷◌, if◌then◌else◌}
use Rattle.std.specs.List.{onto_first}
use Rattle.http_lists.specs.declared.members.Quoting.{Quoting}
use Rattle.http_lists.specs.declared.members.Quoting.TheVariants.{Outside, Inside, Escaped}

-- `,`
abbrev pub comma : ℕ
comma = 44

-- `"`, which opens and closes a quoted string
abbrev pub double_quote : ℕ
double_quote = 34

-- `\`, which in a quoted string makes the next octet stand for itself
abbrev pub backslash : ℕ
backslash = 92

-- the state of the octet after this one (RFC 9110, section 5.6.4)
abbrev pub quoting_after : Quoting → ℕ → Quoting
quoting_after Outside octet = if octet == double_quote then Inside else Outside
quoting_after Inside octet = if octet == double_quote then Outside else (if octet == backslash then Escaped else Inside)
quoting_after Escaped octet = Inside

-- a member ends at this octet: a comma outside quoted strings
abbrev pub ends_member : Quoting → ℕ → Bool
ends_member Outside octet = octet == comma
ends_member Inside octet = false
ends_member Escaped octet = false

-- the members of a text, given the state of its first octet
unfoldable pub members_from : Quoting → List ℕ → List (List ℕ)
members_from quoting [] = [] ∷ []
members_from quoting (octet ∷ text) =
    elim (ends_member quoting octet) [
      | true ↦ [] ∷ members_from Outside text
      | false ↦ onto_first octet (members_from (quoting_after quoting octet) text)
    ]

-- the members of a value; an empty value has one, which is empty [Directive 1]
abbrev pub members : List ℕ → List (List ℕ)
members value = members_from Outside value
