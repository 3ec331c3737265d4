-- The directives of a request's `cache-control` fields (RFC 9111, section 5.2.1).
use Rattle.std.specs.Prelude.{ℕ, Bool, List, codes}
use Rattle.std.specs.List.{list_any}
use Rattle.std.specs.Str.{str_eq_ignore_ascii_case}
use Rattle.http_lists.specs.Members.{members}
use Rattle.http_lists.specs.Blanks.{trim}
use Rattle.http_reading.specs.Fields.{values_named}

-- the member is this name and nothing else, ignoring case, with blanks around it; a directive with
-- a value is not it
abbrev pub is_bare : List ℕ → List ℕ → Bool
is_bare name member = str_eq_ignore_ascii_case (trim member) name

-- a member of the value is this name
abbrev pub has_member : List ℕ → List ℕ → Bool
has_member name value = list_any (is_bare name) (members value)

-- a `cache-control` field has this directive [HTTP 9]
abbrev pub has_directive : List ℕ → List (List ℕ × List ℕ) → Bool
has_directive name fields = list_any (has_member name) (values_named (codes "cache-control") fields)

-- the client wants a stored response only (RFC 9111, section 5.2.1.7)
abbrev pub only_if_cached : List (List ℕ × List ℕ) → Bool
only_if_cached fields = has_directive (codes "only-if-cached") fields

-- the client wants no stored response without validation (RFC 9111, section 5.2.1.4)
abbrev pub no_cache : List (List ℕ × List ℕ) → Bool
no_cache fields = has_directive (codes "no-cache") fields
