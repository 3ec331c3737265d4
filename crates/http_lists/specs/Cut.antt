-- The grammar of lists: the members of a value, joined by commas, are the value; these commas
-- stand outside quoted strings, and no other commas do (RFC 9110, sections 5.6.1 and 5.6.4).
use Rattle.std.specs.Prelude.{◌≡◌, ℕ, Bool, true, false, not, ◌&&◌, ◌||◌, ◌==◌, List, [], ◌∷◌, ◌++◌, if◌then◌else◌}
use Rattle.http_lists.specs.declared.members.Quoting.{Quoting}
use Rattle.http_lists.specs.declared.members.Quoting.TheVariants.{Outside, Inside, Escaped}
use Rattle.http_lists.specs.Members.{comma, double_quote, quoting_after, ends_member}
use Rattle.http_lists.specs.Blanks.{is_blank}

-- the state of the octet after a text, given the state of the text's first octet
abbrev pub quoting_behind : Quoting → List ℕ → Quoting
quoting_behind quoting [] = quoting
quoting_behind quoting (octet ∷ text) = quoting_behind (quoting_after quoting octet) text

-- the octet stands in no quoted string
abbrev pub is_outside : Quoting → Bool
is_outside Outside = true
is_outside Inside = false
is_outside Escaped = false

-- each quoted string of the value is closed (RFC 9110, section 5.6.4)
abbrev pub is_closed : List ℕ → Bool
is_closed value = is_outside (quoting_behind Outside value)

-- a comma, a semicolon or `=`: behind it a member or a parameter's value begins (RFC 9110, section
-- 5.6.6)
abbrev pub is_lead : ℕ → Bool
is_lead octet = (octet == comma) || (octet == 59) || (octet == 61)

-- the octet opens a quoted string where none may begin, given the last octet before it that is no
-- blank
abbrev pub is_stray : Quoting → ℕ → ℕ → Bool
is_stray Outside lead octet = (octet == double_quote) && not (is_lead lead)
is_stray Inside lead octet = false
is_stray Escaped lead octet = false

-- the last octet that is no blank, given the one before this octet
abbrev pub lead_after : ℕ → ℕ → ℕ
lead_after lead octet = if is_blank octet then lead else octet

-- each quoted string of the text begins where one may, given the state of the text's first octet
-- and the last octet before it that is no blank
abbrev pub begins_well : Quoting → ℕ → List ℕ → Bool
begins_well quoting lead [] = true
begins_well quoting lead (octet ∷ text) = not (is_stray quoting lead octet) && begins_well (quoting_after quoting octet) (lead_after lead octet) text

-- Each quoted string of the value is closed, and begins where one may; the value's start is that of
-- a member, as what stands behind a comma is (RFC 9110, sections 5.6.4 and 5.6.6).
abbrev pub is_well_quoted : List ℕ → Bool
is_well_quoted value = begins_well Outside comma value && is_closed value

-- no comma of the text stands outside quoted strings, given the state of the text's first octet
abbrev pub is_unbroken : Quoting → List ℕ → Bool
is_unbroken quoting [] = true
is_unbroken quoting (octet ∷ text) = not (ends_member quoting octet) && is_unbroken (quoting_after quoting octet) text

-- A value, given the state of its first octet, has these members: one member, which is all of it;
-- or a member that ends outside quoted strings, a comma, and a rest that has the others.
pub data HasMembers : Quoting → List ℕ → List (List ℕ) → Type 0 where
  one : {quoting : Quoting} → (member : List ℕ) → is_unbroken quoting member ≡ true →
      HasMembers quoting member (member ∷ [])
  more : {quoting : Quoting} → (member : List ℕ) {value : List ℕ} {others : List (List ℕ)} →
      is_unbroken quoting member ≡ true → quoting_behind quoting member ≡ Outside
      → HasMembers Outside value others → HasMembers quoting (member ++ comma ∷ value) (member ∷ others)
