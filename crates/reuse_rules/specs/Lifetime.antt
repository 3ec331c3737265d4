-- Whether a response is stored, and its lifetime (RFC 9111, sections 3, 4.1, 4.2.1, 4.2.2, 5.2.2
-- and 5.3).
use Rattle.std.specs.Prelude.{ℕ, Bool, not, ◌||◌, ◌==◌, bytes_eq, List, [], ◌∷◌, codes, find, Option, Some, None, option_map, if◌then◌else◌}
use Rattle.std.specs.List.{list_any}
use Rattle.http_messages.specs.Answer.{AnswerText}
use Rattle.reuse_rules.specs.Directives.{DirectiveText, directives, is_ill_quoted, is_called, seconds}

-- responses with this status are stored: six of those that are heuristically cacheable (RFC 9110,
-- section 15.1)
abbrev pub is_stored_status : ℕ → Bool
is_stored_status status = list_any (λ s. status == s) (200 ∷ 203 ∷ 300 ∷ 301 ∷ 404 ∷ 410 ∷ [])

-- the response has a field with this name, given in lower case
abbrev pub has_field : List ℕ → AnswerText → Bool
has_field name a = list_any (λ f. bytes_eq f.name name) a.fields

-- the directive forbids storing, with or without a value: `no-store` and `private` in a shared
-- cache (RFC 9111, sections 5.2.2.5 and 5.2.2.7), `no-cache` as no copy is ever validated here
-- (section 5.2.2.4)
abbrev pub forbids_storing : DirectiveText → Bool
forbids_storing d = is_called (codes "no-store") d || is_called (codes "private") d || is_called (codes "no-cache") d

-- a quoted string in a `cache-control` field is left open or begins where none may, and may hide
-- such a directive
abbrev pub hides_directives : AnswerText → Bool
hides_directives a = list_any is_ill_quoted a.fields

-- the response is not stored, whatever its lifetime; `vary` forbids it, as copies are found by
-- their key alone (section 4.1) [Lifetime 1]
abbrev pub is_kept_out : AnswerText → Bool
is_kept_out a =
    not (is_stored_status a.status) || has_field (codes "vary") a || hides_directives a || list_any forbids_storing (directives a)

-- the seconds of the first directive with this name
abbrev pub first_seconds : List ℕ → AnswerText → Option ℕ
first_seconds name a = option_map seconds (find (is_called name) (directives a))

-- `s-maxage`, else `max-age` (RFC 9111, section 4.2.1); else the default (section 4.2.2), unless
-- there is an `expires` field (section 5.3) [Lifetime 2]
abbrev pub told_seconds : Option ℕ → Option ℕ → Bool → ℕ → Option ℕ
told_seconds (Some shared) own has_expires default = Some shared
told_seconds None (Some own) has_expires default = Some own
told_seconds None None has_expires default = if has_expires then None else Some default

-- a lifetime of 0 is none
abbrev pub above_zero : Option ℕ → Option ℕ
above_zero None = None
above_zero (Some seconds) = if seconds == 0 then None else Some seconds

-- the lifetime in seconds, above 0; `None`: the response is not stored [Lifetime 2]
unfoldable pub lifetime : AnswerText → ℕ → Option ℕ
lifetime a default =
    if is_kept_out a then None
    else above_zero (told_seconds (first_seconds (codes "s-maxage") a) (first_seconds (codes "max-age") a) (has_field (codes "expires") a) default)
