-- The URI that a text spells, by the forms of a request target (RFC 9112, section 3.2). It is right
-- for texts without an early fault.
use Rattle.std.specs.Prelude.{ℕ, ◌+◌, ◌&&◌, List, [], take, drop, Option, Some, None, if◌then◌else◌}
use Rattle.std.proofs.lemmas.Option.{none-some}
use Rattle.std.proofs.Common.{refl, sym}
use Rattle.http_uri.specs.Grammar.{normal_scheme, or_slash, scheme_len, authority_len}
use Rattle.http_uri.specs.declared.uri.Uri.{Uri}
use Rattle.values_keys.specs.Tests.{is_scheme, is_authority, is_path_and_query, starts_origin, has_scheme, is_tail}

-- `/path?query`, or `*` (sections 3.2.1 and 3.2.4)
abbrev pub origin_form : List ℕ → Uri
origin_form text = record {
  scheme = None;
  authority = None;
  path_and_query = text;
  absolute = λ scheme is. absurd (none-some scheme is);
  authority_alone = λ _ authority is. absurd (none-some authority is);
}

-- `host:port` (section 3.2.3)
abbrev pub authority_form : List ℕ → Uri
authority_form text = record {
  scheme = None;
  authority = Some text;
  path_and_query = [];
  absolute = λ scheme is. absurd (none-some scheme is);
  authority_alone = λ _ _ _. refl;
}

-- `scheme://authority`, and a tail (section 3.2.2)
abbrev pub absolute_form : List ℕ → List ℕ → List ℕ → Uri
absolute_form scheme authority tail = record {
  scheme = Some scheme;
  authority = Some authority;
  path_and_query = tail;
  absolute = λ _ _. refl;
  authority_alone = λ none. absurd (none-some scheme (sym none));
}

-- the URI of a scheme, an authority and a tail, if each passes its test; an empty path reads as `/`
abbrev pub uri_of_parts : List ℕ → List ℕ → List ℕ → Option Uri
uri_of_parts name authority tail =
    if is_scheme name && is_authority authority && is_tail tail
    then Some (absolute_form (normal_scheme name) authority (or_slash tail)) else None

-- the absolute form, cut where the octets of the scheme end and where the authority ends
abbrev pub absolute_in : List ℕ → Option Uri
absolute_in text =
    let rest = drop (scheme_len text + 3) text in
    if has_scheme text then uri_of_parts (take (scheme_len text) text) (take (authority_len rest) rest)
    (drop (authority_len rest) rest) else None

-- the URI that the text spells, if it spells one; a text has one form at most
abbrev pub uri_in : List ℕ → Option Uri
uri_in text =
    if starts_origin text then (if is_path_and_query text then Some (origin_form text) else None)
    else (if is_authority text then Some (authority_form text) else absolute_in text)
