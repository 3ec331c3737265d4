-- Each text has the outcome that the function gives, and no other: a text spells one URI at most,
-- and the function finds it.
use Rattle.std.proofs.Common.{◌≡◌, ℕ, cond, Option, Some, None, unwrap_or, is_some, not, ◌||◌, ◌==◌, List, [], length, Result, Err, refl, sym, ap, ◌∙◌, inl}
use Rattle.std.proofs.Common.{inr}
use Rattle.http_uri.specs.declared.uri.Uri.{Uri}
use Rattle.http_uri.specs.Grammar.{path_of, query_of}
use Rattle.http_uri.specs.Uri.{Spells, uri_scheme, uri_authority, uri_data}
use Rattle.http_uri.proofs.Theorems.{Spells_unique}
use Rattle.url_key.specs.declared.fault.KeyFault.{KeyFault}
use Rattle.url_key.specs.declared.fault.KeyFault.TheVariants.{NotHttp}
use Rattle.url_key.specs.Key.{HasKey, HasKeyBy, HasUriKey, early_fault, key_of_uri, key_of_authority, is_http}
use Rattle.values_keys.specs.UriIn.{uri_in}
use Rattle.values_keys.specs.KeyOf.{outcome_by, outcome_of, key_in, key_of, GivesKeys}
use Rattle.values_keys.proofs.Tested.{plain_text}
use Rattle.values_keys.proofs.Spelled.{Reads, uri_in_reads}

-- the outcome of a URI, by what it holds
abbrev key_by : Option (List ℕ) → Option (List ℕ) → List ℕ → Result (List ℕ) KeyFault
key_by scheme authority kept =
    cond (is_http scheme)
    (key_of_authority (unwrap_or authority []) (cond (not (length kept == 0) || is_some scheme) (path_of kept) []) (query_of kept)) (Err NotHttp)

same_key : (text : List ℕ) (u v : Uri) → Spells text u → Spells text v → key_of_uri u ≡ key_of_uri v
same_key text u v h g =
    let same = Spells_unique text u v h g in
    ap (λ s. key_by s (uri_authority u) (uri_data u)) same.0 ∙ ap (λ a. key_by (uri_scheme v) a (uri_data u)) same.1
    ∙ ap (key_by (uri_scheme v) (uri_authority v)) same.2

spelled_outcome : (text : List ℕ) (o : Option Uri) → Reads text o → HasUriKey text (outcome_by None o)
spelled_outcome text None none = inl (none, refl)
spelled_outcome text (Some u) spells = inr (u, spells, refl)

only_spelled : (text : List ℕ) (o : Option Uri) → Reads text o → (outcome : Result (List ℕ) KeyFault) → HasUriKey text outcome → outcome ≡ outcome_by None o
only_spelled text None none outcome (inl h) = h.1
only_spelled text None none outcome (inr h) = absurd (none _ _ _ h.1)
only_spelled text (Some u) spells outcome (inl h) = absurd (h.0 _ _ _ spells)
only_spelled text (Some u) spells outcome (inr h) = h.2 ∙ same_key text h.0 u h.1 spells

found_by : (text : List ℕ) (early : Option KeyFault) → early_fault text ≡ early → HasKeyBy early text (outcome_by early (uri_in text))
found_by text (Some fault) is = refl
found_by text None is = spelled_outcome text (uri_in text) (uri_in_reads text (plain_text text is))

only_by : (text : List ℕ) (early : Option KeyFault) → early_fault text ≡ early → (outcome : Result (List ℕ) KeyFault) → HasKeyBy early text outcome →
    outcome ≡ outcome_by early (uri_in text)
only_by text (Some fault) is outcome has = has
only_by text None is outcome has = only_spelled text (uri_in text) (uri_in_reads text (plain_text text is)) outcome has

pub uri_found : (text : List ℕ) → early_fault text ≡ None → Reads text (uri_in text)
uri_found text passed = uri_in_reads text (plain_text text passed)

pub found : (text : List ℕ) → HasKey text (outcome_of text)
found text = found_by text (early_fault text) refl

pub only : (text : List ℕ) (outcome : Result (List ℕ) KeyFault) → HasKey text outcome → outcome ≡ outcome_of text
only text outcome has = only_by text (early_fault text) refl outcome has

pub gives_keys : GivesKeys key_of
gives_keys text outcome has = ap key_in (sym (only text outcome has))
