-- The key of a key's own text is that key. The text either has a fault or spells no URI, which
-- IsKey excludes, or it spells a URI, and then IsKey says which key it has.
use Rattle.values_tables.specs.declared.plain.Tables.{Tables}
use Rattle.std.proofs.Common.{◌≡◌, ℕ, Bool, true, false, List, Option, Some, None, Ok, Err, refl, sym, ◌∙◌, ap, subst, inl, inr, [], unwrap_or}
use Rattle.std.proofs.lemmas.Option.{none-some}
use Rattle.std.specs.Prelude.{bytes_eq}
use Rattle.http_uri.specs.Grammar.{IsUriText}
use Rattle.http_uri.specs.Uri.{Spells, SpellsNone}
use Rattle.http_uri.specs.declared.uri.Uri.{Uri}
use Rattle.url_key.specs.declared.fault.KeyFault.{KeyFault}
use Rattle.url_key.specs.declared.fault.KeyFault.TheVariants.{NotUri}
use Rattle.url_key.specs.Key.{IsKey, HasKey, HasKeyBy, early_fault, key_of_uri}
use Rattle.node_rules.proofs.FloorLaws.{same_text, text_same}
use Rattle.node_rules.proofs.Cases.{true_not_false}
use Rattle.values_keys.specs.KeyOf.{key_of, key_in}
use Rattle.values_keys.proofs.Outcomes.{gives_keys}

-- a URI of these parts
uri_of : (text : List ℕ) (scheme authority : Option (List ℕ)) (kept : List ℕ) → IsUriText text scheme authority kept → (u : Uri) × Spells text u
uri_of text None None kept is = (
  record {
    scheme = None;
    authority = None;
    path_and_query = kept;
    absolute = λ x e. absurd (none-some x e);
    authority_alone =
        λ none x e. absurd (none-some x e);
  },
  is,
)
uri_of text None (Some authority) kept is =
    (record { scheme = None; authority = Some authority; path_and_query = kept; absolute = λ x e. refl; authority_alone = λ none x e. is.1.3 }, is)
uri_of text (Some scheme) None kept is = absurd is.1
uri_of text (Some scheme) (Some authority) kept is = (
  record {
    scheme = Some scheme;
    authority = Some authority;
    path_and_query = kept;
    absolute = λ x e. refl;
    authority_alone =
        λ none. absurd (none-some scheme (sym none));
  },
  is,
)

module _ (h : Tables) (key : List ℕ) (is : IsKey key) where
  -- a text that spells a URI whose outcome is known
  spelled : early_fault key ≡ None → (u : Uri) → Spells key u → key_of key ≡ Some key
  spelled none u spells =
      let has : HasKey key (key_of_uri u) = subst (λ f. HasKeyBy f key (key_of_uri u)) (sym none) (inr (u, spells, refl)) in
      gives_keys key (key_of_uri u) has ∙ ap key_in (is.own (key_of_uri u) has)

  -- it cannot be that a key's text has another outcome
  not_other : (f : Option KeyFault) → early_fault key ≡ f → (key_of key ≡ Some key → ⊥) → ⊥
  not_other (Some fault) e other =
      let bad : Err fault ≡ Ok key = is.own (Err fault) (subst (λ f. HasKeyBy f key (Err fault)) (sym e) refl) in cc
  not_other None e other =
      let none : SpellsNone key = λ scheme authority kept form. let u = uri_of key scheme authority kept form in other (spelled e u.0 u.1) in
      let bad : Err NotUri ≡ Ok key = is.own (Err NotUri) (subst (λ f. HasKeyBy f key (Err NotUri)) (sym e) (inl (none, refl))) in cc

  by_text : (read : List ℕ) → key_of key ≡ Some read → (b : Bool) → bytes_eq read key ≡ b → key_of key ≡ Some key
  by_text read e true same = e ∙ ap Some (same_text read key same)
  by_text read e false other =
      absurd (not_other (early_fault key) refl (λ own. true_not_false (sym (text_same read key (ap (λ o. unwrap_or o []) (sym e ∙ own))) ∙ other)))

  by_read : (o : Option (List ℕ)) → key_of key ≡ o → key_of key ≡ Some key
  by_read None e = absurd (not_other (early_fault key) refl (λ own. none-some key (sym e ∙ own)))
  by_read (Some read) e = by_text read e (bytes_eq read key) refl

  -- the text of a key has that key
  pub own_key : key_of key ≡ Some key
  own_key = by_read (key_of key) refl
