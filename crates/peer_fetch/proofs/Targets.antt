-- A request target, in either form, and the `host` field give the key back: the path of a key
-- begins with a slash, and scheme, authority and path together are the key.
use Rattle.std.proofs.Common.{◌≡◌, ℕ, ◌<◌, ◌≤◌, ◌==◌, ◌||◌, true, false, not, cond, List, [], ◌∷◌, ◌++◌, length, drop, get_or, Option, Some, None, Ok, Err}
use Rattle.std.proofs.Common.{is_some, refl, sym, ap, ◌∙◌, inl, inr, arith, length-append, length-drop, take-append-drop, codes}
use Rattle.std.specs.List.{list_all}
use Rattle.std.proofs.lemmas.Bool.{cases_Bool}
use Rattle.std.proofs.lemmas.List.{drop_at, get_or_append_left}
use Rattle.std.proofs.lemmas.List.Elements.{All-drop}
use Rattle.std.proofs.lemmas.List.Sums.{AllPass-from_list_all, list_all-from_AllPass}
use Rattle.http_uri.specs.ByteClasses.{framed_text}
use Rattle.http_uri.specs.Grammar.{IsForm, authority_len, path_of}
use Rattle.http_uri.specs.Uri.{Spells, uri_scheme, uri_authority, uri_data, uri_path, uri_query}
use Rattle.http_uri.specs.declared.uri.Uri.{Uri}
use Rattle.http_uri.proofs.Theorems.{Spells_unique}
use Rattle.url_key.specs.declared.fault.KeyFault.{KeyFault}
use Rattle.url_key.specs.declared.fault.KeyFault.TheVariants.{NotHttp}
use Rattle.url_key.specs.Text.{http_prefix, is_visible, key_authority, key_path}
use Rattle.url_key.specs.Key.{HasKey, HasKeyBy, KeepsParts, early_fault, key_of_uri, is_http}
use Rattle.url_key.proofs.KeyLemmas.{made}
use Rattle.url_key.proofs.PathLemmas.{shows_path, path_first}
use Rattle.http_writing.specs.declared.ask.AskForm.{AskForm}
use Rattle.http_writing.specs.declared.ask.AskForm.TheVariants.{Absolute, Origin}
use Rattle.http_writing.specs.Ask.{target}
use Rattle.http_reading.specs.AskFields.{one}
use Rattle.http_reading.specs.AskHead.{is_origin_form, url_by}
use Rattle.peer_fetch.proofs.Keys.{IsPlainText, key_plain, IsHttpText, key_begins, http_scheme}

-- A key's path begins with a slash

scheme_of : (u : Uri) (key : List ℕ) → Ok key ≡ key_of_uri u → uri_scheme u ≡ Some (codes "http")
scheme_of u key e = elim (cases_Bool (is_http (uri_scheme u))) [
  | inr other ↦ let bad : Ok key ≡ Err NotHttp = e ∙ rw other refl in cc
  | inl http ↦ http_scheme (uri_scheme u) http
]

record IsHttpUri (text : List ℕ) : Type 0 where
  uri : Uri
  spells : Spells text uri
  scheme : uri_scheme uri ≡ Some (codes "http")

uri_by : (text key : List ℕ) (fault : Option KeyFault) → HasKeyBy fault text (Ok key) → IsHttpUri text
uri_by text key (Some fault) e = cc
uri_by text key None (inl none) = cc
uri_by text key None (inr (u, spells, e)) = record { uri = u; spells = spells; scheme = scheme_of u key e }

tail_of : (text : List ℕ) (s a : Option (List ℕ)) (kept : List ℕ) → s ≡ Some (codes "http") → IsForm text s a kept → (0 < length (path_of kept))
    × (get_or (path_of kept) 0 0 ≡ 47)
tail_of text None a kept e form = cc
tail_of text (Some s) None kept e form = absurd form
tail_of text (Some s) (Some authority) kept e form = path_first form.tail kept form.is_tail

record IsPath (text : List ℕ) : Type 0 where
  some : 0 < length text
  first : get_or text 0 0 ≡ 47

path_by : (text key : List ℕ) → HasKey text (Ok key) → KeepsParts text key → IsPath (key_path key)
path_by text key has (u, spells, keeps) =
    let found : IsHttpUri text = uri_by text key (early_fault text) has in
    let scheme_is : uri_scheme u ≡ Some (codes "http") = (Spells_unique text u found.uri spells found.spells).0 ∙ found.scheme in
    let path_is : uri_path u ≡ path_of (uri_data u) =
    ap (λ s. cond (not (length (uri_data u) == 0) || is_some s) (path_of (uri_data u)) []) scheme_is
    ∙ shows_path (length (uri_data u) == 0) (path_of (uri_data u)) in
    let begins = tail_of text (uri_scheme u) (uri_authority u) (uri_data u) scheme_is spells.1 in
    let query : List ℕ = framed_text (codes "?") (uri_query u) [] in
    let whole : key_path key ≡ path_of (uri_data u) ++ query = keeps.path ∙ ap (λ (p : List ℕ). p ++ query) path_is in
    let some = begins.0 in
    record {
      some = omega (arith, ap length whole, length-append (path_of (uri_data u)) query);
      first = ap (λ (t : List ℕ). get_or t 0 0) whole ∙ get_or_append_left (path_of (uri_data u)) query 0 0 some ∙ begins.1;
    }

-- The target, in either form

pub record IsTargetOf (key text : List ℕ) : Type 0 where
  pub some : 0 < length text
  pub short : length text ≤ 1024
  pub visible : list_all is_visible text ≡ true
  pub url : url_by (one (key_authority key)) text ≡ key

origin_first : (text : List ℕ) → IsPath text → is_origin_form text ≡ true
origin_first [] path = let some = path.some in absurd (omega arith)
origin_first (b ∷ text) path = let slash : b ≡ 47 = path.first in ap (λ (o : ℕ). o == 47) slash

path_short : (key : List ℕ) → length (key_path key) ≤ length key
path_short key =
    let rest : List ℕ = drop (length http_prefix) key in
    omega (arith, length-drop (authority_len rest) rest, length-drop (length http_prefix) key)

-- the absolute form is the key; the origin form is its path, which begins with a slash and goes with the authority
pub target_is : (form : AskForm) (key : List ℕ) → HasKey key (Ok key) → IsTargetOf key (target form key)
target_is Absolute key has =
    let plain : IsPlainText key = key_plain key key has in
    let begins : IsHttpText key = key_begins key key has in
    let size = ap length begins.begins ∙ length-append http_prefix begins.rest in
    let other : is_origin_form key ≡ false = ap is_origin_form begins.begins in
    record {
      some = omega (arith, size);
      short = plain.short;
      visible = plain.visible;
      url = rw other refl;
    }
target_is Origin key has =
    let plain : IsPlainText key = key_plain key key has in
    let begins : IsHttpText key = key_begins key key has in
    let path : IsPath (key_path key) = path_by key key has (made key key has).parts in
    let P : ℕ → Type 0 = λ b. is_visible b ≡ true in
    let rest : List ℕ = drop (length http_prefix) key in
    let short = plain.short in
    let parted : rest ≡ begins.rest = ap (drop (length http_prefix)) begins.begins ∙ drop_at http_prefix begins.rest (length http_prefix) refl in
    let whole : http_prefix ++ (key_authority key ++ key_path key) ≡ key =
    ap (λ (t : List ℕ). http_prefix ++ t) (take-append-drop (authority_len rest) rest ∙ parted) ∙ sym begins.begins in
    record {
      some = path.some;
      short = omega (arith, path_short key, short);
      visible = list_all-from_AllPass is_visible (key_path key)
          (All-drop P (authority_len rest) rest (All-drop P (length http_prefix) key (AllPass-from_list_all is_visible key plain.visible)));
      url = rw (origin_first (key_path key) path) whole;
    }
