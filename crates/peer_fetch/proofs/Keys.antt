-- A text has one key or one first fault. A text with a key has at most 1,024 octets, all visible,
-- and its key begins as an http URL.
use Rattle.std.proofs.Common.{◌≡◌, ℕ, ◌≤◌, ◌==◌, true, not, cond, List, [], ◌∷◌, ◌++◌, length, Option, Some, None, unwrap_or, Result, Ok, Err, refl, sym, ap}
use Rattle.std.proofs.Common.{◌∙◌, inl, inr, append_assoc, nat_lt, codes, is_some, ◌||◌}
use Rattle.std.specs.List.{list_all, list_any}
use Rattle.std.proofs.lemmas.Slice.Eq.{bytes_eq-Decides}
use Rattle.std.proofs.lemmas.Bool.{cases_Bool, ltb-false}
use Rattle.http_uri.specs.ByteClasses.{framed_text, lowercase}
use Rattle.http_uri.specs.Grammar.{path_of, query_of}
use Rattle.http_uri.specs.Uri.{Spells, uri_scheme, uri_authority, uri_data, uri_path, uri_query}
use Rattle.http_uri.specs.declared.uri.Uri.{Uri}
use Rattle.http_uri.proofs.Theorems.{Spells_unique}
use Rattle.url_key.specs.declared.fault.KeyFault.{KeyFault}
use Rattle.url_key.specs.declared.fault.KeyFault.TheVariants.{TooLong, NotVisibleAscii, NotHttp, UserInfo}
use Rattle.url_key.specs.Text.{http_prefix, is_visible, host_of, after_host, port_of, port_text, canonical_text}
use Rattle.url_key.specs.Key.{HasKey, HasKeyBy, early_fault, key_of_uri, key_of_authority, key_of_host, key_within, is_http}

-- A text has one key, or one first fault

abbrev outcome_by : Option (List ℕ) → Option (List ℕ) → List ℕ → Result (List ℕ) KeyFault
outcome_by scheme authority kept =
    cond (is_http scheme) (key_of_authority (unwrap_or authority []) (cond (not (length kept == 0) || is_some scheme) (path_of kept) []) (query_of kept))
    (Err NotHttp)

same_uri : (text : List ℕ) (u v : Uri) → Spells text u → Spells text v → key_of_uri u ≡ key_of_uri v
same_uri text u v x y =
    let same = Spells_unique text u v x y in
    ap (λ s. outcome_by s (uri_authority u) (uri_data u)) same.0
    ∙ ap (λ a. outcome_by (uri_scheme v) a (uri_data u)) same.1
    ∙ ap (outcome_by (uri_scheme v) (uri_authority v)) same.2

once_by : (fault : Option KeyFault) (text : List ℕ) (a b : Result (List ℕ) KeyFault) → HasKeyBy fault text a → HasKeyBy fault text b → a ≡ b
once_by (Some fault) text a b x y = x ∙ sym y
once_by None text a b (inl x) (inl y) = x.1 ∙ sym y.1
once_by None text a b (inl x) (inr (v, spells, y)) = absurd (x.0 _ _ _ spells)
once_by None text a b (inr (u, spells, x)) (inl y) = absurd (y.0 _ _ _ spells)
once_by None text a b (inr (u, s, x)) (inr (v, t, y)) = x ∙ same_uri text u v s t ∙ sym y

pub key_once : (text : List ℕ) (a b : Result (List ℕ) KeyFault) → HasKey text a → HasKey text b → a ≡ b
key_once text a b x y = once_by (early_fault text) text a b x y

-- A text that has a key is short and visible

pub record IsPlainText (text : List ℕ) : Type 0 where
  pub short : length text ≤ 1024
  pub visible : list_all is_visible text ≡ true

passed : (text : List ℕ) → early_fault text ≡ None → IsPlainText text
passed text e = elim (cases_Bool (nat_lt 1024 (length text))) [
  | inl long ↦ let bad : Some TooLong ≡ None = sym (rw long refl) ∙ e in cc
  | inr short ↦ elim (cases_Bool (list_all is_visible text)) [
    | inr hidden ↦ let bad : Some NotVisibleAscii ≡ None = sym (rw (short, hidden) refl) ∙ e in cc
    | inl visible ↦ record { short = ltb-false 1024 (length text) short; visible = visible }
  ]
]

plain_by : (text key : List ℕ) (fault : Option KeyFault) → early_fault text ≡ fault → HasKeyBy fault text (Ok key) → IsPlainText text
plain_by text key (Some fault) is e = cc
plain_by text key None is has = passed text is

pub key_plain : (text key : List ℕ) → HasKey text (Ok key) → IsPlainText text
key_plain text key has = plain_by text key (early_fault text) refl has

-- A key begins as an http URL

pub record IsHttpText (key : List ℕ) : Type 0 where
  pub rest : List ℕ
  pub begins : key ≡ http_prefix ++ rest

pub within_key : (made key : List ℕ) → Ok key ≡ key_within made → key ≡ made
within_key made key e = elim (cases_Bool (nat_lt 1024 (length made))) [
  | inl long ↦ let bad : Ok key ≡ Err TooLong = e ∙ rw long refl in cc
  | inr short ↦ let good : Ok key ≡ Ok made = e ∙ rw short refl in cc
]

begins_by : (host : List ℕ) (port : ℕ) (path : List ℕ) (query : Option (List ℕ)) (key : List ℕ) → key ≡ canonical_text host port path query → IsHttpText key
begins_by host port path query key is = record {
  rest = lowercase host ++ (port_text port ++ (path ++ framed_text (codes "?") query []));
  begins = is ∙ append_assoc (http_prefix ++ lowercase host ++ port_text port) path (framed_text (codes "?") query [])
      ∙ append_assoc (http_prefix ++ lowercase host) (port_text port) (path ++ framed_text (codes "?") query [])
      ∙ append_assoc http_prefix (lowercase host) (port_text port ++ (path ++ framed_text (codes "?") query []));
}

begins_host : (host : List ℕ) (port : Option ℕ) (path : List ℕ) (query : Option (List ℕ)) (key : List ℕ) → Ok key ≡ key_of_host host port path query →
    IsHttpText key
begins_host [] port path query key e = cc
begins_host (b ∷ host) None path query key e = cc
begins_host (b ∷ host) (Some n) path query key e = begins_by (b ∷ host) n path query key (within_key (canonical_text (b ∷ host) n path query) key e)

begins_authority : (a path : List ℕ) (query : Option (List ℕ)) (key : List ℕ) → Ok key ≡ key_of_authority a path query → IsHttpText key
begins_authority a path query key e = elim (cases_Bool (list_any (λ b. b == 64) a)) [
  | inl at ↦ let bad : Ok key ≡ Err UserInfo = e ∙ rw at refl in cc
  | inr none ↦ begins_host (host_of a) (port_of (after_host a)) path query key (e ∙ rw none refl)
]

begins_uri : (u : Uri) (key : List ℕ) → Ok key ≡ key_of_uri u → IsHttpText key
begins_uri u key e = elim (cases_Bool (is_http (uri_scheme u))) [
  | inr other ↦ let bad : Ok key ≡ Err NotHttp = e ∙ rw other refl in cc
  | inl http ↦ begins_authority (unwrap_or (uri_authority u) []) (uri_path u) (uri_query u) key (e ∙ rw http refl)
]

http_by : (text key : List ℕ) (fault : Option KeyFault) → HasKeyBy fault text (Ok key) → IsHttpText key
http_by text key (Some fault) e = cc
http_by text key None (inl none) = cc
http_by text key None (inr (u, spells, e)) = begins_uri u key e

pub key_begins : (text key : List ℕ) → HasKey text (Ok key) → IsHttpText key
key_begins text key has = http_by text key (early_fault text) has

-- A scheme that is http

pub http_scheme : (scheme : Option (List ℕ)) → is_http scheme ≡ true → scheme ≡ Some (codes "http")
http_scheme None e = cc
http_scheme (Some s) e = ap Some ((bytes_eq-Decides s (codes "http")).0 e)
