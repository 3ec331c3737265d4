-- The key of a text is the key of its own text: the canonical text spells a URI with the same
-- parts, so its key is itself.
use Rattle.std.proofs.Common.{◌≡◌, ◌≢◌, ℕ, ◌+◌, ◌<◌, ◌≤◌, ◌==◌, ◌||◌, not, is_some, false, cond, IsTrue, IfSome, List, [], ◌∷◌, ◌++◌, length, get_or, take}
use Rattle.std.proofs.Common.{drop, bytes_eq, Option, Some, None, unwrap_or, Result, Ok, Err, refl, sym, ap, ◌∙◌, subst, arith, inl, inr, one-add, append-nil}
use Rattle.std.proofs.Common.{append_assoc, take_all, take-append-drop, length-take-le, get_or-take, lt-ltb, le-ltb, ne_eqb, length-append, rules, codes}
use Rattle.std.specs.List.{list_any}
use Rattle.std.proofs.lemmas.Bool.{cases_lt, cases_Bool}
use Rattle.std.proofs.lemmas.List.{drop_more}
use Rattle.std.proofs.lemmas.Str.{IsUtf8-append}
use Rattle.http_uri.specs.declared.uri.Uri.{Uri}
use Rattle.http_uri.specs.ByteClasses.{lowercase, is_query_byte, is_delimiter, index_of, split_once_front, split_once_back, framed_text}
use Rattle.http_uri.specs.Grammar.{AllPass, IsScheme, IsAuthority, IsPathAndQuery, IsPathInput, StartsPath, IsTail, IsAbsoluteForm, IsForm, normal_scheme}
use Rattle.http_uri.specs.Grammar.{without_fragment, or_slash, path_of, query_of}
use Rattle.http_uri.specs.Uri.{Spells, uri_scheme, uri_authority, uri_data, uri_path, uri_query}
use Rattle.http_uri.proofs.RunLemmas.{index_of_is, index_of_found, index_of_before, index_of_le}
use Rattle.http_uri.proofs.PathLemmas.{IsPathAndQuery_slash}
use Rattle.url_key.specs.declared.fault.KeyFault.{KeyFault}
use Rattle.url_key.specs.declared.fault.KeyFault.TheVariants.{NotHttp, UserInfo}
use Rattle.url_key.specs.Text.{http_prefix, host_of, after_host, port_of, port_text, canonical_text}
use Rattle.url_key.specs.Key.{HasKey, HasKeyBy, IsKey, early_fault, key_of_uri, key_of_authority, key_of_host, is_http}
use Rattle.url_key.proofs.HostLemmas.{written_valid}
use Rattle.url_key.proofs.PlainLemmas.{none_at}
use Rattle.url_key.proofs.PathLemmas.{shows_path}
use Rattle.url_key.proofs.KeyLemmas.{made}
use Rattle.peer_fetch.proofs.Keys.{within_key, http_scheme}

-- the path, the mark and the query give the text back
rejoined : (k : List ℕ) → split_once_front 63 k ++ framed_text (63 ∷ []) (split_once_back 63 k) [] ≡ k
rejoined k =
    let i = index_of 63 k in
    elim (cases_lt i (length k)) [
      | inl found ↦
          rw (lt-ltb i (length k) found, append-nil)
          (ap (λ t. take i k ++ t) (sym (drop_more k i 0 found ∙ ap (λ b. b ∷ drop (i + 1) k) (index_of_found 63 k found))) ∙ take-append-drop i k)
      | inr none ↦ rw (le-ltb i (length k) none, append-nil) (take_all i k none)
    ]

-- what is kept has no fragment
no_fragment : (text : List ℕ) → index_of 35 (without_fragment text) ≡ length (without_fragment text)
no_fragment text =
    let e = index_of 35 text in
    let len = length-take-le e text (index_of_le 35 text) in
    index_of_is 35 (take e text) _ (omega arith)
    (λ k h. rw (get_or-take e text k 0 (omega arith)) (index_of_before 35 text k (omega arith))) λ h. absurd (omega arith)

-- the text of a path and a query: how it is shown, with the same path and query, and parses as
-- itself
record Shown (k : List ℕ) (lead : ℕ) : Type 0 where
  text : List ℕ
  first : get_or text 0 0 ≡ lead
  is : path_of k ++ framed_text (63 ∷ []) (query_of k) [] ≡ text
  whole : without_fragment text ≡ text
  valid : length text ≤ 65534 → IsPathAndQuery text
  path : path_of text ≡ path_of k
  query : query_of text ≡ query_of k

-- a text that begins with a path is shown as it is
shown_as_is : (k : List ℕ) → 0 < length k → get_or k 0 0 ≢ 63 → index_of 35 k ≡ length k → IsPathAndQuery k → Shown k (get_or k 0 0)
shown_as_is [] some other plain valid = absurd (omega arith)
shown_as_is (b ∷ k) some other plain valid =
    let path : (length (split_once_front 63 (b ∷ k)) == 0) ≡ false = rw (ne_eqb b 63 other, one-add) (ne_eqb _ 0 (omega arith)) in
    record {
      text = b ∷ k;
      first = refl;
      is = rw path (rejoined (b ∷ k));
      whole = take_all _ (b ∷ k) (omega arith);
      valid = λ _. valid;
      path = refl;
      query = refl;
    }

-- one with no path gets a `/` in front
shown_with_slash : (k : List ℕ) → index_of 63 k ≡ 0 → index_of 35 k ≡ length k → IsPathAndQuery k → Shown k 47
shown_with_slash k mark plain valid =
    let query : split_once_back 63 (47 ∷ k) ≡ split_once_back 63 k =
    elim (cases_lt 0 (length k)) [
      | inl some ↦ rw (mark, lt-ltb 0 (length k) some, lt-ltb 1 (length (47 ∷ k)) (omega arith))
      | inr none ↦ rw (mark, le-ltb 0 (length k) none, le-ltb 1 (length (47 ∷ k)) (omega arith))
    ] in
    let front : split_once_front 63 (47 ∷ k) ≡ 47 ∷ [] = rw mark in
    let rest : framed_text (63 ∷ []) (split_once_back 63 k) [] ≡ k =
    ap (λ n. take n k ++ framed_text (63 ∷ []) (split_once_back 63 k) []) (sym mark) ∙ rejoined k in
    record {
      text = 47 ∷ k;
      first = refl;
      is = ap (λ n. or_slash (take n k) ++ framed_text (63 ∷ []) (split_once_back 63 k) []) mark ∙ ap (λ t. 47 ∷ t) rest;
      whole = take_all _ (47 ∷ k) (omega arith);
      valid = λ short. record {
        start = inr (inr (inl refl));
        path = rw front IsPathAndQuery_slash.path;
        query = subst (λ o. IfSome o (AllPass is_query_byte)) (sym query) valid.query;
        utf8 = IsUtf8-append (47 ∷ []) k IsPathAndQuery_slash.utf8 valid.utf8;
        short = short;
      };
      path = rw mark;
      query = query;
    }

some_byte : (k : List ℕ) → 0 < get_or k 0 0 → 0 < length k
some_byte [] h = absurd (omega arith)
some_byte (b ∷ k) h = omega arith

-- a text that begins with `/`, `?` or `#` does not keep a lone `*`
not_star : (tail : List ℕ) → IsTrue (is_delimiter (get_or tail 0 0)) → without_fragment tail ≢ 42 ∷ []
not_star tail mark star =
    let e = index_of 35 tail in
    let len : e ≡ 1 = sym (length-take-le e tail (index_of_le 35 tail)) ∙ ap length star in
    let first : get_or tail 0 0 ≡ 42 = sym (get_or-take e tail 0 0 (omega arith)) ∙ ap (λ t. get_or t 0 0) star in
    let never = rw first at mark in
    cc

-- the tail of an absolute URI is shown with a `/` in front
shown_tail : (tail k : List ℕ) → IsTail tail k → Shown k 47
shown_tail tail k (inl h) =
    subst (λ t. Shown t 47) (sym h.1) (shown_as_is (47 ∷ []) (omega arith) (omega arith) refl IsPathAndQuery_slash)
shown_tail tail k (inr h) =
    let kept = without_fragment tail in
    let valid = h.1.kept in
    let plain = no_fragment tail in
    let shown : Shown kept 47 = elim valid.start [
      | inl none ↦ shown_with_slash kept (ap (index_of 63) none) plain valid
      | inr (inl star) ↦ absurd (not_star tail h.0 star)
      | inr (inr (inl slash)) ↦ subst (Shown kept) slash (shown_as_is kept (some_byte kept (omega arith)) (omega arith) plain valid)
      | inr (inr (inr mark)) ↦
          shown_with_slash kept (index_of_is 63 kept 0 (omega arith) (λ j lt. absurd (omega arith)) λ _. mark) plain valid
    ] in
    subst (λ t. Shown t 47) (sym h.2) shown

IsScheme-normal : (name : List ℕ) → IsScheme name → IsScheme (normal_scheme name) × (normal_scheme (normal_scheme name) ≡ normal_scheme name)
IsScheme-normal name h =
    elim (cases_Bool (bytes_eq (lowercase name) (104 ∷ 116 ∷ 116 ∷ 112 ∷ []))) [
      | inl http ↦ rw http ((search rules, omega arith), refl)
      | inr other ↦ elim (cases_Bool (bytes_eq (lowercase name) (104 ∷ 116 ∷ 116 ∷ 112 ∷ 115 ∷ []))) [
        | inl https ↦ rw (other, https) ((search rules, omega arith), refl)
        | inr neither ↦ rw (other, neither) (h, rw (other, neither))
      ]
    ]

IsPathInput-shown : (k : List ℕ) (lead : ℕ) (s : Shown k lead) → StartsPath s.text → length s.text ≤ 65534 → IsPathInput s.text
IsPathInput-shown k lead s start short = record { start = start; short = short; kept = subst IsPathAndQuery (sym s.whole) (s.valid short) }

slash_starts : (text : List ℕ) → get_or text 0 0 ≡ 47 → IsTrue (is_delimiter (get_or text 0 0))
slash_starts text h = rw h

-- The parts of a text that has a key

record Named (a path : List ℕ) (query : Option (List ℕ)) (key : List ℕ) : Type 0 where
  no_at : list_any (λ b. b == 64) a ≡ false
  some : 0 < length (host_of a)
  port : ℕ
  port_is : port_of (after_host a) ≡ Some port
  key_is : key ≡ canonical_text (host_of a) port path query

named_by : (host : List ℕ) (port : Option ℕ) (path : List ℕ) (query : Option (List ℕ)) (key : List ℕ) → Ok key ≡ key_of_host host port path query
    → (n : ℕ) × (0 < length host) × (port ≡ Some n) × (key ≡ canonical_text host n path query)
named_by [] port path query key e = cc
named_by (b ∷ host) None path query key e = cc
named_by (b ∷ host) (Some n) path query key e = (n, omega arith, refl, within_key (canonical_text (b ∷ host) n path query) key e)

named : (a path : List ℕ) (query : Option (List ℕ)) (key : List ℕ) → Ok key ≡ key_of_authority a path query → Named a path query key
named a path query key e = elim (cases_Bool (list_any (λ b. b == 64) a)) [
  | inl at ↦ let bad : Ok key ≡ Err UserInfo = e ∙ rw at refl in cc
  | inr none ↦
      let found = named_by (host_of a) (port_of (after_host a)) path query key (e ∙ rw none refl) in
      record { no_at = none; some = found.1; port = found.0; port_is = found.2; key_is = found.3 }
]

absolute : (text : List ℕ) (s a : Option (List ℕ)) (kept : List ℕ) → s ≡ Some (codes "http") → IsForm text s a kept → (authority : List ℕ)
    × (a ≡ Some authority) × IsAbsoluteForm text (codes "http") authority kept
absolute text None a kept e form = cc
absolute text (Some s) None kept e form = absurd form
absolute text (Some s) (Some authority) kept e form =
    let same : s ≡ codes "http" = cc in
    (authority, refl, subst (λ s. IsAbsoluteForm text s authority kept) same form)

-- The key spells a URI

http_is_scheme : IsScheme (codes "http")
http_is_scheme = (search rules, omega arith)

-- the key is scheme, authority in lower case and path, and read again these are the parts of a URI
spelled_again : (text key : List ℕ) (u : Uri) → uri_scheme u ≡ Some (codes "http") → (authority : List ℕ)
    → IsAbsoluteForm text (codes "http") authority (uri_data u) → Named authority (uri_path u) (uri_query u) key → length key ≤ 1024
    → (v : Uri) × Spells key v
spelled_again text key u scheme_is authority form n short =
    let w : List ℕ = lowercase (host_of authority) ++ port_text n.port in
    let valid : IsAuthority w = written_valid authority n.port form.is_authority n.some n.port_is (none_at 64 authority n.no_at) in
    let query : List ℕ = framed_text (63 ∷ []) (uri_query u) [] in
    let shown : Shown (uri_data u) 47 = shown_tail form.tail (uri_data u) form.is_tail in
    let path_is : uri_path u ≡ path_of (uri_data u) =
    ap (λ s. cond (not (length (uri_data u) == 0) || is_some s) (path_of (uri_data u)) []) scheme_is
    ∙ shows_path (length (uri_data u) == 0) (path_of (uri_data u)) in
    let parts : key ≡ (http_prefix ++ w) ++ shown.text =
    n.key_is ∙ append_assoc (http_prefix ++ lowercase (host_of authority) ++ port_text n.port) (uri_path u) query
    ∙ ap (λ front. front ++ (uri_path u ++ query)) (append_assoc http_prefix (lowercase (host_of authority)) (port_text n.port))
    ∙ ap (λ (p : List ℕ). (http_prefix ++ w) ++ (p ++ query)) path_is
    ∙ ap (λ (t : List ℕ). (http_prefix ++ w) ++ t) shown.is in
    let fits : length shown.text ≤ 65534 = omega (arith, ap length parts, length-append (http_prefix ++ w) shown.text, short) in
    let mark = slash_starts shown.text shown.first in
    let v : Uri = record u {
      authority = Some w;
      path_and_query = shown.text;
      absolute = λ x e. refl;
      authority_alone = λ none. let bad : Some (codes "http") ≡ None = sym scheme_is ∙ none in cc;
    } in
    let is_form : IsAbsoluteForm key (codes "http") w shown.text = record {
      name = codes "http";
      tail = shown.text;
      spelled = parts;
      is_scheme = http_is_scheme;
      normal = refl;
      is_authority = valid;
      is_tail = inr (mark, IsPathInput-shown (uri_data u) 47 shown (inr mark) fits, sym shown.whole);
    } in
    (v, (omega arith, subst (λ s. IsForm key s (Some w) shown.text) (sym scheme_is) is_form))

spells_by : (text key : List ℕ) (fault : Option KeyFault) → HasKeyBy fault text (Ok key) → length key ≤ 1024 → (v : Uri) × Spells key v
spells_by text key (Some fault) e short = cc
spells_by text key None (inl none) short = cc
spells_by text key None (inr (u, spells, e)) short = elim (cases_Bool (is_http (uri_scheme u))) [
  | inr other ↦ let bad : Ok key ≡ Err NotHttp = e ∙ rw other refl in cc
  | inl http ↦
      let scheme_is = http_scheme (uri_scheme u) http in
      let parts = absolute text (uri_scheme u) (uri_authority u) (uri_data u) scheme_is spells.1 in
      let good : Ok key ≡ key_of_authority (unwrap_or (uri_authority u) []) (uri_path u) (uri_query u) = e ∙ rw http refl in
      let n = named parts.0 (uri_path u) (uri_query u) key (good ∙ ap (λ a. key_of_authority (unwrap_or a []) (uri_path u) (uri_query u)) parts.1) in
      spelled_again text key u scheme_is parts.0 parts.2 n short
]

-- the outcome that a key's text has is the key
own_by : (key : List ℕ) (fault : Option KeyFault) → ((outcome : Result (List ℕ) KeyFault) → HasKeyBy fault key outcome → outcome ≡ Ok key) → (v : Uri) →
    Spells key v → HasKeyBy fault key (Ok key)
own_by key (Some fault) own v spells = sym (own (Err fault) refl)
own_by key None own v spells = inr (v, spells, sym (own (key_of_uri v) (inr (v, spells, refl))))

pub key_reads : (text key : List ℕ) → HasKey text (Ok key) → HasKey key (Ok key)
key_reads text key has =
    let is : IsKey key = (made text key has).is_key in
    let found = spells_by text key (early_fault text) has is.short in
    own_by key (early_fault key) is.own found.0 found.1
