-- What is read is a key, and a key reads as itself: its text spells a URI with the same host in
-- lower case, the same port, path and query, so its canonical text is the same again.
use Rattle.std.proofs.Common.{◌≡◌, ◌≢◌, ℕ, ◌<◌, ◌≤◌, ◌==◌, true, false, not, ◌||◌, cond, take, drop, is_some, Option, Some, None, List, [], ◌∷◌, ◌++◌, length}
use Rattle.std.proofs.Common.{get_or, Result, Ok, Err, MatchResult, refl, sym, ap, ap₂, ◌∙◌, subst, inl, inr, arith, append-nil, append_assoc, length-append}
use Rattle.std.proofs.Common.{nat_lt, unwrap_or, codes}
use Rattle.std.specs.List.{list_all, list_any}
use Rattle.std.proofs.lemmas.Bool.{and_parts, cases_Bool, ltb-false, le-ltb}
use Rattle.std.proofs.lemmas.Slice.Eq.{bytes_eq-Decides}
use Rattle.std.proofs.lemmas.List.{length-map, take_at, drop_at, get_or_append_left}
use Rattle.std.specs.Char.{to_ascii_lowercase}
use Rattle.http_uri.specs.ByteClasses.{lowercase, framed_text, is_delimiter}
use Rattle.http_uri.specs.Grammar.{IsAuthority, IsAbsoluteForm, IsForm, authority_len, path_of}
use Rattle.http_uri.proofs.RunLemmas.{run-append}
use Rattle.http_uri.proofs.AuthorityLemmas.{IsAuthority_no_delimiter}
use Rattle.url_key.proofs.PathLemmas.{shows_path, path_first}
use Rattle.http_uri.specs.Uri.{Spells, SpellsNone, uri_scheme, uri_authority, uri_data, uri_path, uri_query, uri_text}
use Rattle.http_uri.specs.declared.uri.Uri.{Uri}
use Rattle.http_uri.proofs.Theorems.{uri_text_parses, uri_text_round_trip}
use Rattle.url_key.specs.declared.fault.KeyFault.{KeyFault}
use Rattle.url_key.specs.declared.fault.KeyFault.TheVariants.{TooLong, NotVisibleAscii, Fragment, UserInfo, NotHttp, NoMemory}
use Rattle.url_key.specs.Fault.{UnlessNoMemory}
use Rattle.url_key.specs.Text.{http_prefix, is_visible, host_of, after_host, port_of, port_text, canonical_text, key_authority}
use Rattle.url_key.specs.Key.{HasKey, HasKeyBy, HasUriKey, IsKey, KeepsParts, KeepsPartsOf, early_fault, key_of_uri, key_of_authority, key_of_host, key_within}
use Rattle.url_key.specs.Key.{is_http}
use Rattle.url_key.proofs.HostLemmas.{written_host, written_port, written_valid, written_no_at, lowercase-lowercase}
use Rattle.url_key.proofs.PlainLemmas.{is_plain, none_at, list_any-none, list_any-from_reads, list_all-weaker, plain_from_parts, plain_authority, plain_shown}
use Rattle.url_key.proofs.PlainLemmas.{plain_tail, all_right, all_both}

-- the outcome of a URI is that of the text that spells it
pub spelled_outcome : {V : Type 0} (items : V → List ℕ) (text : List ℕ) (u : Uri) (r : Result V KeyFault) → Spells text u →
    MatchResult r (λ key. Ok (items key) ≡ key_of_uri u) (λ fault. UnlessNoMemory fault (Err fault ≡ key_of_uri u)) →
    MatchResult r (λ key. HasUriKey text (Ok (items key))) (λ fault. UnlessNoMemory fault (HasUriKey text (Err fault)))
spelled_outcome items text u (Ok key) spells is = inr (u, spells, is)
spelled_outcome items text u (Err fault) spells is = λ memory. inr (u, spells, is memory)

-- the parts of an authority that has a key, and the key
record Named (a path : List ℕ) (query : Option (List ℕ)) (key : List ℕ) : Type 0 where
  no_at : list_any (λ b. b == 64) a ≡ false
  some : 0 < length (host_of a)
  port : ℕ
  port_is : port_of (after_host a) ≡ Some port
  short : length key ≤ 1024
  key_is : key ≡ canonical_text (host_of a) port path query

within_key : (made key : List ℕ) → Ok key ≡ key_within made → (key ≡ made) × (length made ≤ 1024)
within_key made key e = elim (cases_Bool (nat_lt 1024 (length made))) [
  | inl long ↦ let bad : Ok key ≡ Err TooLong = e ∙ rw long refl in cc
  | inr short ↦ let good : Ok key ≡ Ok made = e ∙ rw short refl in (cc, ltb-false 1024 (length made) short)
]

named_by : (host : List ℕ) (port : Option ℕ) (path : List ℕ) (query : Option (List ℕ)) (key : List ℕ) → Ok key ≡ key_of_host host port path query
    → (n : ℕ) × (0 < length host) × (port ≡ Some n) × (key ≡ canonical_text host n path query) × (length key ≤ 1024)
named_by [] port path query key e = cc
named_by (b ∷ host) None path query key e = cc
named_by (b ∷ host) (Some n) path query key e =
    let found = within_key (canonical_text (b ∷ host) n path query) key e in
    (n, omega arith, refl, found.0, omega (arith, ap length found.0, found.1))

named : (a path : List ℕ) (query : Option (List ℕ)) (key : List ℕ) → Ok key ≡ key_of_authority a path query → Named a path query key
named a path query key e = elim (cases_Bool (list_any (λ b. b == 64) a)) [
  | inl at ↦ let bad : Ok key ≡ Err UserInfo = e ∙ rw at refl in cc
  | inr none ↦
      let good : Ok key ≡ key_of_host (host_of a) (port_of (after_host a)) path query = e ∙ rw none refl in
      let found = named_by (host_of a) (port_of (after_host a)) path query key good in
      record { no_at = none; some = found.1; port = found.0; port_is = found.2; short = found.4; key_is = found.3 }
]

-- a scheme that is http
http_scheme : (scheme : Option (List ℕ)) → is_http scheme ≡ true → scheme ≡ Some (codes "http")
http_scheme None e = cc
http_scheme (Some s) e = ap Some ((bytes_eq-Decides s (codes "http")).0 e)

-- the early tests, passed
record Early (text : List ℕ) : Type 0 where
  short : length text ≤ 1024
  plain : list_all is_plain text ≡ true

early_passed : (text : List ℕ) → early_fault text ≡ None → Early text
early_passed text e = elim (cases_Bool (nat_lt 1024 (length text))) [
  | inl long ↦ let bad : Some TooLong ≡ None = sym (rw long refl) ∙ e in cc
  | inr short ↦ elim (cases_Bool (list_all is_visible text)) [
    | inr hidden ↦ let bad : Some NotVisibleAscii ≡ None = sym (rw (short, hidden) refl) ∙ e in cc
    | inl visible ↦ elim (cases_Bool (list_any (λ b. b == 35) text)) [
      | inl hash ↦ let bad : Some Fragment ≡ None = sym (rw (short, visible, hash) refl) ∙ e in cc
      | inr none ↦ record { short = ltb-false 1024 (length text) short; plain = plain_from_parts text visible none }
    ]
  ]
]

plain_visible : (b : ℕ) → is_plain b ≡ true → is_visible b ≡ true
plain_visible b h = (and_parts _ _ h).0

plain_no_hash : (b : ℕ) → is_plain b ≡ true → not (b == 35) ≡ true
plain_no_hash b h = (and_parts _ _ h).1

pub early_from : (text : List ℕ) → length text ≤ 1024 → list_all is_plain text ≡ true → early_fault text ≡ None
early_from text short plain =
    rw (
      le-ltb 1024 (length text) short,
      list_all-weaker is_plain is_visible plain_visible text plain,
      list_any-none (λ b. b == 35) text (list_all-weaker is_plain (λ b. not (b == 35)) plain_no_hash text plain),
    ) refl

-- want of memory is no early fault
pub early_is_no_memory : (text : List ℕ) (fault : KeyFault) → Some fault ≡ early_fault text → fault ≢ NoMemory
early_is_no_memory text fault e memory = elim (cases_Bool (nat_lt 1024 (length text))) [
  | inl long ↦ let bad : Some fault ≡ Some TooLong = e ∙ rw long refl in cc
  | inr short ↦ elim (cases_Bool (list_all is_visible text)) [
    | inr hidden ↦ let bad : Some fault ≡ Some NotVisibleAscii = e ∙ rw (short, hidden) refl in cc
    | inl visible ↦ elim (cases_Bool (list_any (λ b. b == 35) text)) [
      | inl hash ↦ let bad : Some fault ≡ Some Fragment = e ∙ rw (short, visible, hash) refl in cc
      | inr none ↦ let bad : Some fault ≡ None = e ∙ rw (short, visible, none) refl in cc
    ]
  ]
]

-- an http URI is in the absolute form
absolute : (text : List ℕ) (s a : Option (List ℕ)) (kept : List ℕ) → s ≡ Some (codes "http") → IsForm text s a kept → (authority : List ℕ)
    × (a ≡ Some authority) × IsAbsoluteForm text (codes "http") authority kept
absolute text None a kept e form = cc
absolute text (Some s) None kept e form = absurd form
absolute text (Some s) (Some authority) kept e form =
    let same : s ≡ codes "http" = cc in
    (authority, refl, subst (λ s. IsAbsoluteForm text s authority kept) same form)

pub key_of_host-some : (host : List ℕ) (port : ℕ) (path : List ℕ) (query : Option (List ℕ)) → 0 < length host →
    key_of_host host (Some port) path query ≡ key_within (canonical_text host port path query)
key_of_host-some [] port path query some = absurd (omega arith)
key_of_host-some (b ∷ host) port path query some = refl

-- the outcome by the parts of a URI
abbrev outcome_by : Option (List ℕ) → Option (List ℕ) → List ℕ → Option (List ℕ) → Result (List ℕ) KeyFault
outcome_by s a path query = cond (is_http s) (key_of_authority (unwrap_or a []) path query) (Err NotHttp)

-- A URI that was read from a text, with its authority, and the key that was made of it.
module _ (text key : List ℕ) (u : Uri) (early : Early text) (spells : Spells text u) (scheme_is : uri_scheme u ≡ Some (codes "http"))
    (authority : List ℕ) (form : IsAbsoluteForm text (codes "http") authority (uri_data u)) (n : Named authority (uri_path u) (uri_query u) key) where
  abbrev no_at_all : (k : ℕ) → k < length authority → get_or authority k 0 ≢ 64
  no_at_all = none_at 64 authority n.no_at

  abbrev w : List ℕ
  w = lowercase (host_of authority) ++ port_text n.port

  w_valid : IsAuthority w
  w_valid = written_valid authority n.port form.is_authority n.some n.port_is no_at_all

  -- the text that was read, with the authority that the key writes
  abbrev new_text : List ℕ
  new_text = form.name ++ codes "://" ++ w ++ form.tail

  abbrev new_uri : Uri
  new_uri = record u {
    authority = Some w;
    absolute = λ x e. refl;
    authority_alone = λ none. let bad : Some (codes "http") ≡ None = sym scheme_is ∙ none in cc;
  }

  abbrev shown_query : List ℕ
  shown_query = framed_text (63 ∷ []) (uri_query u) []

  key_parts : key ≡ (http_prefix ++ w) ++ (uri_path u ++ shown_query)
  key_parts =
      n.key_is ∙ append_assoc (http_prefix ++ lowercase (host_of authority) ++ port_text n.port) (uri_path u) shown_query
      ∙ ap (λ front. front ++ (uri_path u ++ shown_query)) (append_assoc http_prefix (lowercase (host_of authority)) (port_text n.port))

  text_is : uri_text new_uri ≡ key
  text_is =
      ap (λ s. framed_text [] s (codes "://") ++ (w ++ []) ++ uri_path u ++ shown_query) scheme_is
      ∙ ap (λ b. http_prefix ++ b ++ uri_path u ++ shown_query) (append-nil w)
      ∙ append_assoc (http_prefix ++ w) (uri_path u) shown_query ∙ sym key_parts

  lengths : (length w ≤ 1024) × (7 ≤ length key)
  lengths =
      let whole = ap length key_parts ∙ length-append (http_prefix ++ w) (uri_path u ++ shown_query) in
      let front = length-append http_prefix w in
      let short = n.short in
      (omega arith, omega arith)

  -- The text is cut where the old one was, with a lower-case authority, and it is short enough.
  new_spells : Spells new_text new_uri
  new_spells =
      let w_short = lengths.0 in
      let old = ap length form.spelled in
      let short = early.short in (
        omega (
          arith,
          simp length-append at old,
          length-append (form.name ++ codes "://" ++ w) form.tail,
          length-append (form.name ++ codes "://") w,
          length-append form.name (codes "://"),
        ),
        subst (λ s. IsForm new_text s (Some w) (uri_data u)) (sym scheme_is) (record {
          name = form.name;
          tail = form.tail;
          spelled = refl;
          is_scheme = form.is_scheme;
          normal = form.normal;
          is_authority = w_valid;
          is_tail = form.is_tail;
        }),
      )

  key_plain : list_all is_plain key ≡ true
  key_plain =
      let tail = all_right is_plain (form.name ++ codes "://" ++ authority) form.tail (ap (list_all is_plain) (sym form.spelled) ∙ early.plain) in
      let kept = plain_tail form.tail (uri_data u) form.is_tail tail in
      ap (list_all is_plain) key_parts
      ∙ all_both is_plain (http_prefix ++ w) (uri_path u ++ shown_query) (all_both is_plain http_prefix w refl (plain_authority w w_valid))
      (plain_shown (uri_data u) _ kept)

  written_key : key_of_authority w (uri_path u) (uri_query u) ≡ Ok key
  written_key =
      let none = list_any-from_reads 64 w (written_no_at authority n.port form.is_authority n.some n.port_is no_at_all) in
      let host = written_host authority n.port form.is_authority n.some n.port_is no_at_all in
      let port = written_port authority n.port form.is_authority n.some n.port_is no_at_all in
      let some : 0 < length (lowercase (host_of authority)) = omega (arith, length-map (host_of authority) to_ascii_lowercase, n.some) in
      let short = n.short in
      let found : key_of_authority w (uri_path u) (uri_query u) ≡ key_of_host (host_of w) (port_of (after_host w)) (uri_path u) (uri_query u) = rw none refl in
      let fits : key_within key ≡ Ok key = rw (le-ltb 1024 (length key) short) refl in
      found ∙ ap₂ (λ h p. key_of_host h p (uri_path u) (uri_query u)) host port
      ∙ key_of_host-some (lowercase (host_of authority)) n.port (uri_path u) (uri_query u) some
      ∙ ap (λ l. key_within (http_prefix ++ l ++ port_text n.port ++ uri_path u ++ shown_query)) (lowercase-lowercase (host_of authority))
      ∙ ap key_within (sym n.key_is) ∙ fits

  own_outcome : (outcome : Result (List ℕ) KeyFault) → HasUriKey key outcome → outcome ≡ Ok key
  own_outcome outcome (inl none) =
      absurd (uri_text_parses new_text new_uri new_spells (omega (arith, ap length text_is, n.short)) (subst SpellsNone (sym text_is) none.0))
  own_outcome outcome (inr (v, again, is)) =
      let round = uri_text_round_trip new_text new_uri v new_spells (subst (λ t. Spells t v) (sym text_is) again) in
      is ∙ ap (λ s. outcome_by s (uri_authority v) (uri_path v) (uri_query v)) (round.0 ∙ scheme_is)
      ∙ ap (λ a. outcome_by (Some (codes "http")) a (uri_path v) (uri_query v)) round.1
      ∙ ap₂ (λ p q. outcome_by (Some (codes "http")) (Some w) p q) round.2 round.3
      ∙ written_key

  made_key : IsKey key
  made_key = record {
    prefix = lengths.1;
    short = n.short;
    own = λ outcome has. own_outcome outcome (subst (λ fault. HasKeyBy fault key outcome) (early_from key n.short key_plain) has);
  }

  -- the path that is shown begins with a slash
  shown_path : uri_path u ≡ path_of (uri_data u)
  shown_path = ap (λ s. cond (not (length (uri_data u) == 0) || is_some s) (path_of (uri_data u)) []) scheme_is
      ∙ shows_path (length (uri_data u) == 0) (path_of (uri_data u))

  shown_first : get_or (uri_path u ++ shown_query) 0 0 ≡ 47
  shown_first =
      let first = path_first form.tail (uri_data u) form.is_tail in
      ap (λ p. get_or (p ++ shown_query) 0 0) shown_path ∙ get_or_append_left (path_of (uri_data u)) shown_query 0 0 first.0 ∙ first.1

  -- behind `http://` the key has the authority that it writes, and then the path and the query
  behind_prefix : drop (length http_prefix) key ≡ w ++ (uri_path u ++ shown_query)
  behind_prefix =
      ap (drop (length http_prefix)) (key_parts ∙ sym (append_assoc http_prefix w (uri_path u ++ shown_query))) ∙ drop_at http_prefix _ _ refl

  authority_end : authority_len (w ++ (uri_path u ++ shown_query)) ≡ length w
  authority_end =
      run-append (λ b. not (is_delimiter b)) w (uri_path u ++ shown_query) (IsAuthority_no_delimiter w w_valid) (λ _. rw shown_first refl)

  kept_authority : key_authority key ≡ w
  kept_authority =
      ap (λ rest. take (authority_len rest) rest) behind_prefix ∙ take_at w (uri_path u ++ shown_query) _ (sym authority_end)

  kept_parts : uri_authority u ≡ Some authority → KeepsPartsOf u key
  kept_parts authority_is =
      let same : authority ≡ unwrap_or (uri_authority u) [] = sym (ap (λ a. unwrap_or a []) authority_is) in
      let host = written_host authority n.port form.is_authority n.some n.port_is no_at_all in
      let port = written_port authority n.port form.is_authority n.some n.port_is no_at_all in
      record {
        host = ap host_of kept_authority ∙ host ∙ ap (λ a. lowercase (host_of a)) same;
        port = ap (λ a. Some (unwrap_or (port_of (after_host a)) 80)) kept_authority ∙ ap (λ p. Some (unwrap_or p 80)) port ∙ sym n.port_is
            ∙ ap (λ a. port_of (after_host a)) same;
        path = ap (λ rest. drop (authority_len rest) rest) behind_prefix ∙ drop_at w (uri_path u ++ shown_query) _ (sym authority_end);
      }

-- a key that was made of a text: it is a key, and it keeps the text's parts
pub record IsMade (text key : List ℕ) : Type 0 where
  pub is_key : IsKey key
  pub parts : KeepsParts text key

made_spelled : (text key : List ℕ) (u : Uri) → Early text → Spells text u → Ok key ≡ key_of_uri u → IsMade text key
made_spelled text key u early spells e = elim (cases_Bool (is_http (uri_scheme u))) [
  | inr other ↦ let bad : Ok key ≡ Err NotHttp = e ∙ rw other refl in cc
  | inl http ↦
      let scheme_is = http_scheme (uri_scheme u) http in
      let parts = absolute text (uri_scheme u) (uri_authority u) (uri_data u) scheme_is spells.1 in
      let good : Ok key ≡ key_of_authority (unwrap_or (uri_authority u) []) (uri_path u) (uri_query u) = e ∙ rw http refl in
      let n = named parts.0 (uri_path u) (uri_query u) key (good ∙ ap (λ a. key_of_authority (unwrap_or a []) (uri_path u) (uri_query u)) parts.1) in
      record {
        is_key = made_key text key u early spells scheme_is parts.0 parts.2 n;
        parts = (u, spells, kept_parts text key u early spells scheme_is parts.0 parts.2 n parts.1);
      }
]

made_by : (text key : List ℕ) (fault : Option KeyFault) → early_fault text ≡ fault → HasKeyBy fault text (Ok key) → IsMade text key
made_by text key (Some fault) passed e = cc
made_by text key None passed (inl none) = cc
made_by text key None passed (inr (u, spells, e)) = made_spelled text key u (early_passed text passed) spells e

-- what is read of a text is made of it
pub made : (text key : List ℕ) → HasKey text (Ok key) → IsMade text key
made text key h = made_by text key (early_fault text) refl h
