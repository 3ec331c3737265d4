-- A plain key is a key: cut behind `http://` and behind its host it spells a URI, and the canonical
-- text of that URI is the text itself.
use Rattle.std.proofs.Common.{◌≡◌, ◌≢◌, ℕ, ◌+◌, ◌-◌, ◌<◌, ◌≤◌, ◌==◌, true, false, cond, Some, None, List, [], ◌∷◌, ◌++◌, fold, length, take, drop, get_or, Ok}
use Rattle.std.proofs.Common.{codes, refl, sym, ap, ap₂, ◌∙◌, subst, inl, inr, arith, append-nil, append_assoc, length-append, take-append-drop, take_all}
use Rattle.std.proofs.Common.{lt-ltb, ne_eqb, IfSome, length-take-le}
use Rattle.std.specs.List.{list_all, list_any, prefix_len}
use Rattle.std.specs.Char.{to_ascii_lowercase}
use Rattle.std.proofs.lemmas.Bool.{cases_lt, and_parts, eqb-true, ltb-true, le-ltb, leb-true}
use Rattle.std.proofs.lemmas.Bool.Decides.{nat_tests}
use Rattle.std.proofs.lemmas.Option.{none-some}
use Rattle.std.proofs.lemmas.Slice.Eq.{bytes_eq-Decides}
use Rattle.std.proofs.lemmas.List.{drop_all, drop_more}
use Rattle.std.proofs.lemmas.List.Sums.{AllPass-from_list_all, list_all-from_AllPass, prefix_len-le-length}
use Rattle.std.proofs.lemmas.Str.{IsUtf8-from_ascii}
use Rattle.http_uri.specs.ByteClasses.{lowercase, framed_text, count_of, index_of, is_authority_byte, is_query_byte, is_delimiter, is_scheme_byte}
use Rattle.http_uri.specs.ByteClasses as uri_bytes
use Rattle.http_uri.specs.Grammar.{AllPass, IsAuthority, IsPathAndQuery, IsPathInput, last_piece, path_of, query_of, without_fragment}
use Rattle.http_uri.specs.Uri.{Spells, uri_path, uri_query}
use Rattle.http_uri.specs.declared.uri.Uri.{Uri}
use Rattle.http_uri.proofs.RunLemmas.{AllPass-take, IsAscii-pass, index_of_is, index_of_found, index_of_before, index_of_le, index_of_at_least, run_passes}
use Rattle.url_key.specs.Text.{http_prefix, host_of, after_host, port_of, canonical_text}
use Rattle.url_key.specs.Key.{HasKey, HasKeyBy, early_fault, key_of_uri, key_of_host, key_within}
use Rattle.url_key.specs.Plain.{is_host_byte, is_path_byte, plain_key}
use Rattle.url_key.proofs.AuthorityLemmas.{piece_step}
use Rattle.url_key.proofs.PlainLemmas.{is_plain, list_any-from_reads, list_all-weaker, list_all-at, all_back, all_both}
use Rattle.url_key.proofs.KeyLemmas.{early_from, key_of_host-some}
use Rattle.url_key.proofs.PathLemmas.{shows_path}

-- The octets of a host

host_low : (b : ℕ) → is_host_byte b ≡ true → (44 < b) × (b ≢ 58) × (b ≢ 64) × (b ≢ 91) × (b ≢ 93)
host_low b h = grind (arith, nat_tests)

host_in_authority : (b : ℕ) → is_host_byte b ≡ true → is_authority_byte b ≡ true
host_in_authority b h = grind (arith, nat_tests)

host_plain : (b : ℕ) → is_host_byte b ≡ true → is_plain b ≡ true
host_plain b h = grind (arith, nat_tests)

host_lower : (b : ℕ) → is_host_byte b ≡ true → to_ascii_lowercase b ≡ b
host_lower b h = grind (arith, nat_tests)

lowercase_host : (host : List ℕ) → list_all is_host_byte host ≡ true → lowercase host ≡ host
lowercase_host [] all = refl
lowercase_host (b ∷ host) all =
    let parts = and_parts _ _ all in
    ap₂ (λ c cs. c ∷ cs) (host_lower b parts.0) (lowercase_host host parts.1)

-- a mark that no host has
abbrev NoHostByte : ℕ → Type 0
NoHostByte c = (b : ℕ) → is_host_byte b ≡ true → b ≢ c

count_in_host : (c : ℕ) (host : List ℕ) → NoHostByte c → list_all is_host_byte host ≡ true → fold (λ n b. n + cond (b == c) 1 0) 0 host ≡ 0
count_in_host c [] other all = refl
count_in_host c (b ∷ host) other all =
    let parts = and_parts _ _ all in
    rw (ne_eqb b c (other b parts.0)) (count_in_host c host other parts.1)

piece_of_host : (host piece : List ℕ) → list_all is_host_byte host ≡ true → fold piece_step piece host ≡ piece ++ host
piece_of_host [] piece all = sym (append-nil piece)
piece_of_host (b ∷ host) piece all =
    let parts = and_parts _ _ all in
    let low = host_low b parts.0 in
    rw (ne_eqb b 64 low.2, ne_eqb b 93 low.4) (piece_of_host host (piece ++ b ∷ []) parts.1 ∙ append_assoc piece (b ∷ []) host)

-- A host of a plain key, as an authority

module _ (host : List ℕ) (some : 0 < length host) (all : list_all is_host_byte host ≡ true) where
  host_at : (k : ℕ) → k < length host → is_host_byte (get_or host k 0) ≡ true
  host_at k within = list_all-at is_host_byte host k within all

  no_colon : NoHostByte 58
  no_colon b h = (host_low b h).1

  no_at : NoHostByte 64
  no_at b h = (host_low b h).2

  no_opening : NoHostByte 91
  no_opening b h = (host_low b h).3

  no_closing : NoHostByte 93
  no_closing b h = (host_low b h).4

  no_percent : NoHostByte 37
  no_percent b h = let low = host_low b h in omega arith

  pub host_authority : IsAuthority host
  host_authority =
      let piece : last_piece host ≡ host = piece_of_host host [] all in
      record {
        nonempty = some;
        bytes = λ i within.
            let passed = host_at i within in
            record {
              byte = host_in_authority (get_or host i 0) passed;
              colons = λ e. absurd (no_colon _ passed e);
              opening = λ e. absurd (no_opening _ passed e);
              closing = λ e. absurd (no_closing _ passed e);
            };
        closed = count_in_host 91 host no_opening all ∙ sym (count_in_host 93 host no_closing all);
        one_colon = omega (arith, ap (count_of 58) piece, count_in_host 58 host no_colon all);
        no_percent = ap (count_of 37) piece ∙ count_in_host 37 host no_percent all;
        has_host = no_at _ (host_at (length host - 1) (omega arith));
      }

  pub host_is : host_of host ≡ host
  host_is =
      let end = index_of_is 58 host (length host) (omega arith) (λ k within. no_colon _ (host_at k within)) (λ lt. absurd (omega arith)) in
      rw (ne_eqb _ 91 (no_opening _ (host_at 0 some))) (take_all _ host (omega arith))

  pub port_is : port_of (after_host host) ≡ Some 80
  port_is = ap port_of (ap (λ h. drop (length h) host) host_is ∙ drop_all (length host) host (omega arith))

  pub host_without_at : list_any (λ b. b == 64) host ≡ false
  host_without_at = list_any-from_reads 64 host λ k within. no_at _ (host_at k within)

-- The octets of a path and a query

in_path_plain : (b : ℕ) → is_path_byte b ≡ true → is_plain b ≡ true
in_path_plain b h = grind (arith, nat_tests)

in_path_low : (b : ℕ) → is_path_byte b ≡ true → b < 128
in_path_low b h = grind (arith, nat_tests)

in_path_no_hash : (b : ℕ) → is_path_byte b ≡ true → b ≢ 35
in_path_no_hash b h = grind (arith, nat_tests)

in_path_of_uri : (b : ℕ) → is_path_byte b ≡ true → b ≢ 63 → uri_bytes.is_path_byte b ≡ true
in_path_of_uri b h other = grind (arith, nat_tests)

in_query_of_uri : (b : ℕ) → is_path_byte b ≡ true → is_query_byte b ≡ true
in_query_of_uri b h = grind (arith, nat_tests)

some_of_slash : (tail : List ℕ) → get_or tail 0 0 ≡ 47 → 0 < length tail
some_of_slash [] slash = absurd (omega arith)
some_of_slash (b ∷ tail) slash = omega arith

-- What stands behind the host of a plain key, as a path and a query

module _ (tail : List ℕ) (short : length tail ≤ 1024) (slash : get_or tail 0 0 ≡ 47) (all : list_all is_path_byte tail ≡ true) where
  tail_at : (k : ℕ) → k < length tail → is_path_byte (get_or tail k 0) ≡ true
  tail_at k within = list_all-at is_path_byte tail k within all

  abbrev mark : ℕ
  mark = index_of 63 tail

  pub tail_whole : without_fragment tail ≡ tail
  tail_whole =
      let end = index_of_is 35 tail (length tail) (omega arith) (λ k within. in_path_no_hash _ (tail_at k within)) (λ lt. absurd (omega arith)) in
      take_all _ tail (omega arith)

  tail_query : IfSome (query_of tail) (AllPass is_query_byte)
  tail_query = elim (cases_lt mark (length tail)) [
    | inl within ↦
        rw (lt-ltb mark (length tail) within)
        (AllPass-from_list_all is_query_byte (drop (mark + 1) tail)
        (list_all-weaker is_path_byte is_query_byte in_query_of_uri (drop (mark + 1) tail) (all_back is_path_byte (mark + 1) tail all)))
    | inr past ↦ rw (le-ltb mark (length tail) past) tt
  ]

  pub tail_input : IsPathInput tail
  tail_input =
      let most = index_of_le 63 tail in
      let valid : IsPathAndQuery tail = record {
        start = inr (inr (inl slash));
        path = AllPass-take uri_bytes.is_path_byte tail mark λ k below. in_path_of_uri _ (tail_at k (omega arith)) (index_of_before 63 tail k below);
        query = tail_query;
        utf8 = IsUtf8-from_ascii tail (IsAscii-pass is_path_byte tail in_path_low tail_at);
        short = omega arith;
      } in
      record { start = inr (rw slash refl); short = omega arith; kept = subst IsPathAndQuery (sym tail_whole) valid }

  -- it is shown as it is
  pub tail_shown : path_of tail ++ framed_text (63 ∷ []) (query_of tail) [] ≡ tail
  tail_shown =
      let some = some_of_slash tail slash in
      let past = index_of_at_least 63 tail 1 (omega arith) (λ k below. let first : k ≡ 0 = omega arith in rw (first, slash) (omega arith)) in
      let len = length-take-le mark tail (index_of_le 63 tail) in
      rw (ne_eqb (length (take mark tail)) 0 (omega arith))
      (elim (cases_lt mark (length tail)) [
        | inl within ↦
            rw (lt-ltb mark (length tail) within, append-nil)
            (ap (λ t. take mark tail ++ t) (sym (drop_more tail mark 0 within ∙ ap (λ b. b ∷ drop (mark + 1) tail) (index_of_found 63 tail within)))
            ∙ take-append-drop mark tail)
        | inr none ↦ rw (le-ltb mark (length tail) none, append-nil) (take_all mark tail none)
      ])

-- A plain key by its host and its path

abbrev plain_uri : List ℕ → List ℕ → Uri
plain_uri host tail = record {
  scheme = Some (codes "http");
  authority = Some host;
  path_and_query = tail;
  absolute = λ _ _. refl;
  authority_alone = λ none. absurd (none-some (codes "http") (sym none));
}

record Cut (text host tail : List ℕ) : Type 0 where
  whole : text ≡ http_prefix ++ host ++ tail
  short : length text ≤ 1024
  some : 0 < length host
  in_host : list_all is_host_byte host ≡ true
  slash : get_or tail 0 0 ≡ 47
  in_path : list_all is_path_byte tail ≡ true

module _ (text host tail : List ℕ) (c : Cut text host tail) where
  abbrev u : Uri
  u = plain_uri host tail

  tail_short : length tail ≤ 1024
  tail_short = let short = c.short in omega (arith, ap length c.whole, length-append (http_prefix ++ host) tail)

  spells : Spells text u
  spells =
      let short = c.short in (
        omega arith,
        record {
          name = codes "http";
          tail = tail;
          spelled = c.whole;
          is_scheme = (AllPass-from_list_all is_scheme_byte (codes "http") refl, omega arith);
          normal = refl;
          is_authority = host_authority host c.some c.in_host;
          is_tail = inr (rw c.slash refl, tail_input tail tail_short c.slash c.in_path, sym (tail_whole tail tail_short c.slash c.in_path));
        },
      )

  abbrev shown_query : List ℕ
  shown_query = framed_text (63 ∷ []) (uri_query u) []

  canonical_is : canonical_text host 80 (uri_path u) (uri_query u) ≡ text
  canonical_is =
      ap (λ h. http_prefix ++ h ++ [] ++ uri_path u ++ shown_query) (lowercase_host host c.in_host)
      ∙ ap (λ front. front ++ uri_path u ++ shown_query) (append-nil (http_prefix ++ host))
      ∙ append_assoc (http_prefix ++ host) (uri_path u) shown_query
      ∙ ap (λ path. http_prefix ++ host ++ (path ++ shown_query)) (shows_path (length tail == 0) (path_of tail))
      ∙ ap (λ t. http_prefix ++ host ++ t) (tail_shown tail tail_short c.slash c.in_path)
      ∙ sym c.whole

  own_key : key_of_uri u ≡ Ok text
  own_key =
      let short = c.short in
      let found : key_of_uri u ≡ key_of_host (host_of host) (port_of (after_host host)) (uri_path u) (uri_query u) =
      rw (host_without_at host c.some c.in_host) refl in
      let fits : key_within text ≡ Ok text = rw (le-ltb 1024 (length text) short) refl in
      found
      ∙ ap₂ (λ h p. key_of_host h p (uri_path u) (uri_query u)) (host_is host c.some c.in_host) (port_is host c.some c.in_host)
      ∙ key_of_host-some host 80 (uri_path u) (uri_query u) c.some ∙ ap key_within canonical_is ∙ fits

  plain : list_all is_plain text ≡ true
  plain =
      ap (list_all is_plain) c.whole
      ∙ all_both is_plain (http_prefix ++ host) tail (all_both is_plain http_prefix host refl (list_all-weaker is_host_byte is_plain host_plain host c.in_host))
      (list_all-weaker is_path_byte is_plain in_path_plain tail c.in_path)

  cut_passes : early_fault text ≡ None
  cut_passes = early_from text c.short plain

  cut_key : HasKey text (Ok text)
  cut_key = subst (λ fault. HasKeyBy fault text (Ok text)) (sym cut_passes) (inr (u, spells, sym own_key))

-- a plain key is cut behind its prefix, and then where the octets of its host end
cut_of : (text : List ℕ) → plain_key text ≡ true →
    let rest = drop 7 text in Cut text (take (prefix_len is_host_byte rest) rest) (drop (prefix_len is_host_byte rest) rest)
cut_of text h =
    let rest = drop 7 text in
    let n = prefix_len is_host_byte rest in
    let last = and_parts _ _ h in
    let front = and_parts _ _ last.0 in
    let behind = and_parts _ _ last.1 in
    let path = and_parts _ _ behind.1 in
    let prefix = (bytes_eq-Decides (take 7 text) http_prefix).0 front.1 in
    let some = ltb-true 0 n behind.0 in
    let len = length-take-le n rest (prefix_len-le-length is_host_byte rest) in
    record {
      whole = sym (take-append-drop 7 text) ∙ ap₂ (λ a b. a ++ b) prefix (sym (take-append-drop n rest))
          ∙ sym (append_assoc http_prefix (take n rest) (drop n rest));
      short = leb-true (length text) 1024 front.0;
      some = omega arith;
      in_host = list_all-from_AllPass is_host_byte (take n rest) (AllPass-take is_host_byte rest n (run_passes is_host_byte rest));
      slash = eqb-true _ 47 path.0;
      in_path = path.1;
    }

-- a plain key has the key that it is
pub plain_has_key : (text : List ℕ) → plain_key text ≡ true → HasKey text (Ok text)
plain_has_key text h = cut_key text _ _ (cut_of text h)

-- and passes the early tests
pub plain_passes : (text : List ℕ) → plain_key text ≡ true → early_fault text ≡ None
plain_passes text h = cut_passes text _ _ (cut_of text h)
