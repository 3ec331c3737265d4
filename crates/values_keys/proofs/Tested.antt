-- Each test says what the grammar says: it is built of the same parts, and each part is decided.
use Rattle.std.proofs.Common.{◌≡◌, ◌≢◌, ℕ, ◌-◌, ◌<◌, ◌≤◌, ◌==◌, ◌||◌, Bool, true, false, not, nat_lt, nat_le, IsTrue, IfSome, IsUtf8, Decides, Option, Some}
use Rattle.std.proofs.Common.{None, unwrap_or, List, [], length, take, drop, get_or, codes, refl, sym, ap, ◌∙◌, subst, inl, inr, arith, take_all}
use Rattle.std.proofs.Common.{take-append-drop, length-drop}
use Rattle.std.specs.List.{list_all, list_any}
use Rattle.std.proofs.lemmas.Bool.{cases_Bool, ltb-false}
use Rattle.std.proofs.lemmas.Bool.Decides.{nat_tests, Decides-eqb, Decides-ltb, Decides-not, Decides-and, Decides-or, Decides-like, Decides-below_and}
use Rattle.std.proofs.lemmas.List.Sums.{AllPass-from_list_all, list_all-from_AllPass}
use Rattle.std.proofs.lemmas.Slice.Eq.{bytes_eq-Decides}
use Rattle.std.proofs.lemmas.Str.{IsUtf8-from_ascii}
use Rattle.std.proofs.lemmas.Str.Ascii.{IsAscii-from_reads}
use Rattle.http_uri.specs.ByteClasses.{is_scheme_byte, is_authority_byte, is_query_byte, is_path_byte, split_once_front, split_once_back, count_of}
use Rattle.http_uri.specs.Grammar.{AllPass, IsScheme, MayFollow, IsAuthority, IsPathAndQuery, IsPathInput, StartsPath, StartsOrigin, HasScheme, last_piece}
use Rattle.http_uri.specs.Grammar.{scheme_len, without_fragment}
use Rattle.http_uri.proofs.RunLemmas.{AllPass-at, index_of_is}
use Rattle.url_key.specs.declared.fault.KeyFault.TheVariants.{TooLong, NotVisibleAscii, Fragment}
use Rattle.url_key.specs.Text.{is_visible}
use Rattle.url_key.specs.Key.{early_fault}
use Rattle.url_key.proofs.PlainLemmas.{is_plain, plain_from_parts, all_right}
use Rattle.values_keys.specs.Tests.{all_below, is_scheme, may_follow, is_authority, is_path_and_query, starts_origin, has_scheme}

Decides-leb : (a b : ℕ) → Decides (nat_le a b) (a ≤ b)
Decides-leb a b = (λ e. grind (arith, nat_tests), λ h. grind (arith, nat_tests))

Decides-implies : {P Q : Type 0} → (x y : Bool) → Decides x P → Decides y Q → Decides (not x || y) (P → Q)
Decides-implies true y p q = (λ e _. q.0 e, λ f. q.1 (f (p.0 refl)))
Decides-implies false y p q = (λ _ h. let bad : false ≡ true = p.1 h in cc, λ _. refl)

Decides-list_all : (test : ℕ → Bool) (text : List ℕ) → Decides (list_all test text) (AllPass test text)
Decides-list_all test text = (AllPass-from_list_all test text, list_all-from_AllPass test text)

Decides-some : (test : ℕ → Bool) (o : Option (List ℕ)) → Decides (list_all test (unwrap_or o [])) (IfSome o (AllPass test))
Decides-some test None = (λ _. tt, λ _. refl)
Decides-some test (Some text) = Decides-list_all test text

pub Decides-is_scheme : (name : List ℕ) → Decides (is_scheme name) (IsScheme name)
Decides-is_scheme name = Decides-and _ _ (Decides-list_all is_scheme_byte name) (Decides-leb (length name) 64)

Decides-may_follow : (front : List ℕ) (b : ℕ) → Decides (may_follow front b) (MayFollow front b)
Decides-may_follow front b =
    let byte : Decides (is_authority_byte b) (IsTrue (is_authority_byte b)) = (λ e. e, λ e. e) in
    let colons = Decides-implies _ _ (Decides-eqb b 58) (Decides-ltb (count_of 58 (last_piece front)) 8) in
    let opening = Decides-implies _ _ (Decides-eqb b 91) (Decides-and _ _ (Decides-eqb (count_of 91 front) 0) (Decides-eqb (count_of 37 (last_piece front)) 0))
    in
    let closing = Decides-implies _ _ (Decides-eqb b 93) (Decides-and _ _ (Decides-ltb 0 (count_of 91 front)) (Decides-eqb (count_of 93 front) 0)) in
    Decides-like (may_follow front b) (λ h. record { byte = h.0.0.0; colons = h.0.0.1; opening = h.0.1; closing = h.1 })
    (λ h. (((h.byte, h.colons), h.opening), h.closing)) (Decides-and _ _ (Decides-and _ _ (Decides-and _ _ byte colons) opening) closing)

pub Decides-is_authority : (text : List ℕ) → Decides (is_authority text) (IsAuthority text)
Decides-is_authority text =
    let bytes =
    Decides-below_and (λ i. may_follow (take i text) (get_or text i 0)) (λ i. MayFollow (take i text) (get_or text i 0))
    (all_below (λ i. may_follow (take i text) (get_or text i 0))) (λ i. Decides-may_follow (take i text) (get_or text i 0)) refl (λ _. refl) (length text) in
    let closed = Decides-eqb (count_of 91 text) (count_of 93 text) in
    let one_colon = Decides-leb (count_of 58 (last_piece text)) 1 in
    let no_percent = Decides-eqb (count_of 37 (last_piece text)) 0 in
    let has_host = Decides-not _ (Decides-eqb (get_or text (length text - 1) 0) 64) in
    Decides-like (is_authority text)
    (λ h. record { nonempty = h.0.0.0.0.0; bytes = h.0.0.0.0.1; closed = h.0.0.0.1; one_colon = h.0.0.1; no_percent = h.0.1; has_host = h.1 })
    (λ h. (((((h.nonempty, h.bytes), h.closed), h.one_colon), h.no_percent), h.has_host))
    (Decides-and _ _ (Decides-and _ _ (Decides-and _ _ (Decides-and _ _ (Decides-and _ _ (Decides-ltb 0 (length text)) bytes) closed) one_colon) no_percent)
    has_host)

pub Decides-starts_origin : (text : List ℕ) → Decides (starts_origin text) (StartsOrigin text)
Decides-starts_origin text = Decides-or _ _ (bytes_eq-Decides text (codes "*")) (Decides-eqb (get_or text 0 0) 47)

pub Decides-has_scheme : (text : List ℕ) → Decides (has_scheme text) (HasScheme text)
Decides-has_scheme text = Decides-and _ _ (Decides-ltb 3 (length text)) (bytes_eq-Decides (take 3 (drop (scheme_len text) text)) (codes "://"))

-- the early tests, passed
pub record IsPlain (text : List ℕ) : Type 0 where
  pub short : length text ≤ 1024
  pub plain : list_all is_plain text ≡ true

pub plain_text : (text : List ℕ) → early_fault text ≡ None → IsPlain text
plain_text text e = elim (cases_Bool (nat_lt 1024 (length text))) [
  | inl long ↦ let bad : Some TooLong ≡ None = sym (rw long refl) ∙ e in cc
  | inr short ↦ elim (cases_Bool (list_all is_visible text)) [
    | inr hidden ↦ let bad : Some NotVisibleAscii ≡ None = sym (rw (short, hidden) refl) ∙ e in cc
    | inl visible ↦ elim (cases_Bool (list_any (λ b. b == 35) text)) [
      | inl hash ↦ let bad : Some Fragment ≡ None = sym (rw (short, visible, hash) refl) ∙ e in cc
      | inr none ↦ record { short = ltb-false 1024 (length text) short; plain = plain_from_parts text visible none }
    ]
  ]
]

pub IsPlain-drop : (n : ℕ) (text : List ℕ) → IsPlain text → IsPlain (drop n text)
IsPlain-drop n text h = record {
  short = let short = h.short in omega (arith, length-drop n text);
  plain = all_right is_plain (take n text) (drop n text) (ap (list_all is_plain) (take-append-drop n text) ∙ h.plain);
}

plain_byte : (b : ℕ) → is_plain b ≡ true → (b < 128) × (b ≢ 35)
plain_byte b h = grind (arith, nat_tests)

plain_at : (text : List ℕ) → IsPlain text → (k : ℕ) → k < length text → (get_or text k 0 < 128) × (get_or text k 0 ≢ 35)
plain_at text h k within = plain_byte _ (AllPass-at is_plain text (AllPass-from_list_all is_plain text h.plain) k within)

plain_utf8 : (text : List ℕ) → IsPlain text → IsUtf8 text
plain_utf8 text h = IsUtf8-from_ascii text (IsAscii-from_reads text (length text) (omega arith) λ k within. (plain_at text h k within).0)

-- it has no fragment
pub plain_whole : (text : List ℕ) → IsPlain text → without_fragment text ≡ text
plain_whole text h =
    take_all _ text (let at = index_of_is 35 text (length text) (omega arith) (λ k within. (plain_at text h k within).1) (λ lt. absurd (omega arith)) in
    omega arith)

pub Decides-is_path_and_query : (text : List ℕ) → IsPlain text → Decides (is_path_and_query text) (IsPathAndQuery text)
Decides-is_path_and_query text plain =
    let short = plain.short in
    let first = Decides-or _ _ (Decides-eqb (get_or text 0 0) 47) (Decides-eqb (get_or text 0 0) 63) in
    let start = Decides-or _ _ (bytes_eq-Decides text []) (Decides-or _ _ (bytes_eq-Decides text (codes "*")) first) in
    let path = Decides-list_all is_path_byte (split_once_front 63 text) in
    let query = Decides-some is_query_byte (split_once_back 63 text) in
    Decides-like (is_path_and_query text)
    (λ h. record { start = h.0.0; path = h.0.1; query = h.1; utf8 = plain_utf8 text plain; short = omega arith })
    (λ h. ((h.start, h.path), h.query)) (Decides-and _ _ (Decides-and _ _ start path) query)

-- a start of a path, and a path and a query
pub path_input : (text : List ℕ) → IsPlain text → StartsPath text → IsPathAndQuery text → IsPathInput text
path_input text plain start path =
    let short = plain.short in
    record { start = start; short = omega arith; kept = subst IsPathAndQuery (sym (plain_whole text plain)) path }

pub path_kept : (text : List ℕ) → IsPlain text → IsPathInput text → IsPathAndQuery text
path_kept text plain input = subst IsPathAndQuery (plain_whole text plain) input.kept
