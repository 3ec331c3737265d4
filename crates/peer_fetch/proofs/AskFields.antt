-- The fields that a request is written with, and what they say: host, directives and member
-- number, no credentials and no body.
use Rattle.std.proofs.Common.{◌≡◌, ℕ, ◌+◌, ◌-◌, ◌<◌, ◌≤◌, ◌&&◌, Bool, true, false, not, List, [], ◌∷◌, ◌++◌, length, drop, get_or, Option, Some, None, refl}
use Rattle.std.proofs.Common.{sym, ap, ◌∙◌, arith, append_assoc, append-nil, length-append, codes, decimal, nat_lt, nat_le}
use Rattle.std.specs.Prelude.{option_map, option_and_then}
use Rattle.std.specs.List.{list_all, flat_map}
use Rattle.std.proofs.lemmas.Bool.{and_parts, ltb-true, leb-true}
use Rattle.std.proofs.lemmas.Bool.Decides.{nat_tests}
use Rattle.std.proofs.lemmas.List.{get_or-append_right}
use Rattle.std.proofs.lemmas.List.Elements.{All-take, All-drop, All-cons, All-weaker}
use Rattle.std.proofs.lemmas.List.Sums.{AllPass-from_list_all, list_all-from_AllPass}
use Rattle.http_lists.specs.Members.{members_from}
use Rattle.httparse.specs.Grammar.{is_value_byte}
use Rattle.url_key.specs.Text.{is_visible, http_prefix, key_authority}
use Rattle.http_uri.specs.Grammar.{authority_len}
use Rattle.http_messages.specs.Field.{is_blank, is_trimmed}
use Rattle.http_writing.specs.Name.{is_name, is_name_octet}
use Rattle.http_writing.specs.Lines.{field_line, number_line, last_lines}
use Rattle.http_writing.specs.Ask.{cache_control_line}
use Rattle.http_reading.specs.AskFields.{one, host, has_credentials, member}
use Rattle.http_reading.specs.Decimal.{plain_number}
use Rattle.http_reading.specs.Directives.{only_if_cached, no_cache}
use Rattle.http_reading.specs.Framing.{ask_has_body}
use Rattle.peer_fetch.specs.Writable.{IsMember}
use Rattle.peer_fetch.proofs.Pairs.{IsPlainPair, ArePlain, pair_line, visible_pair, visible_value, visible_no_blank}
use Rattle.peer_fetch.proofs.Names.{host_token, cache_control_token, connection_token, via_token, member_token}
use Rattle.peer_fetch.proofs.Decimals.{decimal_visible, plain_back}

abbrev Pairs : Type 0
Pairs = List (List ℕ × List ℕ)

abbrev pub control_pairs : Bool → Bool → Pairs
control_pairs true true = (codes "cache-control", codes "only-if-cached, no-cache") ∷ []
control_pairs true false = (codes "cache-control", codes "only-if-cached") ∷ []
control_pairs false true = (codes "cache-control", codes "no-cache") ∷ []
control_pairs false false = []

abbrev pub number_pairs : List ℕ → Option ℕ → Pairs
number_pairs name None = []
number_pairs name (Some number) = (name, decimal number) ∷ []

abbrev pub close_pair : List ℕ × List ℕ
close_pair = (codes "connection", codes "close")

abbrev pub via_pair : List ℕ → List ℕ × List ℕ
via_pair via = (codes "via", codes "1.1 " ++ via)

abbrev pub ask_pairs : List ℕ → Bool → Bool → List ℕ → Option ℕ → Pairs
ask_pairs authority only fresh via m =
    (codes "host", authority) ∷ (control_pairs only fresh ++ (close_pair ∷ via_pair via ∷ number_pairs (codes "x-purge-member") m))

-- Their lines

control_lines : (only fresh : Bool) (rest : Pairs) → flat_map pair_line (control_pairs only fresh ++ rest) ≡ cache_control_line only fresh
    ++ flat_map pair_line rest
control_lines true true rest = refl
control_lines true false rest = refl
control_lines false true rest = refl
control_lines false false rest = refl

pub number_lines_are : (name : List ℕ) (m : Option ℕ) → flat_map pair_line (number_pairs name m) ≡ number_line name m
number_lines_are name None = refl
number_lines_are name (Some n) = append-nil (field_line name (decimal n))

pub ask_lines : (only fresh : Bool) (via : List ℕ) (m : Option ℕ) (tail : List ℕ)
    → cache_control_line only fresh ++ (last_lines via ++ (number_line (codes "x-purge-member") m ++ tail))
    ≡ flat_map pair_line (control_pairs only fresh ++ (close_pair ∷ via_pair via ∷ number_pairs (codes "x-purge-member") m)) ++ tail
ask_lines only fresh via m tail =
    let c : List ℕ = cache_control_line only fresh in
    let k : List ℕ = pair_line close_pair in
    let v : List ℕ = pair_line (via_pair via) in
    let n : List ℕ = number_line (codes "x-purge-member") m in
    let whole : flat_map pair_line (control_pairs only fresh ++ (close_pair ∷ via_pair via ∷ number_pairs (codes "x-purge-member") m)) ≡ c ++ (k ++ (v ++ n)) =
    control_lines only fresh _ ∙ ap (λ (t : List ℕ). c ++ (k ++ (v ++ t))) (number_lines_are (codes "x-purge-member") m) in
    sym (ap (λ (t : List ℕ). t ++ tail) whole ∙ regroup c k v n tail)
  where
    regroup : (c k v n t : List ℕ) → (c ++ (k ++ (v ++ n))) ++ t ≡ c ++ ((k ++ v) ++ (n ++ t))
    regroup c k v n t = simp append_assoc

-- They stand in lines as they are

pub part_visible : (key : List ℕ) → list_all is_visible key ≡ true → list_all is_visible (key_authority key) ≡ true
part_visible key visible =
    let P : ℕ → Type 0 = λ b. is_visible b ≡ true in
    let rest : List ℕ = drop (length http_prefix) key in
    list_all-from_AllPass is_visible (key_authority key)
    (All-take P (authority_len rest) rest (All-drop P (length http_prefix) key (AllPass-from_list_all is_visible key visible)))

name_octet_visible : (b : ℕ) → is_name_octet b ≡ true → is_visible b ≡ true
name_octet_visible b h = grind (arith, nat_tests)

pub record IsNameText (via : List ℕ) : Type 0 where
  pub some : 0 < length via
  pub short : length via ≤ 32
  pub visible : list_all is_visible via ≡ true

pub name_text : (via : List ℕ) → is_name via ≡ true → IsNameText via
name_text via is =
    let outer = and_parts (nat_lt 0 (length via) && nat_le (length via) 32) (list_all is_name_octet via) is in
    let sizes = and_parts (nat_lt 0 (length via)) (nat_le (length via) 32) outer.0 in
    record {
      some = ltb-true 0 (length via) sizes.0;
      short = leb-true (length via) 32 sizes.1;
      visible = list_all-from_AllPass is_visible via (All-weaker (λ b. is_name_octet b ≡ true) (λ b. is_visible b ≡ true) name_octet_visible via
          (AllPass-from_list_all is_name_octet via outer.1));
    }

pub via_plain : (via : List ℕ) → IsNameText via → IsPlainPair (via_pair via)
via_plain via name =
    let P : ℕ → Type 0 = λ b. is_value_byte b ≡ true in
    let front : List ℕ = codes "1.1 " in
    let value : List ℕ = front ++ via in
    let some = name.some in
    let size : length value ≡ 4 + length via = length-append front via in
    let last : get_or value (length value - 1) 0 ≡ get_or via (length value - 1 - 4) 0 = get_or-append_right front via 4 (length value - 1) 0 refl (omega arith)
    in
    let within : length value - 1 - 4 < length via = omega arith in
    let seen : is_visible (get_or via (length value - 1 - 4) 0) ≡ true = AllPass-from_list_all is_visible via name.visible (length value - 1 - 4) 0 within in
    record {
      name = via_token;
      value = All-cons P 49 (46 ∷ 49 ∷ 32 ∷ via) refl
          (All-cons P 46 (49 ∷ 32 ∷ via) refl (All-cons P 49 (32 ∷ via) refl (All-cons P 32 via refl (visible_value via name.visible))));
      trimmed = ap (λ (b : ℕ). not (is_blank b)) last ∙ visible_no_blank (get_or via (length value - 1 - 4) 0) seen;
    }

pub close_plain : IsPlainPair close_pair
close_plain = visible_pair (codes "connection") (codes "close") connection_token refl

control_value : (value : List ℕ) → list_all is_value_byte value ≡ true → is_trimmed value ≡ true → IsPlainPair (codes "cache-control", value)
control_value value bytes trimmed = record { name = cache_control_token; value = AllPass-from_list_all is_value_byte value bytes; trimmed = trimmed }

control_plain : (only fresh : Bool) (rest : Pairs) → ArePlain rest → ArePlain (control_pairs only fresh ++ rest)
control_plain true true rest plain = (control_value (codes "only-if-cached, no-cache") refl refl, plain)
control_plain true false rest plain = (control_value (codes "only-if-cached") refl refl, plain)
control_plain false true rest plain = (control_value (codes "no-cache") refl refl, plain)
control_plain false false rest plain = plain

member_plain : (m : Option ℕ) → IsMember m → ArePlain (number_pairs (codes "x-purge-member") m)
member_plain None is = tt
member_plain (Some n) is = (visible_pair (codes "x-purge-member") (decimal n) member_token (decimal_visible n (omega arith)), tt)

pub ask_plain : (authority : List ℕ) (only fresh : Bool) (via : List ℕ) (m : Option ℕ) → list_all is_visible authority ≡ true → IsNameText via → IsMember m →
    ArePlain (ask_pairs authority only fresh via m)
ask_plain authority only fresh via m visible name is =
    (visible_pair (codes "host") authority host_token visible, control_plain only fresh _ (close_plain, (via_plain via name, member_plain m is)))

-- What they say

pub record SaysAsk (pairs : Pairs) (authority : List ℕ) (only fresh : Bool) (m : Option ℕ) : Type 0 where
  pub host_is : host pairs ≡ one authority
  pub credentials : has_credentials pairs ≡ false
  pub body : ask_has_body pairs ≡ false
  pub only_is : only_if_cached pairs ≡ only
  pub no_is : no_cache pairs ≡ fresh
  pub member_is : member pairs ≡ option_and_then (plain_number 1 16) (option_map decimal m)

pub pairs_say : (authority : List ℕ) (only fresh : Bool) (via : List ℕ) (m : Option ℕ) → SaysAsk (ask_pairs authority only fresh via m) authority only fresh m
unfolding members_from
pairs_say authority true true via None = record { host_is = refl; credentials = refl; body = refl; only_is = refl; no_is = refl; member_is = refl }
pairs_say authority true true via (Some m) = record { host_is = refl; credentials = refl; body = refl; only_is = refl; no_is = refl; member_is = refl }
pairs_say authority true false via None = record { host_is = refl; credentials = refl; body = refl; only_is = refl; no_is = refl; member_is = refl }
pairs_say authority true false via (Some m) = record { host_is = refl; credentials = refl; body = refl; only_is = refl; no_is = refl; member_is = refl }
pairs_say authority false true via None = record { host_is = refl; credentials = refl; body = refl; only_is = refl; no_is = refl; member_is = refl }
pairs_say authority false true via (Some m) = record { host_is = refl; credentials = refl; body = refl; only_is = refl; no_is = refl; member_is = refl }
pairs_say authority false false via None = record { host_is = refl; credentials = refl; body = refl; only_is = refl; no_is = refl; member_is = refl }
pairs_say authority false false via (Some m) = record { host_is = refl; credentials = refl; body = refl; only_is = refl; no_is = refl; member_is = refl }

pub member_back : (m : Option ℕ) → IsMember m → option_and_then (plain_number 1 16) (option_map decimal m) ≡ m
member_back None is = refl
member_back (Some n) is = plain_back 1 16 n is.0 is.1 (omega arith)
