-- The fields that a response is written with, and what they say. No kept field has the name of one
-- that the writer adds, so age, stamp and length are those written, and the kept fields are kept
-- again.
use Rattle.std.proofs.Common.{◌≡◌, ℕ, ◌<◌, ◌^◌, true, false, not, List, [], ◌∷◌, ◌++◌, map, filter, get_or, Option, Some, None, refl, sym, ap, ap₂, ◌∙◌, inl}
use Rattle.std.proofs.Common.{inr, arith, append_assoc, append-nil, codes, decimal, bytes_eq, unwrap_or}
use Rattle.std.specs.Prelude.{option_map}
use Rattle.std.specs.Option.{option_to_list}
use Rattle.std.specs.List.{list_all, flat_map, AllByRecursion}
use Rattle.std.proofs.lemmas.Bool.{cases_Bool, and_parts, not-true}
use Rattle.std.proofs.lemmas.List.Folds.{list_any_at}
use Rattle.std.proofs.lemmas.List.Concat.{flat_map-append}
use Rattle.std.proofs.lemmas.List.Elements.{filter-append}
use Rattle.std.proofs.lemmas.List.{map-append}
use Rattle.std.proofs.lemmas.Slice.Eq.{bytes_eq-Decides}
use Rattle.http_header.specs.Token.{lowercase, is_token_byte as is_header_token_byte}
use Rattle.httparse.specs.Grammar.{IsToken, is_token_byte}
use Rattle.http_messages.specs.Field.{FieldText, is_dropped_name, dropped_names, is_trimmed, is_kept_field}
use Rattle.http_writing.specs.Lines.{number_line, last_lines}
use Rattle.http_writing.specs.Answer.{kept_line, kept_lines, number_lines}
use Rattle.http_reading.specs.Fields.{is_named, value_of, values_named}
use Rattle.http_reading.specs.Kept.{is_kept, kept_text, kept_by, marks_by, kept}
use Rattle.peer_fetch.specs.Writable.{IsFieldText}
use Rattle.peer_fetch.proofs.Pairs.{IsPlainPair, ArePlain, pair_line, visible_pair}
use Rattle.peer_fetch.proofs.Names.{age_token, stamp_token, length_token}
use Rattle.peer_fetch.proofs.Decimals.{decimal_visible}
use Rattle.peer_fetch.proofs.AskFields.{number_pairs, close_pair, via_pair, number_lines_are, IsNameText, via_plain, close_plain}

abbrev Pairs : Type 0
Pairs = List (List ℕ × List ℕ)

abbrev pub pair_of : FieldText → List ℕ × List ℕ
pair_of f = (f.name, f.value)

abbrev pub own_pairs : Option ℕ → Option ℕ → Option ℕ → List ℕ → Pairs
own_pairs age stamp len via =
    number_pairs (codes "age") age
    ++ (number_pairs (codes "x-purge-stamp") stamp ++ (number_pairs (codes "content-length") len ++ (close_pair ∷ via_pair via ∷ [])))

abbrev pub answer_pairs : List FieldText → Option ℕ → Option ℕ → Option ℕ → List ℕ → Pairs
answer_pairs fields age stamp len via = map pair_of fields ++ own_pairs age stamp len via

-- Their lines

kept_lines_are : (fields : List FieldText) → flat_map pair_line (map pair_of fields) ≡ kept_lines fields
kept_lines_are [] = refl
kept_lines_are (f ∷ fields) = ap (λ (t : List ℕ). kept_line f ++ t) (kept_lines_are fields)

-- each of a node's own fields is written as its number line or as one of the last lines, so the pairs give those lines in order
own_lines : (age stamp len : Option ℕ) (via tail : List ℕ) → flat_map pair_line (own_pairs age stamp len via) ++ tail ≡ number_lines age stamp len
    ++ (last_lines via ++ tail)
own_lines age stamp len via tail =
    let A : Pairs = number_pairs (codes "age") age in
    let S : Pairs = number_pairs (codes "x-purge-stamp") stamp in
    let L : Pairs = number_pairs (codes "content-length") len in
    let E : Pairs = close_pair ∷ via_pair via ∷ [] in
    let a : List ℕ = number_line (codes "age") age in
    let s : List ℕ = number_line (codes "x-purge-stamp") stamp in
    let l : List ℕ = number_line (codes "content-length") len in
    let k : List ℕ = pair_line close_pair in
    let v : List ℕ = pair_line (via_pair via) in
    let third : flat_map pair_line (L ++ E) ≡ l ++ (k ++ (v ++ [])) =
    flat_map-append pair_line L E ∙ ap (λ (t : List ℕ). t ++ (k ++ (v ++ []))) (number_lines_are (codes "content-length") len) in
    let second : flat_map pair_line (S ++ (L ++ E)) ≡ s ++ (l ++ (k ++ (v ++ []))) =
    flat_map-append pair_line S (L ++ E) ∙ ap₂ (λ (x y : List ℕ). x ++ y) (number_lines_are (codes "x-purge-stamp") stamp) third in
    let first : flat_map pair_line (A ++ (S ++ (L ++ E))) ≡ a ++ (s ++ (l ++ (k ++ (v ++ [])))) =
    flat_map-append pair_line A (S ++ (L ++ E)) ∙ ap₂ (λ (x y : List ℕ). x ++ y) (number_lines_are (codes "age") age) second in
    ap (λ (t : List ℕ). t ++ tail) first ∙ regroup a s l k v tail
  where
    regroup : (a s l k v t : List ℕ) → (a ++ (s ++ (l ++ (k ++ (v ++ []))))) ++ t ≡ (a ++ (s ++ l)) ++ ((k ++ v) ++ t)
    regroup a s l k v t = simp (append_assoc, append-nil)

pub answer_lines : (fields : List FieldText) (age stamp len : Option ℕ) (via tail : List ℕ)
    → flat_map pair_line (answer_pairs fields age stamp len via) ++ tail ≡ kept_lines fields ++ (number_lines age stamp len ++ (last_lines via ++ tail))
answer_lines fields age stamp len via tail =
    let own : Pairs = own_pairs age stamp len via in
    ap (λ (t : List ℕ). t ++ tail) (flat_map-append pair_line (map pair_of fields) own ∙ ap (λ (t : List ℕ). t ++ flat_map pair_line own)
    (kept_lines_are fields))
    ∙ append_assoc (kept_lines fields) (flat_map pair_line own) tail
    ∙ ap (λ (t : List ℕ). kept_lines fields ++ t) (own_lines age stamp len via tail)

-- They stand in lines as they are

pub record IsPlainField (f : FieldText) : Type 0 where
  pub token : IsToken f.name
  pub plain : IsPlainPair (pair_of f)
  pub lower : lowercase f.name ≡ f.name
  pub other : is_dropped_name f.name ≡ false

plain_field : (f : FieldText) → IsFieldText f → is_kept_field f ≡ true → IsPlainField f
unfolding is_token_byte is_header_token_byte
plain_field f text kept =
    let parts = and_parts (not (is_dropped_name f.name)) (is_trimmed f.value) kept in
    record {
      token = text.0.0.0;
      plain = record { name = text.0.0.0; value = text.1; trimmed = parts.1 };
      lower = text.0.1;
      other = not-true (is_dropped_name f.name) parts.0;
    }

pub plain_fields : (fields : List FieldText) → AllByRecursion IsFieldText fields → list_all is_kept_field fields ≡ true → AllByRecursion IsPlainField fields
plain_fields [] texts kept = tt
plain_fields (f ∷ fields) (text, texts) kept =
    let parts = and_parts (is_kept_field f) (list_all is_kept_field fields) kept in
    (plain_field f text parts.0, plain_fields fields texts parts.1)

both_plain : (xs ys : Pairs) → ArePlain xs → ArePlain ys → ArePlain (xs ++ ys)
both_plain [] ys a b = b
both_plain (x ∷ xs) ys (this, others) b = (this, both_plain xs ys others b)

kept_plain : (fields : List FieldText) → AllByRecursion IsPlainField fields → ArePlain (map pair_of fields)
kept_plain [] plain = tt
kept_plain (f ∷ fields) (this, others) = (this.plain, kept_plain fields others)

number_plain : (name : List ℕ) (n : Option ℕ) → IsToken name → unwrap_or n 0 < 2 ^ 64 → ArePlain (number_pairs name n)
number_plain name None token small = tt
number_plain name (Some n) token small = (visible_pair name (decimal n) token (decimal_visible n small), tt)

pub answer_plain : (fields : List FieldText) (age stamp len : Option ℕ) (via : List ℕ) → AllByRecursion IsPlainField fields
    → unwrap_or age 0 < 2 ^ 64 → unwrap_or stamp 0 < 2 ^ 64 → unwrap_or len 0 < 2 ^ 64 → IsNameText via → ArePlain (answer_pairs fields age stamp len via)
answer_plain fields age stamp len via plain a s l name =
    both_plain (map pair_of fields) _ (kept_plain fields plain)
    (both_plain (number_pairs (codes "age") age) _ (number_plain (codes "age") age age_token a)
    (both_plain (number_pairs (codes "x-purge-stamp") stamp) _ (number_plain (codes "x-purge-stamp") stamp stamp_token s)
    (both_plain (number_pairs (codes "content-length") len) _ (number_plain (codes "content-length") len length_token l)
    (close_plain, (via_plain via name, tt)))))

-- A kept field has none of the names that stand apart

not_dropped : (name : List ℕ) (place : ℕ) → place < 14 → is_dropped_name name ≡ false → bytes_eq name (get_or dropped_names place []) ≡ false
not_dropped name place within other = elim (cases_Bool (bytes_eq name (get_or dropped_names place []))) [
  | inr is ↦ is
  | inl same ↦ let bad : is_dropped_name name ≡ true = list_any_at (bytes_eq name) dropped_names place [] within same in
      let clash : true ≡ false = sym bad ∙ other in cc
]

kept_unnamed : (word : List ℕ) (place : ℕ) → place < 14 → word ≡ get_or dropped_names place [] → lowercase word ≡ word → (fields : List FieldText) →
    AllByRecursion IsPlainField fields → values_named word (map pair_of fields) ≡ []
kept_unnamed word place within is lower [] plain = refl
kept_unnamed word place within is lower (f ∷ fields) (this, others) =
    let apart : is_named word (pair_of f) ≡ false =
    ap₂ bytes_eq this.lower lower ∙ ap (bytes_eq f.name) is ∙ not_dropped f.name place within this.other in
    rw apart (kept_unnamed word place within is lower fields others)

values_both : (word : List ℕ) (xs ys : Pairs) → values_named word (xs ++ ys) ≡ values_named word xs ++ values_named word ys
values_both word xs ys = ap (map value_of) (filter-append (is_named word) xs ys) ∙ map-append value_of (filter (is_named word) xs) (filter (is_named word) ys)

pub record SaysOwn (pairs : Pairs) (age stamp len : Option ℕ) : Type 0 where
  pub options : values_named (codes "connection") pairs ≡ codes "close" ∷ []
  pub coding : values_named (codes "transfer-encoding") pairs ≡ []
  pub ages : values_named (codes "age") pairs ≡ option_to_list (option_map decimal age)
  pub stamps : values_named (codes "x-purge-stamp") pairs ≡ option_to_list (option_map decimal stamp)
  pub lengths : values_named (codes "content-length") pairs ≡ option_to_list (option_map decimal len)

own_say : (age stamp len : Option ℕ) (via : List ℕ) → SaysOwn (own_pairs age stamp len via) age stamp len
own_say None None None via = record { options = refl; coding = refl; ages = refl; stamps = refl; lengths = refl }
own_say None None (Some l) via = record { options = refl; coding = refl; ages = refl; stamps = refl; lengths = refl }
own_say None (Some s) None via = record { options = refl; coding = refl; ages = refl; stamps = refl; lengths = refl }
own_say None (Some s) (Some l) via = record { options = refl; coding = refl; ages = refl; stamps = refl; lengths = refl }
own_say (Some a) None None via = record { options = refl; coding = refl; ages = refl; stamps = refl; lengths = refl }
own_say (Some a) None (Some l) via = record { options = refl; coding = refl; ages = refl; stamps = refl; lengths = refl }
own_say (Some a) (Some s) None via = record { options = refl; coding = refl; ages = refl; stamps = refl; lengths = refl }
own_say (Some a) (Some s) (Some l) via = record { options = refl; coding = refl; ages = refl; stamps = refl; lengths = refl }

pub pairs_say : (fields : List FieldText) (age stamp len : Option ℕ) (via : List ℕ) → AllByRecursion IsPlainField fields →
    SaysOwn (answer_pairs fields age stamp len via) age stamp len
pairs_say fields age stamp len via plain =
    let own : Pairs = own_pairs age stamp len via in
    let says = own_say age stamp len via in
    let behind : (word : List ℕ) (place : ℕ) → place < 14 → word ≡ get_or dropped_names place [] → lowercase word ≡ word →
    values_named word (answer_pairs fields age stamp len via) ≡ values_named word own =
    λ word place within is lower. values_both word (map pair_of fields) own ∙ ap (λ vs. vs ++ values_named word own)
    (kept_unnamed word place within is lower fields plain) in
    record {
      options = behind (codes "connection") 0 (omega arith) refl refl ∙ says.options;
      coding = behind (codes "transfer-encoding") 7 (omega arith) refl refl ∙ says.coding;
      ages = behind (codes "age") 11 (omega arith) refl refl ∙ says.ages;
      stamps = behind (codes "x-purge-stamp") 13 (omega arith) refl refl ∙ says.stamps;
      lengths = behind (codes "content-length") 10 (omega arith) refl refl ∙ says.lengths;
    }

-- What is kept of them is the fields

abbrev closing : List (List ℕ)
closing = codes "close" ∷ []

own_dropped : (age stamp len : Option ℕ) (via : List ℕ) → kept_by closing (own_pairs age stamp len via) ≡ []
own_dropped None None None via = refl
own_dropped None None (Some l) via = refl
own_dropped None (Some s) None via = refl
own_dropped None (Some s) (Some l) via = refl
own_dropped (Some a) None None via = refl
own_dropped (Some a) None (Some l) via = refl
own_dropped (Some a) (Some s) None via = refl
own_dropped (Some a) (Some s) (Some l) via = refl

kept_both : (options : List (List ℕ)) (xs ys : Pairs) → kept_by options (xs ++ ys) ≡ kept_by options xs ++ kept_by options ys
kept_both options xs ys = ap (map kept_text) (filter-append (is_kept options) xs ys) ∙ map-append kept_text (filter (is_kept options) xs)
    (filter (is_kept options) ys)

field_made : List ℕ → List ℕ → FieldText
field_made name value = record { name = name; value = value }

kept_again : (f : FieldText) → IsPlainField f → kept_text (pair_of f) ≡ f
unfolding field_made
kept_again f plain = ap (λ n. field_made n f.value) plain.lower

bytes_turned : (a b : List ℕ) → bytes_eq a b ≡ false → bytes_eq b a ≡ false
bytes_turned a b other = elim (cases_Bool (bytes_eq b a)) [
  | inr is ↦ is
  | inl is ↦ let same : bytes_eq a b ≡ true = (bytes_eq-Decides a b).1 (sym ((bytes_eq-Decides b a).0 is)) in let clash : true ≡ false = sym same ∙ other in cc
]

is_kept_again : (f : FieldText) → IsPlainField f → is_kept closing (pair_of f) ≡ true
is_kept_again f plain =
    let closes : bytes_eq (codes "close") (lowercase f.name) ≡ false =
    ap (bytes_eq (codes "close")) plain.lower ∙ bytes_turned f.name (codes "close") (not_dropped f.name 9 (omega arith) plain.other) in
    let dropped : is_dropped_name (lowercase f.name) ≡ false = ap is_dropped_name plain.lower ∙ plain.other in
    rw (dropped, closes) refl

kept_fields_again : (fields : List FieldText) → AllByRecursion IsPlainField fields → kept_by closing (map pair_of fields) ≡ fields
kept_fields_again [] plain = refl
kept_fields_again (f ∷ fields) (this, others) =
    rw (is_kept_again f this) (ap₂ (λ (x : FieldText) (xs : List FieldText). x ∷ xs) (kept_again f this) (kept_fields_again fields others))

pub kept_back : (fields : List FieldText) (age stamp len : Option ℕ) (via : List ℕ) → AllByRecursion IsPlainField fields →
    kept (answer_pairs fields age stamp len via) ≡ fields
kept_back fields age stamp len via plain =
    let own : Pairs = own_pairs age stamp len via in
    ap (λ options. marks_by options ++ kept_by options (answer_pairs fields age stamp len via)) (pairs_say fields age stamp len via plain).options
    ∙ kept_both closing (map pair_of fields) own
    ∙ ap₂ (λ (xs ys : List FieldText). xs ++ ys) (kept_fields_again fields plain) (own_dropped age stamp len via)
    ∙ append-nil fields
