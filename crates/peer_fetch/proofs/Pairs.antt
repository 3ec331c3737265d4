-- Names and values as field lines. A value without blanks at its ends is read back from its line,
-- as the parser removes only blanks around it.
use Rattle.std.proofs.Common.{◌≡◌, ℕ, ◌-◌, true, false, not, List, [], ◌∷◌, ◌++◌, length, map, get_or, reverse, refl, ap, ◌∙◌, arith, append_assoc, nat_lt}
use Rattle.std.specs.List.{list_all, flat_map, AllByRecursion, All}
use Rattle.std.proofs.lemmas.Bool.{and_parts, and_from, not-true}
use Rattle.std.proofs.lemmas.Bool.Decides.{nat_tests}
use Rattle.std.proofs.lemmas.List.{get_or-reverse}
use Rattle.std.proofs.lemmas.List.Elements.{All-weaker, All-cons, All-nil}
use Rattle.std.proofs.lemmas.List.Sums.{AllPass-from_list_all}
use Rattle.httparse.specs.Grammar.{Field, print_field, IsField, IsToken, AllPass, is_ows, skip_ows, trim_ows, is_value_byte, is_token_byte}
use Rattle.httparse.specs.Grammar as grammar
use Rattle.httparse.specs.Spans.{name_and_value}
use Rattle.httparse.proofs.TrimLemmas.{trim_ows_space}
use Rattle.url_key.specs.Text.{is_visible}
use Rattle.http_messages.specs.Field.{is_blank, is_trimmed}
use Rattle.http_writing.specs.Lines.{field_line}

-- A value without blanks at its ends is read back after a space

skip_first : (v : List ℕ) → is_ows (get_or v 0 0) ≡ false → skip_ows v ≡ v
skip_first [] other = refl
skip_first (b ∷ bs) other = rw other refl

pub trimmed_back : (v : List ℕ) → is_trimmed v ≡ true → trim_ows (32 ∷ v) ≡ v
trimmed_back [] trimmed = trim_ows_space [] refl refl
trimmed_back (b ∷ bs) trimmed =
    let v : List ℕ = b ∷ bs in
    let parts = and_parts (not (is_blank b)) (not (is_blank (get_or v (length v - 1) 0))) trimmed in
    let first : is_ows b ≡ false = not-true _ parts.0 in
    let last : is_ows (get_or v (length v - 1) 0) ≡ false = not-true _ parts.1 in
    let place : length v - 1 - 0 ≡ length v - 1 = omega arith in
    let back : get_or (reverse v) 0 0 ≡ get_or v (length v - 1) 0 = get_or-reverse v 0 0 (omega arith) ∙ ap (λ (k : ℕ). get_or v k 0) place in
    trim_ows_space v (skip_first v first) (skip_first (reverse v) (ap is_ows back ∙ last))

-- Visible texts

pub visible_no_blank : (b : ℕ) → is_visible b ≡ true → not (is_blank b) ≡ true
visible_no_blank b h = grind (arith, nat_tests)

visible_value_byte : (b : ℕ) → is_visible b ≡ true → is_value_byte b ≡ true
visible_value_byte b h = grind (arith, nat_tests)

pub visible_trimmed : (v : List ℕ) → list_all is_visible v ≡ true → is_trimmed v ≡ true
visible_trimmed [] visible = refl
visible_trimmed (b ∷ bs) visible =
    let v : List ℕ = b ∷ bs in
    let each = AllPass-from_list_all is_visible v visible in
    and_from (not (is_blank b)) (not (is_blank (get_or v (length v - 1) 0)))
    (visible_no_blank b (and_parts (is_visible b) (list_all is_visible bs) visible).0)
    (visible_no_blank (get_or v (length v - 1) 0) (each (length v - 1) 0 (omega arith)))

pub visible_value : (v : List ℕ) → list_all is_visible v ≡ true → AllPass is_value_byte v
visible_value v visible =
    All-weaker (λ b. is_visible b ≡ true) (λ b. is_value_byte b ≡ true) visible_value_byte v (AllPass-from_list_all is_visible v visible)

-- Names that are tokens

pub token_from : (name : List ℕ) → nat_lt 0 (length name) ≡ true → list_all is_token_byte name ≡ true → IsToken name
token_from name some all = (grind (arith, nat_tests), AllPass-from_list_all is_token_byte name all)

-- A name and a value that stand in a line as they are

pub record IsPlainPair (p : List ℕ × List ℕ) : Type 0 where
  pub name : IsToken p.0
  pub value : AllPass is_value_byte p.1
  pub trimmed : is_trimmed p.1 ≡ true

pub visible_pair : (name value : List ℕ) → IsToken name → list_all is_visible value ≡ true → IsPlainPair (name, value)
visible_pair name value token visible = record { name = token; value = visible_value value visible; trimmed = visible_trimmed value visible }

abbrev pub pair_line : List ℕ × List ℕ → List ℕ
pair_line p = field_line p.0 p.1

abbrev pub field_of : List ℕ × List ℕ → Field
field_of p = record { name = p.0; raw = 32 ∷ p.1; end = grammar.crlf }

abbrev pub ArePlain : List (List ℕ × List ℕ) → Type 0
ArePlain pairs = AllByRecursion IsPlainPair pairs

pub fields_read : (pairs : List (List ℕ × List ℕ)) → ArePlain pairs → map name_and_value (map field_of pairs) ≡ pairs
fields_read [] plain = refl
fields_read (p ∷ pairs) (this, others) = λ i. (p.0, trimmed_back p.1 this.trimmed i) ∷ fields_read pairs others i

pub fields_valid : (pairs : List (List ℕ × List ℕ)) → ArePlain pairs → All IsField (map field_of pairs)
fields_valid [] plain = All-nil IsField
fields_valid (p ∷ pairs) (this, others) =
    All-cons IsField (field_of p) (map field_of pairs)
    (record { name = this.name; raw = All-cons (λ b. is_value_byte b ≡ true) 32 p.1 refl this.value })
    (fields_valid pairs others)

pub fields_print : (pairs : List (List ℕ × List ℕ)) → flat_map print_field (map field_of pairs) ≡ flat_map pair_line pairs
fields_print [] = refl
fields_print (p ∷ pairs) =
    ap (λ (t : List ℕ). t ++ flat_map print_field (map field_of pairs)) (append_assoc p.0 (58 ∷ 32 ∷ p.1) (13 ∷ 10 ∷ []))
    ∙ ap (λ (t : List ℕ). pair_line p ++ t) (fields_print pairs)
