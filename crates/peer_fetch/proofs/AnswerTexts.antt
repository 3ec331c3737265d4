-- The head of a response's text says what was written: it is a head of the grammar within its
-- limits, and its fields give back status, kept fields, age, stamp and length.
use Rattle.std.proofs.Common.{◌≡◌, ℕ, ◌+◌, ◌≤◌, ◌==◌, ◌||◌, Bool, true, false, not, cond, List, [], ◌∷◌, ◌++◌, length, map, Option, Some, None, Ok, refl, sym}
use Rattle.std.proofs.Common.{ap, ap₂, ◌∙◌, subst, arith, append_assoc, length-append, codes, decimal, nat_le, unwrap_or}
use Rattle.std.specs.Prelude.{option_map, option_and_then}
use Rattle.std.specs.Option.{option_to_list}
use Rattle.std.specs.List.{list_all, flat_map, AllByRecursion}
use Rattle.std.specs.Str.Parse.{digits_value}
use Rattle.std.proofs.lemmas.Bool.{and_parts, leb-true, le-leb, eqb-true}
use Rattle.std.proofs.lemmas.List.{length-map, nil_from_length}
use Rattle.std.proofs.lemmas.List.Sums.{sum_by-cons}
use Rattle.std.proofs.lemmas.Fmt.{length-decimal-le}
use Rattle.httparse.specs.Grammar.{ResponseHead, ReadsResponse}
use Rattle.http_messages.specs.Field.{FieldText, is_kept_field, are_few_fields, line_length, lines_length}
use Rattle.http_messages.specs.Answer.{AnswerText, has_no_body, is_body_of}
use Rattle.http_writing.specs.Name.{is_name}
use Rattle.http_writing.specs.Lines.{crlf, number_line, last_lines}
use Rattle.http_writing.specs.Answer.{answer_text, status_line, kept_line, kept_lines, number_lines, told_length}
use Rattle.http_reading.specs.declared.framing.Framing.{Framing}
use Rattle.http_reading.specs.declared.framing.Framing.TheVariants.{Length}
use Rattle.http_reading.specs.Fields.{first_of, only_of}
use Rattle.http_reading.specs.Decimal.{number_up_to, plain_number}
use Rattle.http_reading.specs.Framing.{framing, framing_told, coding_told, length_told}
use Rattle.http_reading.specs.AnswerFields.{age, age_in, stamp}
use Rattle.http_reading.specs.Kept.{kept}
use Rattle.http_reading.specs.AnswerHead.{ToldText, parts_of, is_final, some_framing, framing_by, told}
use Rattle.peer_fetch.specs.Writable.{IsWritableAnswer}
use Rattle.peer_fetch.proofs.Pairs.{ArePlain, pair_line, field_of, fields_read}
use Rattle.peer_fetch.proofs.Heads.{response_of, response_reads}
use Rattle.peer_fetch.proofs.Decimals.{digits_all, value_back, plain_back, up_to_back, first_back, length_back, three_digits}
use Rattle.peer_fetch.proofs.AskFields.{number_pairs, name_text}
use Rattle.peer_fetch.proofs.AskTexts.{length-field_line, number_few, last_short}
use Rattle.peer_fetch.proofs.AnswerFields.{pair_of, answer_pairs, answer_lines, answer_plain, IsPlainField, plain_fields, SaysOwn, pairs_say, kept_back}

-- What a response that can be written is

pub record Parts (a : AnswerText) : Type 0 where
  pub low : 200 ≤ a.status
  pub high : a.status ≤ 599
  pub fields : AllByRecursion IsPlainField a.fields
  pub few : are_few_fields a.fields ≡ true
  pub age : unwrap_or a.age 0 ≤ 2147483648
  pub stamp : unwrap_or a.stamp 0 ≤ 4294967295
  pub short : length a.body ≤ 65536
  pub empty : has_no_body a.status ≡ true → a.body ≡ []

no_octets : (b : Bool) (body : List ℕ) → (not b || (length body == 0)) ≡ true → b ≡ true → body ≡ []
no_octets true body h is = nil_from_length body (eqb-true (length body) 0 h)
no_octets false body h is = cc

pub parts : (a : AnswerText) → IsWritableAnswer a → Parts a
parts a writable =
    let six = and_parts _ (is_body_of a.status a.body) writable.writable in
    let five = and_parts _ (nat_le (unwrap_or a.age 0) 2147483648) six.0 in
    let four = and_parts _ (are_few_fields a.fields) five.0 in
    let three = and_parts _ (list_all is_kept_field a.fields) four.0 in
    let two = and_parts (nat_le 200 a.status) (nat_le a.status 599) three.0 in
    let body = and_parts (nat_le (length a.body) 65536) (not (has_no_body a.status) || (length a.body == 0)) six.1 in
    record {
      low = leb-true 200 a.status two.0;
      high = leb-true a.status 599 two.1;
      fields = plain_fields a.fields writable.fields three.1;
      few = four.1;
      age = leb-true (unwrap_or a.age 0) 2147483648 five.1;
      stamp = writable.stamp;
      short = leb-true (length a.body) 65536 body.0;
      empty = no_octets (has_no_body a.status) a.body body.1;
    }

-- The text is a head and the body

abbrev pub pairs_of : AnswerText → List ℕ → List (List ℕ × List ℕ)
pairs_of a via = answer_pairs a.fields a.age a.stamp (told_length a) via

abbrev pub head_of : AnswerText → List ℕ → ResponseHead
head_of a via = response_of a.status (pairs_of a via)

abbrev pub head_text : AnswerText → List ℕ → List ℕ
head_text a via = status_line a.status ++ (flat_map pair_line (pairs_of a via) ++ crlf)

pub text_is : (a : AnswerText) (via : List ℕ) → answer_text a via ≡ head_text a via ++ a.body
text_is a via =
    let s : List ℕ = status_line a.status in
    let k : List ℕ = kept_lines a.fields in
    let n : List ℕ = number_lines a.age a.stamp (told_length a) in
    append_assoc s k (n ++ (last_lines via ++ (crlf ++ a.body)))
    ∙ ap (λ (t : List ℕ). s ++ t) (sym (answer_lines a.fields a.age a.stamp (told_length a) via (crlf ++ a.body)))
    ∙ regroup s (flat_map pair_line (pairs_of a via)) a.body
  where
    regroup : (s f b : List ℕ) → s ++ (f ++ (crlf ++ b)) ≡ (s ++ (f ++ crlf)) ++ b
    regroup s f b = simp append_assoc

small_length : (b : Bool) (n : ℕ) → n ≤ 65536 → unwrap_or (cond b None (Some n)) 0 ≤ 65536
small_length true n fits = omega arith
small_length false n fits = fits

pub pairs_plain : (a : AnswerText) (via : List ℕ) → Parts a → is_name via ≡ true → ArePlain (pairs_of a via)
pairs_plain a via p name =
    let age_small = p.age in
    let stamp_small = p.stamp in
    let length_small : unwrap_or (told_length a) 0 ≤ 65536 = small_length (has_no_body a.status) (length a.body) p.short in
    answer_plain a.fields a.age a.stamp (told_length a) via p.fields (omega arith) (omega arith) (omega arith) (name_text via name)

pub head_reads : (a : AnswerText) (via rest : List ℕ) → Parts a → is_name via ≡ true → ReadsResponse (head_text a via ++ rest) (head_of a via) rest
head_reads a via rest p name =
    let low = p.low in
    let high = p.high in
    let shape : head_text a via ++ rest ≡ status_line a.status ++ (flat_map pair_line (pairs_of a via) ++ (crlf ++ rest)) =
    regroup (status_line a.status) (flat_map pair_line (pairs_of a via)) rest in
    subst (λ (t : List ℕ). ReadsResponse t (head_of a via) rest) (sym shape)
    (response_reads a.status (pairs_of a via) rest (three_digits a.status (omega arith) (omega arith)) (digits_all a.status (omega arith))
    (pairs_plain a via p name))
  where
    regroup : (s f t : List ℕ) → (s ++ (f ++ crlf)) ++ t ≡ s ++ (f ++ (crlf ++ t))
    regroup s f t = simp append_assoc

-- It is within the limits

number_short : (name : List ℕ) (n : Option ℕ) → unwrap_or n 0 ≤ 4294967295 → length (number_line name n) ≤ length name + 14
number_short name None small = omega arith
number_short name (Some n) small =
    let line = length-field_line name (decimal n) in
    let few = length-decimal-le 10 n (omega arith) (omega arith) (omega arith) in
    omega (arith, line, few)

kept_short : (fields : List FieldText) → length (kept_lines fields) ≡ lines_length fields
kept_short [] = refl
kept_short (f ∷ fields) =
    let whole : length (kept_line f ++ kept_lines fields) ≡ length (kept_line f) + length (kept_lines fields) =
    length-append (kept_line f) (kept_lines fields) in
    let line : length (kept_line f) ≡ length f.name + length f.value + 4 = length-field_line f.name f.value in
    whole ∙ ap₂ (λ (x y : ℕ). x + y) line (kept_short fields) ∙ sym (sum_by-cons line_length f fields)

-- the head has at most 16,384 octets: the kept lines and a few short ones
pub head_short : (a : AnswerText) (via : List ℕ) → Parts a → is_name via ≡ true → length (head_text a via) ≤ 16384
head_short a via p name =
    let s : List ℕ = status_line a.status in
    let k : List ℕ = kept_lines a.fields in
    let A : List ℕ = number_line (codes "age") a.age in
    let S : List ℕ = number_line (codes "x-purge-stamp") a.stamp in
    let L : List ℕ = number_line (codes "content-length") (told_length a) in
    let n : List ℕ = number_lines a.age a.stamp (told_length a) in
    let l : List ℕ = last_lines via in
    let low = p.low in
    let high = p.high in
    let age_small = p.age in
    let stamp_small = p.stamp in
    let length_small : unwrap_or (told_length a) 0 ≤ 65536 = small_length (has_no_body a.status) (length a.body) p.short in
    let status_size : length (decimal a.status ++ (codes " " ++ crlf)) ≡ length (decimal a.status) + 3 = length-append (decimal a.status) (codes " " ++ crlf) in
    let digits = three_digits a.status (omega arith) (omega arith) in
    let s_size : length s ≡ 15 = omega (arith, status_size, digits) in
    let few : lines_length a.fields ≤ 16000 = leb-true (lines_length a.fields) 16000
    (and_parts (nat_le (length a.fields) 56) (nat_le (lines_length a.fields) 16000) p.few).1 in
    let kept_size = kept_short a.fields in
    let A_size = number_short (codes "age") a.age (omega arith) in
    let S_size = number_short (codes "x-purge-stamp") a.stamp stamp_small in
    let L_size = number_short (codes "content-length") (told_length a) (omega arith) in
    let l_size = last_short via (name_text via name) in
    let n_size : length n ≡ length A + length (S ++ L) = length-append A (S ++ L) in
    let SL_size = length-append S L in
    let lines : length (flat_map pair_line (pairs_of a via) ++ crlf) ≡ length (k ++ (n ++ (l ++ crlf))) =
    ap length (answer_lines a.fields a.age a.stamp (told_length a) via crlf) in
    let one = length-append k (n ++ (l ++ crlf)) in
    let two = length-append n (l ++ crlf) in
    let three = length-append l crlf in
    let whole = length-append s (flat_map pair_line (pairs_of a via) ++ crlf) in
    omega (arith, s_size, few, kept_size, A_size, S_size, L_size, l_size, n_size, SL_size, lines, one, two, three, whole)

pub pairs_few : (a : AnswerText) (via : List ℕ) → Parts a → length (map field_of (pairs_of a via)) ≤ 64
pairs_few a via p =
    let few : length a.fields ≤ 56 = leb-true (length a.fields) 56 (and_parts (nat_le (length a.fields) 56) (nat_le (lines_length a.fields) 16000) p.few).0 in
    let E : List (List ℕ × List ℕ) = (codes "connection", codes "close") ∷ (codes "via", codes "1.1 " ++ via) ∷ [] in
    let A : List (List ℕ × List ℕ) = number_pairs (codes "age") a.age in
    let S : List (List ℕ × List ℕ) = number_pairs (codes "x-purge-stamp") a.stamp in
    let L : List (List ℕ × List ℕ) = number_pairs (codes "content-length") (told_length a) in
    let size = length-map (pairs_of a via) field_of in
    let kept_size = length-map a.fields pair_of in
    let one = length-append (map pair_of a.fields) (A ++ (S ++ (L ++ E))) in
    let two = length-append A (S ++ (L ++ E)) in
    let three = length-append S (L ++ E) in
    let four = length-append L E in
    let A_few = number_few (codes "age") a.age in
    let S_few = number_few (codes "x-purge-stamp") a.stamp in
    let L_few = number_few (codes "content-length") (told_length a) in
    omega (arith, few, size, kept_size, one, two, three, four, A_few, S_few, L_few)

-- It tells what was written

abbrev pub framing_of : AnswerText → Option Framing
framing_of a = cond (has_no_body a.status) None (Some (Length (length a.body)))

abbrev pub told_of : AnswerText → ToldText
told_of a = record { status = a.status; fields = a.fields; age = a.age; stamp = a.stamp; framing = framing_of a }

age_back : (n : Option ℕ) → unwrap_or n 0 ≤ 2147483648 → option_and_then age_in (first_of (option_to_list (option_map decimal n))) ≡ n
age_back None small = refl
age_back (Some n) small = ap (number_up_to 2147483648) (first_back n (omega arith)) ∙ up_to_back 2147483648 n small (omega arith)

stamp_back : (n : Option ℕ) → unwrap_or n 0 ≤ 4294967295 → option_and_then (plain_number 0 4294967295) (only_of (option_to_list (option_map decimal n))) ≡ n
stamp_back None small = refl
stamp_back (Some n) small = plain_back 0 4294967295 n (omega arith) small (omega arith)

framing_back : (b : Bool) (n : ℕ) → n ≤ 65536
    → cond b (Ok None) (some_framing (framing_told (Ok false) (length_told (option_to_list (option_map decimal (cond b None (Some n))))))) ≡ Ok
    (cond b None (Some (Length n)))
framing_back true n fits = refl
framing_back false n fits = rw (length_back n fits, le-leb n 65536 fits) refl

told_made : ℕ → List FieldText → Option ℕ → Option ℕ → Option Framing → ToldText
told_made status fields age stamp framing = record { status = status; fields = fields; age = age; stamp = stamp; framing = framing }

final_is : (status : ℕ) → 200 ≤ status → status ≤ 599 → is_final status ≡ true
final_is status low high = rw (le-leb 200 status low, le-leb status 599 high) refl

told_by : (a : AnswerText) (pairs : List (List ℕ × List ℕ)) → Parts a → SaysOwn pairs a.age a.stamp (told_length a) → kept pairs ≡ a.fields →
    told (record { status = a.status; minor = 1; fields = pairs }) ≡ Ok (told_of a)
unfolding told_made
told_by a pairs p says kept_is =
    let coded : framing pairs ≡ framing_told (Ok false) (length_told (option_to_list (option_map decimal (told_length a)))) =
    ap₂ (λ cs ls. framing_told (coding_told cs) (length_told ls)) says.coding says.lengths in
    let framed_is : framing_by a.status 1 pairs ≡ Ok (framing_of a) =
    ap (λ f. cond (has_no_body a.status) (Ok None) (some_framing f)) coded ∙ framing_back (has_no_body a.status) (length a.body) p.short in
    let few : are_few_fields (kept pairs) ≡ true = ap are_few_fields kept_is ∙ p.few in
    let ages : age pairs ≡ a.age = ap (λ vs. option_and_then age_in (first_of vs)) says.ages ∙ age_back a.age p.age in
    let stamps : stamp pairs ≡ a.stamp = ap (λ vs. option_and_then (plain_number 0 4294967295) (only_of vs)) says.stamps ∙ stamp_back a.stamp p.stamp in
    let made : told_made a.status (kept pairs) (age pairs) (stamp pairs) (framing_of a) ≡ told_made a.status a.fields a.age a.stamp (framing_of a) =
    ap (λ fs. told_made a.status fs (age pairs) (stamp pairs) (framing_of a)) kept_is
    ∙ ap (λ n. told_made a.status a.fields n (stamp pairs) (framing_of a)) ages
    ∙ ap (λ n. told_made a.status a.fields a.age n (framing_of a)) stamps in
    rw (final_is a.status p.low p.high, few, framed_is) (ap Ok made)

pub head_tells : (a : AnswerText) (via : List ℕ) → Parts a → is_name via ≡ true → told (parts_of (head_of a via)) ≡ Ok (told_of a)
head_tells a via p name =
    let high = p.high in
    let code : digits_value 10 (decimal a.status) ≡ a.status = value_back a.status (omega arith) in
    let read = fields_read (pairs_of a via) (pairs_plain a via p name) in
    ap₂ (λ (s : ℕ) (fs : List (List ℕ × List ℕ)). told (record { status = s; minor = 1; fields = fs })) code read
    ∙ told_by a (pairs_of a via) p (pairs_say a.fields a.age a.stamp (told_length a) via p.fields)
    (kept_back a.fields a.age a.stamp (told_length a) via p.fields)
