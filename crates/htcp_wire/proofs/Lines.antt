-- What the loops of `number_in` keep: the values found so far, and those of the lines that are
-- left, are those of the whole text.
use Rattle.std.proofs.Common.{◌≡◌, ℕ, ◌+◌, ◌-◌, ◌<◌, ◌≤◌, true, false, List, [], ◌∷◌, ◌++◌, length, take, drop, get_or, Option, Some, None, Err, refl, sym, ap}
use Rattle.std.proofs.Common.{subst, ◌∙◌, append_assoc, add-one, arith}
use Rattle.std.specs.Prelude.{option_to_list}
use Rattle.std.specs.List.{filter_map, cons_option, suffix_len}
use Rattle.std.proofs.Math.Seq.{drop-cons, drop-length}
use Rattle.std.proofs.lemmas.List.{append-nil, length-take, length-drop, get_or-drop, take_more, take-take}
use Rattle.htcp_wire.specs.declared.fault.HtcpFault.TheVariants.{BadNumber}
use Rattle.htcp_wire.specs.Numbers.{is_blank, ends_line, lines_behind, lines_of, number_of_values}

-- what a trim from the end keeps
pub record KeepsEnd (value : List ℕ) (end : ℕ) : Type 0 where
  pub within : end ≤ length value
  pub same : end + suffix_len is_blank value ≡ length value + suffix_len is_blank (take end value)

-- what stands before a place in its line
abbrev pub line_at : List ℕ → ℕ → ℕ → List ℕ
line_at text start end = take (end - start) (drop start text)

-- the values found, and those of the lines that are left, are those of the whole text
pub record KeepsLines (value : List ℕ → Option (List ℕ)) (text : List ℕ) (start end : ℕ) (found : List (List ℕ)) : Type 0 where
  pub within : start ≤ end
  pub same : found ++ filter_map value (lines_behind (line_at text start end) (drop end text)) ≡ filter_map value (lines_of text)

cons_option-append : {X : Type 0} (o : Option X) (xs : List X) → cons_option o xs ≡ option_to_list o ++ xs
cons_option-append None xs = refl
cons_option-append (Some x) xs = refl

-- one octet more of a line
pub within_line : (line text : List ℕ) (octet : ℕ) → ends_line line octet ≡ false → lines_behind line (octet ∷ text) ≡ lines_behind (line ++ octet ∷ []) text
unfolding lines_behind
within_line line text octet no_end = rw no_end refl

-- the end of a line
pub at_end : (line text : List ℕ) (octet : ℕ) → ends_line line octet ≡ true → lines_behind line (octet ∷ text) ≡ take (length line - 1) line
    ∷ lines_behind [] text
unfolding lines_behind
at_end line text octet here = rw here refl

pub one_line : (line : List ℕ) → lines_behind line [] ≡ line ∷ []
unfolding lines_behind
one_line line = refl

-- one octet more of a text
line_more : (text : List ℕ) (start end : ℕ) → start ≤ end → end < length text → line_at text start end ++ get_or text end 0 ∷ [] ≡ line_at text start (end + 1)
line_more text start end early inside =
    let place : start + (end - start) ≡ end = omega arith in
    let octet : get_or (drop start text) (end - start) 0 ≡ get_or text end 0 = rw get_or-drop (ap (λ (n : ℕ). get_or text n 0) place) in
    let past : end - start + 1 ≡ end + 1 - start = omega arith in
    ap (λ (o : ℕ). line_at text start end ++ o ∷ []) (sym octet)
    ∙ sym (take_more (drop start text) (end - start) 0 (omega (arith, length-drop start text)))
    ∙ ap (λ (n : ℕ). take n (drop start text)) past

rest_more : (text : List ℕ) (end : ℕ) → end < length text → drop end text ≡ get_or text end 0 ∷ drop (end + 1) text
rest_more text end inside = drop-cons text end 0 inside ∙ ap (λ (n : ℕ). get_or text end 0 ∷ drop n text) (sym (add-one end))

length-line_at : (text : List ℕ) (start end : ℕ) → start ≤ end → end ≤ length text → length (line_at text start end) ≡ end - start
length-line_at text start end early inside = omega (arith, length-take (end - start) (drop start text), length-drop start text)

pub KeepsLines-start : (value : List ℕ → Option (List ℕ)) (text : List ℕ) → KeepsLines value text 0 0 []
KeepsLines-start value text = record { within = omega arith; same = refl }

-- an octet that ends no line
pub KeepsLines-within : (value : List ℕ → Option (List ℕ)) (text : List ℕ) (start end : ℕ) (found : List (List ℕ)) → end < length text
    → ends_line (line_at text start end) (get_or text end 0) ≡ false → KeepsLines value text start end found → KeepsLines value text start (end + 1) found
KeepsLines-within value text start end found inside no_end keeps =
    let early : start ≤ end = keeps.within in
    let step : lines_behind (line_at text start end) (drop end text) ≡ lines_behind (line_at text start (end + 1)) (drop (end + 1) text) =
    ap (lines_behind (line_at text start end)) (rest_more text end inside)
    ∙ within_line (line_at text start end) (drop (end + 1) text) (get_or text end 0) no_end
    ∙ ap (λ (line : List ℕ). lines_behind line (drop (end + 1) text)) (line_more text start end early inside) in
    record { within = omega arith; same = ap (λ (lines : List (List ℕ)). found ++ filter_map value lines) (sym step) ∙ keeps.same }

-- the line that ends at an octet, without its CR
ended_line : (text : List ℕ) (start end : ℕ) → start ≤ end → end ≤ length text → take (length (line_at text start end) - 1) (line_at text start end) ≡ line_at
    text start (end - 1)
ended_line text start end early inside =
    let size = length-line_at text start end early inside in
    let short : length (line_at text start end) - 1 ≡ end - 1 - start = omega arith in
    ap (λ (n : ℕ). take n (line_at text start end)) short ∙ take-take (end - 1 - start) (end - start) (drop start text) (omega arith)

-- the line that ends here is the first of those that were left, so its value is the next that is found
pub KeepsLines-end : (value : List ℕ → Option (List ℕ)) (text : List ℕ) (start end : ℕ) (found : List (List ℕ)) → end < length text
    → ends_line (line_at text start end) (get_or text end 0) ≡ true → KeepsLines value text start end found
    → KeepsLines value text (end + 1) (end + 1) (found ++ option_to_list (value (line_at text start (end - 1))))
KeepsLines-end value text start end found inside here keeps =
    let early : start ≤ end = keeps.within in
    let line = line_at text start (end - 1) in
    let rest = drop (end + 1) text in
    let lines : lines_behind (line_at text start end) (drop end text) ≡ line ∷ lines_behind [] rest =
    ap (lines_behind (line_at text start end)) (rest_more text end inside)
    ∙ at_end (line_at text start end) rest (get_or text end 0) here
    ∙ ap (λ (l : List ℕ). l ∷ lines_behind [] rest) (ended_line text start end early (omega arith)) in
    let empty : line_at text (end + 1) (end + 1) ≡ [] = ap (λ (n : ℕ). take n (drop (end + 1) text)) (let none : end + 1 - (end + 1) ≡ 0 = omega arith in none)
    in
    let values : filter_map value (lines_behind (line_at text start end) (drop end text)) ≡ option_to_list (value line)
    ++ filter_map value (lines_behind [] rest) =
    ap (filter_map value) lines ∙ cons_option-append (value line) (filter_map value (lines_behind [] rest)) in
    record {
      within = omega arith;
      same = ap (λ (l : List ℕ). (found ++ option_to_list (value line)) ++ filter_map value (lines_behind l rest)) empty
          ∙ append_assoc found (option_to_list (value line)) (filter_map value (lines_behind [] rest))
          ∙ ap (λ (values : List (List ℕ)). found ++ values) (sym values)
          ∙ keeps.same;
    }

-- the last line
pub KeepsLines-last : (value : List ℕ → Option (List ℕ)) (text : List ℕ) (start : ℕ) (found : List (List ℕ))
    → KeepsLines value text start (length text) found → found ++ option_to_list (value (line_at text start (length text))) ≡ filter_map value (lines_of text)
KeepsLines-last value text start found keeps =
    let line = line_at text start (length text) in
    let last : lines_behind line (drop (length text) text) ≡ line ∷ [] = ap (lines_behind line) (drop-length text) ∙ one_line line in
    let values : filter_map value (lines_behind line (drop (length text) text)) ≡ option_to_list (value line) =
    ap (filter_map value) last ∙ cons_option-append (value line) [] ∙ append-nil (option_to_list (value line)) in
    ap (λ (v : List (List ℕ)). found ++ v) (sym values) ∙ keeps.same

pub two_values : (found more : List (List ℕ)) → length found ≡ 2 → number_of_values (found ++ more) ≡ Err BadNumber
two_values [] more two = absurd (omega arith)
two_values (first ∷ []) more two = absurd (omega arith)
two_values (first ∷ second ∷ others) more two = refl

-- ---- the loop's steps, by what its calls gave

-- a line that ends, whose value was added to those found
pub line_added : (value : List ℕ → Option (List ℕ)) (text : List ℕ) (start end : ℕ) (found last next : List (List ℕ)) → end < length text
    → ends_line (line_at text start end) (get_or text end 0) ≡ true → KeepsLines value text start end found
    → last ≡ option_to_list (value (line_at text start (end - 1))) → next ≡ found ++ last → KeepsLines value text (end + 1) (end + 1) next
line_added value text start end found last next inside here keeps last_is next_is =
    rw (next_is, last_is) (KeepsLines-end value text start end found inside here keeps)

-- a line that ends, whose value is the second
pub second_value : (value : List ℕ → Option (List ℕ)) (text : List ℕ) (start end : ℕ) (found last : List (List ℕ)) → end < length text
    → ends_line (line_at text start end) (get_or text end 0) ≡ true → KeepsLines value text start end found
    → last ≡ option_to_list (value (line_at text start (end - 1))) → length (found ++ last) ≡ 2 →
    number_of_values (filter_map value (lines_of text)) ≡ Err BadNumber
second_value value text start end found last inside here keeps last_is two =
    let step = line_added value text start end found last (found ++ last) inside here keeps last_is refl in
    sym (ap number_of_values step.same) ∙ two_values (found ++ last) _ two

-- the last line, once all octets were looked at
pub all_values : (value : List ℕ → Option (List ℕ)) (text : List ℕ) (start end : ℕ) (found last : List (List ℕ)) → end ≤ length text → length text ≤ end
    → KeepsLines value text start end found → last ≡ option_to_list (value (line_at text start (length text))) →
    found ++ last ≡ filter_map value (lines_of text)
all_values value text start end found last inside past keeps last_is =
    let all : end ≡ length text = omega arith in
    let whole : KeepsLines value text start (length text) found = subst (λ (n : ℕ). KeepsLines value text start n found) all keeps in
    ap (λ (l : List (List ℕ)). found ++ l) last_is ∙ KeepsLines-last value text start found whole

pub last_second_value : (values total : List (List ℕ)) → values ≡ total → length values ≡ 2 → number_of_values total ≡ Err BadNumber
last_second_value values total same two =
    sym (ap number_of_values same) ∙ ap number_of_values (sym (append-nil values)) ∙ two_values values [] two
