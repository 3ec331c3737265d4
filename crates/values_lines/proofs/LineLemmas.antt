-- Lines at the front of an input: what is held and what is not yet read are together the input, so
-- the first LF that is held ends its first line.
use Rattle.std.proofs.Common.{◌≡◌, ◌≢◌, ℕ, suc, ◌+◌, ◌<◌, ◌≤◌, true, false, Bool, cond, Option, Some, None, Result, Ok, Err, IfOk, IfErr, MatchBool, List, []}
use Rattle.std.proofs.Common.{◌∷◌, ◌++◌, length, take, drop, refl, sym, ap, ◌∙◌, subst, arith, append_assoc, append-nil, length-append, take-append-drop}
use Rattle.std.proofs.Common.{ne_eqb}
use Rattle.std.proofs.lemmas.Bool.{lt-ltb, le-ltb}
use Rattle.std.proofs.lemmas.List.{get_or-take, length-take, drop_more}
use Rattle.std.specs.Io.KnownBytes.{IsAtEnd}
use Rattle.std.proofs.KnownBytes.{Consumes-trans}
use Rattle.values_lines.specs.declared.fault.RunFault.{RunFault}
use Rattle.values_lines.specs.declared.fault.RunFault.TheVariants.{LineTooLong}
use Rattle.values_lines.specs.Lines.{newline, lines_of, in_first, is_long, begins_long}
use Rattle.values_lines.specs.Reading.{Takes, HasNoEnd, EndsAt, TakesLine, TakesNone, FailsToTake}

-- a line, its end, and what follows it
lines_of-line : (line rest : List ℕ) → HasNoEnd (length line) line → lines_of (line ++ newline ∷ rest) ≡ line ∷ lines_of rest
lines_of-line [] rest none = refl
lines_of-line (b ∷ line) rest none =
    let shorter = lines_of-line line rest (λ k lt. none (suc k) (omega arith)) in
    ap (λ t. cond t ([] ∷ lines_of (line ++ newline ∷ rest)) (in_first b (lines_of (line ++ newline ∷ rest)))) (ne_eqb b newline (none 0 (omega arith)))
    ∙ ap (in_first b) shorter

-- a line that no end follows yet, whatever follows it
record StartsWith (front : List ℕ) (lines : List (List ℕ)) : Type 0 where
  tail : List ℕ
  others : List (List ℕ)
  is : lines ≡ (front ++ tail) ∷ others

first_with : (b : ℕ) (lines : List (List ℕ)) → StartsWith (b ∷ []) (in_first b lines)
first_with b [] = record { tail = []; others = []; is = refl }
first_with b (line ∷ lines) = record { tail = line; others = lines; is = refl }

lines_of-open : (line rest : List ℕ) → 0 < length line → HasNoEnd (length line) line → StartsWith line (lines_of (line ++ rest))
lines_of-open [] rest some none = absurd (omega arith)
lines_of-open (b ∷ []) rest some none =
    let first = first_with b (lines_of rest) in
    record {
      tail = first.tail;
      others = first.others;
      is = ap (λ t. cond t ([] ∷ lines_of rest) (in_first b (lines_of rest))) (ne_eqb b newline (none 0 (omega arith))) ∙ first.is;
    }
lines_of-open (b ∷ c ∷ line) rest some none =
    let shorter = lines_of-open (c ∷ line) rest (omega arith) (λ k lt. none (suc k) (omega arith)) in
    record {
      tail = shorter.tail;
      others = shorter.others;
      is = ap (λ t. cond t ([] ∷ lines_of ((c ∷ line) ++ rest)) (in_first b (lines_of ((c ∷ line) ++ rest)))) (ne_eqb b newline (none 0 (omega arith)))
          ∙ ap (in_first b) shorter.is;
    }

-- the last line, without an end
lines_of-last : (line : List ℕ) → line ≢ [] → HasNoEnd (length line) line → lines_of line ≡ line ∷ []
lines_of-last [] some none = absurd (some refl)
lines_of-last (b ∷ []) some none =
    ap (λ t. cond t ([] ∷ []) ((b ∷ []) ∷ [])) (ne_eqb b newline (none 0 (omega arith)))
lines_of-last (b ∷ c ∷ line) some none =
    ap (λ t. cond t ([] ∷ lines_of (c ∷ line)) (in_first b (lines_of (c ∷ line)))) (ne_eqb b newline (none 0 (omega arith)))
    ∙ ap (in_first b) (lines_of-last (c ∷ line) (λ e. cc) (λ k lt. none (suc k) (omega arith)))

-- what is held, cut at its first end
cut : (n : ℕ) (held : List ℕ) → EndsAt n held → held ≡ take n held ++ newline ∷ drop (n + 1) held
cut n held at =
    sym (take-append-drop n held) ∙ ap (λ rest. take n held ++ rest) (drop_more held n 0 at.0 ∙ ap (λ b. b ∷ drop (n + 1) held) at.1)

front_open : (n : ℕ) (held : List ℕ) → n ≤ length held → HasNoEnd n held → HasNoEnd (length (take n held)) (take n held)
front_open n held within none k lt =
    let small : k < n = omega (arith, length-take n held) in
    λ e. none k small (sym (get_or-take n held k 0 small) ∙ e)

-- the input before a read is the input after it
joined : (old piece new rest : List ℕ) → new ≡ old ++ piece → old ++ (piece ++ rest) ≡ new ++ rest
joined old piece new rest is = sym (append_assoc old piece rest) ∙ ap (λ t. t ++ rest) (sym is)

pub takes_line : (old : List ℕ) (before : Option (List ℕ)) (held : List ℕ) (after : Option (List ℕ)) (n : ℕ) → Takes old before held after → EndsAt n held →
    n ≤ 140000 → TakesLine old before (drop (n + 1) held) after (take n held)
takes_line old None held after n took at short = tt
takes_line old (Some xs) held None n took at short = took.2
takes_line old (Some xs) held (Some ys) n took at short =
    let whole : old ++ xs ≡ take n held ++ newline ∷ (drop (n + 1) held ++ ys) =
    ap (λ t. old ++ t) took.2 ∙ joined old took.0 held ys took.1 ∙ ap (λ t. t ++ ys) (cut n held at)
    ∙ append_assoc (take n held) (newline ∷ drop (n + 1) held) ys in
    let within : n ≤ length held = omega (arith, at.0) in
    (ap lines_of whole ∙ lines_of-line (take n held) (drop (n + 1) held ++ ys) (front_open n held within at.2), le-ltb _ _ (omega (arith, length-take n held)))

-- a line that has more octets already than a line may have
long_line : (front : List ℕ) (lines : List (List ℕ)) → StartsWith front lines → 140000 < length front → begins_long lines ≡ true
long_line front lines starts long =
    let first : is_long (front ++ starts.tail) ≡ true = lt-ltb _ _ (omega (arith, length-append front starts.tail)) in
    ap begins_long starts.is ∙ first

-- what is held has no end so far: the line that it begins is too long, if it is
pub fails_open : (old : List ℕ) (before : Option (List ℕ)) (held : List ℕ) (after : Option (List ℕ)) (n : ℕ) (fault : RunFault) → Takes old before held after →
    n ≤ length held → HasNoEnd n held → (fault ≡ LineTooLong → 140000 < n) → FailsToTake old before fault
fails_open old None held after n fault took within none long = tt
fails_open old (Some xs) held None n fault took within none long = absurd took.2
fails_open old (Some xs) held (Some ys) n fault took within none long = λ e.
    let front = take n held in
    let size : length front ≡ n = omega (arith, length-take n held, within) in
    let whole : old ++ xs ≡ front ++ (drop n held ++ ys) =
    ap (λ t. old ++ t) took.2 ∙ joined old took.0 held ys took.1 ∙ ap (λ t. t ++ ys) (sym (take-append-drop n held)) ∙ append_assoc front (drop n held) ys in
    let over : 140000 < length front = omega (arith, size, long e) in
    ap (λ t. begins_long (lines_of t)) whole
    ∙ long_line front (lines_of (front ++ (drop n held ++ ys))) (lines_of-open front (drop n held ++ ys) (omega arith) (front_open n held within none)) over

-- at the end of the input, what is held is the last line, if it is not empty
pub takes_rest : (old : List ℕ) (before : Option (List ℕ)) (held : List ℕ) (after : Option (List ℕ)) → Takes old before held after → IsAtEnd after →
    HasNoEnd (length held) held → held ≢ [] → length held ≤ 140000 → TakesLine old before [] after held
takes_rest old None held after took ended none some short = tt
takes_rest old (Some xs) held None took ended none some short = took.2
takes_rest old (Some xs) held (Some ys) took ended none some short =
    let whole : old ++ xs ≡ held =
    ap (λ t. old ++ t) took.2 ∙ joined old took.0 held ys took.1 ∙ ap (λ t. held ++ t) ended ∙ append-nil held in
    (ap lines_of whole ∙ lines_of-last held some none ∙ ap (λ t. held ∷ lines_of t) (sym ended), le-ltb _ _ (omega arith))

pub takes_none : (old : List ℕ) (before : Option (List ℕ)) (held : List ℕ) (after : Option (List ℕ)) → Takes old before held after → IsAtEnd after → held ≡ [] →
    TakesNone old before
takes_none old None held after took ended none = tt
takes_none old (Some xs) held None took ended none = absurd took.2
takes_none old (Some xs) held (Some ys) took ended none =
    ap lines_of (ap (λ t. old ++ t) took.2 ∙ joined old took.0 held ys took.1 ∙ ap (λ t. t ++ ys) none ∙ ended)

-- one read after another
pub takes_then : (old : List ℕ) (before : Option (List ℕ)) (held : List ℕ) (middle : Option (List ℕ)) (new : List ℕ) (after : Option (List ℕ)) →
    Takes old before held middle → Takes held middle new after → Takes old before new after
takes_then old before held middle new after (first, first_is, first_read) (second, second_is, second_read) = (
  first ++ second,
  second_is ∙ ap (λ t. t ++ second) first_is ∙ append_assoc old first second,
  Consumes-trans before middle after first second first_read second_read,
)

-- what `take_line` did, as what it took from the input
pub line_taken : (old : List ℕ) (before : Option (List ℕ)) (held : List ℕ) (after : Option (List ℕ)) (n : ℕ) (line rest : List ℕ) (r : Result Bool RunFault) →
    Takes old before held after → EndsAt n held
    → IfOk r (λ found. (found ≡ true) × (n ≤ 140000) × (line ≡ take n held) × (rest ≡ drop (n + 1) held))
    → IfOk r (λ found. MatchBool found (TakesLine old before rest after line) (TakesNone old before))
line_taken old before held after n line rest (Err fault) took at ok = tt
line_taken old before held after n line rest (Ok false) took at ok = absurd cc
line_taken old before held after n line rest (Ok true) took at ok =
    rw (ok.2, ok.3) (takes_line old before held after n took at ok.1)

-- the fault of `take_line`
pub line_fails : (old : List ℕ) (before : Option (List ℕ)) (held : List ℕ) (after : Option (List ℕ)) (n : ℕ) (r : Result Bool RunFault) →
    Takes old before held after → EndsAt n held
    → IfErr r (λ fault. fault ≡ LineTooLong → 140000 < n) → IfErr r (FailsToTake old before)
line_fails old before held after n (Ok found) took at err = tt
line_fails old before held after n (Err fault) took at err =
    let first = at.0 in
    fails_open old before held after n fault took (omega arith) at.2 err

-- what `take_rest` did at the end of the input
pub rest_taken : (old : List ℕ) (before : Option (List ℕ)) (held now : List ℕ) (after : Option (List ℕ)) (line rest : List ℕ) (r : Result Bool RunFault) →
    Takes old before now after → IsAtEnd after → now ≡ held → HasNoEnd (length held) held → length held ≤ 140000
    → IfOk r (λ found. MatchBool found ((line ≡ now) × (now ≢ []) × (rest ≡ [])) (now ≡ []))
    → IfOk r (λ found. MatchBool found (TakesLine old before rest after line) (TakesNone old before))
rest_taken old before held now after line rest (Err fault) took ended same none short ok = tt
rest_taken old before held now after line rest (Ok true) took ended same none short ok =
    rw (ok.0, ok.2) (takes_rest old before now after took ended (subst (λ t. HasNoEnd (length t) t) (sym same) none) ok.1 (omega (arith, ap length same)))
rest_taken old before held now after line rest (Ok false) took ended same none short ok = takes_none old before now after took ended ok

-- the fault of a line that is too long, before its end came
pub open_fails : (old : List ℕ) (before : Option (List ℕ)) (held : List ℕ) (after : Option (List ℕ)) → Takes old before held after →
    HasNoEnd (length held) held → 140000 < length held → FailsToTake old before LineTooLong
open_fails old before held after took none long = fails_open old before held after (length held) LineTooLong took (omega arith) none (λ _. long)
