-- The octets that are read one after another, up to LF or to the end of the input, are its next line.
use Rattle.std.proofs.Common.{◌≡◌, ℕ, zero, suc, ◌+◌, ◌<◌, ◌≤◌, ◌==◌, true, false, cond, Option, Some, None, List, [], ◌∷◌, ◌++◌, length, take, refl, sym, ap}
use Rattle.std.proofs.Common.{◌∙◌, subst, arith, append_assoc, append-nil, length-append, length-take, take_all}
use Rattle.std.proofs.lemmas.Bool.Decides.{nat_tests}
use Rattle.std.proofs.lemmas.List.{take-append-le}
use Rattle.std.specs.Io.KnownBytes.{Consumes}
use Rattle.values_lines.specs.Lines.{newline, lines_of, in_first, is_long}
use Rattle.cluster_console.specs.declared.input.LineRead.{LineRead}
use Rattle.cluster_console.specs.declared.input.LineRead.TheVariants as taken
use Rattle.cluster_console.specs.Taking.{TakesOctet, TakesLine, IsLength, IsLast, HasNoEnd, Taking}

-- LF ends a line
line_ended : (front rest : List ℕ) → HasNoEnd front → lines_of (front ++ newline ∷ rest) ≡ front ∷ lines_of rest
line_ended [] rest none = refl
line_ended (octet ∷ front) rest none =
    ap (λ t. cond t ([] ∷ lines_of (front ++ newline ∷ rest)) (in_first octet (lines_of (front ++ newline ∷ rest)))) none.0
    ∙ ap (in_first octet) (line_ended front rest none.1)

-- so does the end of the input, behind an octet at least
line_left : (octet : ℕ) (front : List ℕ) → HasNoEnd (octet ∷ front) → lines_of (octet ∷ front) ≡ (octet ∷ front) ∷ []
line_left octet [] none = ap (λ t. cond t ([] ∷ []) ((octet ∷ []) ∷ [])) none.0
line_left octet (next ∷ front) none =
    ap (λ t. cond t ([] ∷ lines_of (next ∷ front)) (in_first octet (lines_of (next ∷ front)))) none.0
    ∙ ap (in_first octet) (line_left next front none.1)

-- one octet more that is not LF
no_end_more : (front : List ℕ) (octet : ℕ) → HasNoEnd front → (octet == newline) ≡ false → HasNoEnd (front ++ octet ∷ [])
no_end_more [] octet none other = (other, tt)
no_end_more (first ∷ front) octet none other = (none.0, no_end_more front octet none.1 other)

-- at most 140,000 octets were kept, so all were
all_kept : (front line : List ℕ) → line ≡ take 140001 front → length line ≤ 140000 → line ≡ front
all_kept front line kept short =
    let long : length line ≡ length (take 140001 front) = ap length kept in
    kept ∙ take_all 140001 front (omega (arith, long, length-take 140001 front))

-- the first 140,001 octets stay the same, once there are so many
more_kept : (front line : List ℕ) (octet : ℕ) → line ≡ take 140001 front → 140000 < length line → line ≡ take 140001 (front ++ octet ∷ [])
more_kept front line octet kept long =
    let all : length line ≡ length (take 140001 front) = ap length kept in
    kept ∙ sym (take-append-le 140001 front (octet ∷ []) (omega (arith, all, length-take 140001 front)))

-- an octet is kept while there are fewer
octet_kept : (front line : List ℕ) (octet : ℕ) → line ≡ take 140001 front → length line ≤ 140000 → line ++ octet ∷ [] ≡ take 140001 (front ++ octet ∷ [])
octet_kept front line octet kept short =
    let whole : line ≡ front = all_kept front line kept short in
    let few : length (front ++ octet ∷ []) ≤ 140001 = omega (arith, length-append front (octet ∷ []), ap length whole) in
    ap (λ l. l ++ octet ∷ []) whole ∙ sym (take_all 140001 (front ++ octet ∷ []) few)

-- nothing was read
pub taking_begins : (input : Option (List ℕ)) (line : List ℕ) → line ≡ [] → Taking input input line
taking_begins None line none = tt
taking_begins (Some xs) line none = record { front = []; is = refl; unended = tt; kept = none }

-- one octet more that is not LF was read, and kept
pub taking_kept : (input now after : Option (List ℕ)) (line more : List ℕ) (octet : ℕ) → Taking input now line → Consumes now after (octet ∷ []) →
    (octet == newline) ≡ false → length line ≤ 140000 → more ≡ line ++ octet ∷ [] → Taking input after more
taking_kept None now after line more octet on took other short is = tt
taking_kept (Some xs) None after line more octet on took other short is = absurd on
taking_kept (Some xs) (Some ys) None line more octet on took other short is = absurd took
taking_kept (Some xs) (Some ys) (Some zs) line more octet on took other short is = record {
  front = on.front ++ octet ∷ [];
  is = on.is ∙ ap (λ t. on.front ++ t) took ∙ sym (append_assoc on.front (octet ∷ []) zs);
  unended = no_end_more on.front octet on.unended other;
  kept = is ∙ octet_kept on.front line octet on.kept short;
}

-- one octet more that is not LF was read, and not kept
pub taking_dropped : (input now after : Option (List ℕ)) (line : List ℕ) (octet : ℕ) → Taking input now line → Consumes now after (octet ∷ []) →
    (octet == newline) ≡ false → 140000 < length line → Taking input after line
taking_dropped None now after line octet on took other long = tt
taking_dropped (Some xs) None after line octet on took other long = absurd on
taking_dropped (Some xs) (Some ys) None line octet on took other long = absurd took
taking_dropped (Some xs) (Some ys) (Some zs) line octet on took other long = record {
  front = on.front ++ octet ∷ [];
  is = on.is ∙ ap (λ t. on.front ++ t) took ∙ sym (append_assoc on.front (octet ∷ []) zs);
  unended = no_end_more on.front octet on.unended other;
  kept = more_kept on.front line octet on.kept long;
}

-- a line that is long enough is long
is_long_as : (front line : List ℕ) → line ≡ take 140001 front → is_long line ≡ true → is_long front ≡ true
is_long_as front line kept long =
    let all : length line ≡ length (take 140001 front) = ap length kept in
    let more : 140000 < length line = grind (arith, nat_tests) in
    let far : 140000 < length front = omega (arith, all, more, length-take 140001 front) in
    grind (arith, nat_tests)

short_line : (line : List ℕ) → is_long line ≡ false → length line ≤ 140000
short_line line short = grind (arith, nat_tests)

-- the lines of the input are the line and the lines of the rest
line_taken : (xs zs front line : List ℕ) (t : LineRead) → lines_of xs ≡ front ∷ lines_of zs → line ≡ take 140001 front → IsLength line t →
    TakesLine (Some xs) (Some zs) t line
line_taken xs zs front line taken.Line lines kept short =
    (lines ∙ ap (λ l. l ∷ lines_of zs) (sym (all_kept front line kept (short_line line short))), short)
line_taken xs zs front line taken.TooLong lines kept long = (front, lines, is_long_as front line kept long)
line_taken xs zs front line taken.End lines kept none = absurd none

-- LF was read
pub taken_at_end : (input now after : Option (List ℕ)) (line : List ℕ) (t : LineRead) → Taking input now line → Consumes now after (newline ∷ []) →
    IsLength line t → TakesLine input after t line
taken_at_end None now after line t on took is = tt
taken_at_end (Some xs) None after line t on took is = absurd on
taken_at_end (Some xs) (Some ys) None line t on took is = absurd took
taken_at_end (Some xs) (Some ys) (Some zs) line t on took is =
    line_taken xs zs on.front line t (ap lines_of (on.is ∙ ap (λ l. on.front ++ l) took) ∙ line_ended on.front zs on.unended) on.kept is

-- the end of the input was read, behind some octets
left_taken : (xs zs front line : List ℕ) (t : LineRead) → xs ≡ front → zs ≡ [] → HasNoEnd front → line ≡ take 140001 front → 0 < length line →
    IsLength line t → TakesLine (Some xs) (Some zs) t line
left_taken xs zs [] line t is none unended kept some measured =
    let all : line ≡ [] = kept in absurd (omega (arith, some, ap length all))
left_taken xs zs (octet ∷ front) line t is none unended kept some measured =
    line_taken xs zs (octet ∷ front) line t (ap lines_of is ∙ line_left octet front unended ∙ ap (λ l. (octet ∷ front) ∷ lines_of l) (sym none)) kept measured

some_taken : (input now after : Option (List ℕ)) (line : List ℕ) (t : LineRead) → Taking input now line → TakesOctet now after None →
    0 < length line → IsLength line t → TakesLine input after t line
some_taken None now after line t on took some is = tt
some_taken (Some xs) None after line t on took some is = absurd on
some_taken (Some xs) (Some ys) None line t on took some is = absurd took.0
some_taken (Some xs) (Some ys) (Some zs) line t on took some is =
    let none : ys ≡ [] = sym took.0 ∙ took.1 in
    left_taken xs zs on.front line t (on.is ∙ ap (λ l. on.front ++ l) none ∙ append-nil on.front) took.1 on.unended on.kept some is

-- nothing was kept, so there was nothing
nothing_kept : (n : ℕ) (front : List ℕ) → 0 < n → take n front ≡ [] → front ≡ []
nothing_kept n [] some none = refl
nothing_kept zero (octet ∷ front) some none = absurd (omega (arith, some))
nothing_kept (suc n) (octet ∷ front) some none = absurd cc

-- the end of the input was read, and nothing before it
nothing_left : (xs front line : List ℕ) → xs ≡ front → line ≡ take 140001 front → line ≡ [] → lines_of xs ≡ []
nothing_left xs front line is kept none = ap lines_of (is ∙ nothing_kept 140001 front (omega arith) (sym kept ∙ none))

nothing_taken : (input now after : Option (List ℕ)) (line : List ℕ) → Taking input now line → TakesOctet now after None → line ≡ [] →
    TakesLine input after taken.End line
nothing_taken None now after line on took none = tt
nothing_taken (Some xs) None after line on took none = absurd on
nothing_taken (Some xs) (Some ys) None line on took none = absurd took.0
nothing_taken (Some xs) (Some ys) (Some zs) line on took none =
    let end : ys ≡ [] = sym took.0 ∙ took.1 in
    nothing_left xs on.front line (on.is ∙ ap (λ l. on.front ++ l) end ∙ append-nil on.front) on.kept none

-- the end of the input was read
pub taken_at_last : (input now after : Option (List ℕ)) (line : List ℕ) (t : LineRead) → Taking input now line → TakesOctet now after None →
    IsLast line t → TakesLine input after t line
taken_at_last input now after [] t on took is = subst (λ x. TakesLine input after x []) (sym is) (nothing_taken input now after [] on took refl)
taken_at_last input now after (octet ∷ octets) t on took is = some_taken input now after (octet ∷ octets) t on took (omega arith) is

-- no octet was taken, or this one
pub no_octet : (old new : Option (List ℕ)) (found : Option ℕ) → ((octet : ℕ) → found ≡ Some octet → ⊥) → TakesOctet old new found → TakesOctet old new None
no_octet old new None none took = took
no_octet old new (Some octet) none took = absurd (none octet refl)

pub one_octet : (old new : Option (List ℕ)) (found : Option ℕ) (octet last : ℕ) → found ≡ Some octet → octet ≡ last → TakesOctet old new found →
    Consumes old new (last ∷ [])
one_octet old new found octet last is same took = subst (λ o. Consumes old new (o ∷ [])) same (subst (TakesOctet old new) is took)
