-- The words of a text are its first word and the words of what follows the space, so a loop that
-- cuts one word at a time finds them all.
use Rattle.std.proofs.Common.{◌≡◌, ℕ, suc, ◌+◌, ◌++◌, Bool, true, false, not, cond, nat_lt, List, [], ◌∷◌, length, Option, Some, None, refl, ap, sym, ◌∙◌}
use Rattle.std.proofs.Common.{append_assoc, if◌then◌else◌, arith}
use Rattle.std.specs.Prelude.{option_map, position}
use Rattle.std.specs.List.{position_or_len}
use Rattle.std.proofs.lemmas.Bool.Decides.{nat_tests}
use native.Mathlib.Numerals.{unary_clauses}
use Rattle.values_lines.specs.Words.{is_space, split_at, split_word, in_first, words_of}

-- the words, by the first of them and what follows it
abbrev pub words_by : List ℕ × Option (List ℕ) → List (List ℕ)
words_by (word, None) = word ∷ []
words_by (word, Some rest) = word ∷ words_of rest

-- an octet that is no space, in front
in_front : (c : ℕ) (cs : List ℕ) (p : Option ℕ) → in_first c (words_by (split_at p cs)) ≡ words_by (split_at (option_map suc p) (c ∷ cs))
in_front c cs None = refl
in_front c cs (Some n) = simp unary_clauses refl

-- a place, one further on
further : (within : Bool) (n : ℕ) → cond within (Some (1 + n)) None ≡ option_map suc (cond within (Some n) None)
further true n = ap Some (omega arith)
further false n = refl

same_test : (n m : ℕ) → nat_lt (1 + n) (suc m) ≡ nat_lt n m
same_test n m = grind (arith, nat_tests)

first_test : (m : ℕ) → nat_lt 0 (suc m) ≡ true
first_test m = grind (arith, nat_tests)

-- the place of the first space, where an octet stands in front
abbrev place_by : Bool → List ℕ → Option ℕ
place_by b cs = cond (nat_lt (cond (not b) (1 + position_or_len is_space cs) 0) (suc (length cs))) (Some (cond (not b) (1 + position_or_len is_space cs) 0))
    None

place_of_space : (cs : List ℕ) → place_by true cs ≡ Some 0
place_of_space cs = ap (λ t. cond t (Some 0) None) (first_test (length cs))

place_further : (cs : List ℕ) → place_by false cs ≡ option_map suc (position is_space cs)
place_further cs =
    ap (λ t. cond t (Some (1 + position_or_len is_space cs)) None) (same_test (position_or_len is_space cs) (length cs))
    ∙ further (nat_lt (position_or_len is_space cs) (length cs)) (position_or_len is_space cs)

-- an octet in front, which is a space or none
one_more : (b : Bool) (c : ℕ) (cs : List ℕ) → words_of cs ≡ words_by (split_word cs)
    → (if b then [] ∷ words_of cs else in_first c (words_of cs)) ≡ words_by (split_at (place_by b cs) (c ∷ cs))
one_more true c cs rest = sym (ap (λ p. words_by (split_at p (c ∷ cs))) (place_of_space cs))
one_more false c cs rest =
    ap (in_first c) rest ∙ in_front c cs (position is_space cs) ∙ sym (ap (λ p. words_by (split_at p (c ∷ cs))) (place_further cs))

-- the first word is cut off, and what follows it is cut likewise
pub words_from : (text : List ℕ) → words_of text ≡ words_by (split_word text)
words_from [] = refl
words_from (c ∷ cs) = one_more (is_space c) c cs (words_from cs)

-- one word more is cut off
pub words_next : (whole done : List (List ℕ)) (rest word others : List ℕ) →
    whole ≡ done ++ words_of rest → (word, Some others) ≡ split_word rest → whole ≡ (done ++ word ∷ []) ++ words_of others
words_next whole done rest word others so_far cut =
    so_far ∙ ap (λ w. done ++ w) (words_from rest ∙ ap words_by (sym cut)) ∙ sym (append_assoc done (word ∷ []) (words_of others))

-- the last word is cut off
pub words_last : (whole done : List (List ℕ)) (rest word : List ℕ) →
    whole ≡ done ++ words_of rest → (word, None) ≡ split_word rest → done ++ word ∷ [] ≡ whole
words_last whole done rest word so_far cut = sym (so_far ∙ ap (λ w. done ++ w) (words_from rest ∙ ap words_by (sym cut)))
