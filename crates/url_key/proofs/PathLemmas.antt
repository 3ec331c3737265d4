-- The path that a URI of the absolute form shows begins with a slash: it did in the text, or
-- http_uri put the slash there.
use Rattle.std.proofs.Common.{◌≡◌, ℕ, zero, suc, ◌+◌, ◌<◌, Bool, true, false, not, ◌||◌, cond, List, [], ◌∷◌, length, take, get_or, refl, sym, ap, ◌∙◌, subst}
use Rattle.std.proofs.Common.{inl, inr, arith, codes, ◌⊎◌}
use Rattle.std.proofs.lemmas.Bool.{cases_lt, ne_eqb}
use Rattle.std.proofs.lemmas.List.{get_or-take}
use Rattle.http_uri.specs.ByteClasses.{is_delimiter, index_of}
use Rattle.http_uri.specs.Grammar.{IsTail, path_of, or_slash, without_fragment}
use Rattle.std.proofs.Math.Numerals.{one-add}

-- a URI that has a scheme shows its path
pub shows_path : (none : Bool) (path : List ℕ) → cond (not none || true) path [] ≡ path
shows_path true path = refl
shows_path false path = refl

abbrev FirstIsSlash : List ℕ → Type 0
FirstIsSlash path = (0 < length path) × (get_or path 0 0 ≡ 47)

slash_front : (n : ℕ) (rest : List ℕ) → FirstIsSlash (or_slash (take (1 + n) (47 ∷ rest)))
slash_front n rest = rw (one-add n, ne_eqb (length (47 ∷ take n rest)) 0 (omega arith)) (omega arith, refl)

-- what is shown of a path and query that begin with a slash or a question mark, or are empty
shown_first : (kept : List ℕ) → (kept ≡ []) ⊎ ((get_or kept 0 0 ≡ 47) ⊎ (get_or kept 0 0 ≡ 63)) → FirstIsSlash (path_of kept)
shown_first [] start = (omega arith, refl)
shown_first (b ∷ rest) (inl none) = absurd cc
shown_first (b ∷ rest) (inr (inl slash)) = subst (λ c. FirstIsSlash (path_of (c ∷ rest))) (sym slash) (slash_front (index_of 63 rest) rest)
shown_first (b ∷ rest) (inr (inr mark)) = subst (λ c. FirstIsSlash (path_of (c ∷ rest))) (sym mark) (omega arith, refl)

-- what is no delimiter begins no tail
no_asterisk : (tail : List ℕ) → is_delimiter (get_or tail 0 0) ≡ true → without_fragment tail ≡ codes "*" → zero ≡ suc zero
no_asterisk tail starts is = elim (cases_lt 0 (index_of 35 tail)) [
  | inl some ↦
      let first : get_or tail 0 0 ≡ 42 = sym (get_or-take (index_of 35 tail) tail 0 0 some) ∙ ap (λ t. get_or t 0 0) is in
      let bad : is_delimiter 42 ≡ true = ap is_delimiter (sym first) ∙ starts in
      cc
  | inr none ↦
      let empty : index_of 35 tail ≡ 0 = omega arith in
      let bad : take 0 tail ≡ codes "*" = ap (λ n. take n tail) (sym empty) ∙ is in
      cc
]

pub path_first : (tail kept : List ℕ) → IsTail tail kept → FirstIsSlash (path_of kept)
path_first tail kept (inl none) = subst (λ k. FirstIsSlash (path_of k)) (sym none.1) (omega arith, refl)
path_first tail kept (inr (starts, input, is)) = subst (λ k. FirstIsSlash (path_of k)) (sym is) (elim input.kept.start [
  | inl none ↦ shown_first (without_fragment tail) (inl none)
  | inr (inl asterisk) ↦ let bad : zero ≡ suc zero = no_asterisk tail starts asterisk in cc
  | inr (inr start) ↦ shown_first (without_fragment tail) (inr start)
])
