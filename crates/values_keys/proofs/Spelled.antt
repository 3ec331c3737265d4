-- The function gives the URI that a text spells, or none if it spells none: the forms exclude each
-- other, and the absolute form can be cut in one way only.
use Rattle.std.proofs.Common.{◌≡◌, ℕ, ◌+◌, ◌&&◌, ◌⊎◌, IsTrue, Decides, Option, MatchOption, List, [], ◌∷◌, length, take, drop, get_or, refl, sym, ap, ◌∙◌}
use Rattle.std.proofs.Common.{subst, inl, inr, arith, ne_eqb}
use Rattle.std.proofs.lemmas.Bool.{cond_both, both_ways}
use Rattle.std.proofs.lemmas.Bool.Decides.{Decides-and, Decides-or}
use Rattle.std.proofs.lemmas.Slice.Eq.{bytes_eq-Decides}
use Rattle.http_uri.specs.ByteClasses.{is_delimiter}
use Rattle.http_uri.specs.declared.uri.Uri.{Uri}
use Rattle.http_uri.specs.Grammar.{IsScheme, IsAuthority, IsPathAndQuery, StartsPath, StartsOrigin, IsTail, IsAbsoluteForm, HasScheme, normal_scheme, or_slash}
use Rattle.http_uri.specs.Grammar.{scheme_len, authority_len}
use Rattle.http_uri.specs.Uri.{Spells, SpellsNone}
use Rattle.http_uri.proofs.UriLemmas.{cut_name, cut_rest, cut_authority, cut_tail, cut_scheme, none_of, only_origin, absolute_from_cuts}
use Rattle.values_keys.specs.Tests.{is_scheme, is_authority, is_path_and_query, starts_origin, has_scheme, is_tail}
use Rattle.values_keys.specs.UriIn.{uri_in, absolute_in, uri_of_parts}
use Rattle.values_keys.proofs.Tested.{IsPlain, IsPlain-drop, Decides-is_scheme, Decides-is_authority, Decides-is_path_and_query, Decides-starts_origin}
use Rattle.values_keys.proofs.Tested.{Decides-has_scheme, path_input, path_kept, plain_whole}

-- what it is right to find in a text
abbrev pub Reads : List ℕ → Option Uri → Type 0
Reads text found = MatchOption found (SpellsNone text) (Spells text)

-- Tails

abbrev KeptTail : List ℕ → Type 0
KeptTail tail = (tail ≡ []) ⊎ (IsTrue (is_delimiter (get_or tail 0 0)) × IsPathAndQuery tail)

Decides-is_tail : (tail : List ℕ) → IsPlain tail → Decides (is_tail tail) (KeptTail tail)
Decides-is_tail tail plain =
    Decides-or _ _ (bytes_eq-Decides tail [])
    (Decides-and _ _ (λ (e : IsTrue (is_delimiter (get_or tail 0 0))). e, λ (e : IsTrue (is_delimiter (get_or tail 0 0))). e)
    (Decides-is_path_and_query tail plain))

or_slash_some : (tail : List ℕ) → IsTrue (is_delimiter (get_or tail 0 0)) → or_slash tail ≡ tail
or_slash_some [] mark = cc
or_slash_some (b ∷ tail) mark = rw (ne_eqb (length (b ∷ tail)) 0 (omega arith)) refl

tail_from : (tail : List ℕ) → IsPlain tail → KeptTail tail → IsTail tail (or_slash tail)
tail_from tail plain (inl none) = inl (none, ap or_slash none)
tail_from tail plain (inr h) = inr (h.0, path_input tail plain (inr h.0) h.1, or_slash_some tail h.0 ∙ sym (plain_whole tail plain))

tail_back : (tail kept : List ℕ) → IsPlain tail → IsTail tail kept → KeptTail tail
tail_back tail kept plain (inl h) = inl h.0
tail_back tail kept plain (inr h) = inr (h.0, path_kept tail plain h.1)

-- The absolute form

module _ (text : List ℕ) (plain : IsPlain text) (none : ((scheme authority kept : List ℕ) → ¬ (IsAbsoluteForm text scheme authority kept)) → SpellsNone text)
  where
    abbrev name : List ℕ
    name = take (scheme_len text) text

    abbrev rest : List ℕ
    rest = drop (scheme_len text + 3) text

    abbrev authority : List ℕ
    authority = take (authority_len rest) rest

    abbrev tail : List ℕ
    tail = drop (authority_len rest) rest

    plain_tail : IsPlain tail
    plain_tail = IsPlain-drop (authority_len rest) rest (IsPlain-drop (scheme_len text + 3) text plain)

    Decides-parts : Decides (is_scheme name && is_authority authority && is_tail tail) ((IsScheme name × IsAuthority authority) × KeptTail tail)
    Decides-parts = Decides-and _ _ (Decides-and _ _ (Decides-is_scheme name) (Decides-is_authority authority)) (Decides-is_tail tail plain_tail)

    parts_of : (s a k : List ℕ) → IsAbsoluteForm text s a k → (IsScheme name × IsAuthority authority) × KeptTail tail
    parts_of s a k h =
        let authority_is : authority ≡ a = ap (λ r. take (authority_len r) r) (cut_rest text s a k h) ∙ cut_authority text s a k h in
        let tail_is : tail ≡ h.tail = ap (λ r. drop (authority_len r) r) (cut_rest text s a k h) ∙ cut_tail text s a k h in (
          (subst IsScheme (sym (cut_name text s a k h)) h.is_scheme, subst IsAuthority (sym authority_is) h.is_authority),
          subst KeptTail (sym tail_is) (tail_back h.tail k (subst IsPlain tail_is plain_tail) h.is_tail),
        )

    parts_read : HasScheme text → Reads text (uri_of_parts name authority tail)
    parts_read has =
        cond_both (is_scheme name && is_authority authority && is_tail tail) _ _ (Reads text)
        (λ passed.
        let parts = Decides-parts.0 passed in
        let short = plain.short in (
          omega arith,
          absolute_from_cuts text (normal_scheme name) authority (or_slash tail) (scheme_len text) (authority_len rest) has refl parts.0.0 refl refl parts.0.1
              (tail_from tail plain_tail parts.1),
        ))
        (λ failed. none λ s a k h. both_ways _ failed (Decides-parts.1 (parts_of s a k h)))

    absolute_read : Reads text (absolute_in text)
    absolute_read =
        cond_both (has_scheme text) _ _ (Reads text) (λ has. parts_read ((Decides-has_scheme text).0 has))
        (λ failed. none λ s a k h. both_ways _ failed ((Decides-has_scheme text).1 (cut_scheme text s a k h)))

-- All forms

origin_starts : (text : List ℕ) → StartsOrigin text → StartsPath text
origin_starts text (inl star) = inl star
origin_starts text (inr slash) = inr (rw slash refl)

pub uri_in_reads : (text : List ℕ) → IsPlain text → Reads text (uri_in text)
uri_in_reads text plain =
    let short = plain.short in
    let path = Decides-is_path_and_query text plain in
    cond_both (starts_origin text) _ _ (Reads text)
    (λ starts.
    let start = (Decides-starts_origin text).0 starts in
    cond_both (is_path_and_query text) _ _ (Reads text)
    (λ passed. (omega arith, ((start, path_input text plain (origin_starts text start) (path.0 passed)), sym (plain_whole text plain))))
    (λ failed. only_origin text start λ origin. both_ways _ failed (path.1 (path_kept text plain origin.1))))
    (λ starts_not.
    let other : ¬ (StartsOrigin text) = λ start. both_ways _ starts_not ((Decides-starts_origin text).1 start) in
    cond_both (is_authority text) _ _ (Reads text)
    (λ passed. (omega arith, ((Decides-is_authority text).0 passed, λ star. other (inl star), refl, refl)))
    (λ failed. absolute_read text plain
    (none_of text (λ origin. other origin.0) λ alone _. both_ways _ failed ((Decides-is_authority text).1 alone))))
