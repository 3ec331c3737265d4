use Rattle.std.proofs.Common.{◌≡◌, ◌∙◌, ◌++◌, List, ℕ, [], ◌∷◌, Bor, map, option_map, ap, sym}
use Rattle.std.proofs.lemmas.List.{map-append}
use Rattle.values_lines.specs.Words.{words_of as all_words_of}
use Rattle.values_lines.proofs.WordLemmas.{words_next, words_last}
use Rattle.values_lines.proofs.words.words_of.Goals as goal

-- the words with one more
with_word : (old new : List (Bor (List ℕ))) (word : Bor (List ℕ)) → new ≡ old ++ word ∷ [] → map (λ w. w.now) new ≡ map (λ w. w.now) old ++ word.now ∷ []
with_word old new word e = ap (map (λ w. w.now)) e ∙ map-append (λ w. w.now) old (word ∷ [])

pub words-preserved : goal.words-preserved
words-preserved c =
    words_next _ _ c.words.rest.now _ _ c.words.invariant (ap (λ r. (c.split_word.result.0.now, option_map (λ x. x.now) r)) (sym c.in-Some.is)
    ∙ c.split_word.ensures)
    ∙ ap (λ w. w ++ all_words_of c.in-Some.others.now) (sym (with_word _ _ _ c.in_ok-push.ensures.items))

pub returns-in-None : goal.returns-in-None
returns-in-None c =
    with_word _ _ _ c.in_ok-push.ensures.items
    ∙ words_last _ _ c.words.rest.now _ c.words.invariant (ap (λ r. (c.split_word.result.0.now, option_map (λ x. x.now) r)) (sym c.in-None.is)
    ∙ c.split_word.ensures)
