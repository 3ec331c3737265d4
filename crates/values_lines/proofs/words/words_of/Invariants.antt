use Rattle.std.proofs.Common.{◌≡◌, ◌++◌, map, length}
use Rattle.values_lines.specs.Words.{words_of as all_words_of}
use Rattle.values_lines.proofs.words.words_of.Given as goal

abbrev pub invariant-words : goal.invariant-words
invariant-words l = all_words_of l.text ≡ map (λ word. word.now) l.words.items ++ all_words_of l.rest

abbrev pub decreases-words : goal.decreases-words
decreases-words l = length l.rest
