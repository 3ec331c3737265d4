-- The lines of an input are answered one after another: each step of the loop over them, and each way out of it.
use Rattle.std.proofs.Common.{◌≡◌, ◌≢◌, ◌⊎◌, ℕ, MatchBool, codes, ◌+◌, Bool, true, false, ◌&&◌, not, cond, bytes_eq, Option, Some, None, List}
use Rattle.std.proofs.Common.{[], ◌∷◌, ◌++◌, length, take, inl, inr, refl, sym, ap, ◌∙◌, subst, arith, append_assoc, append-nil, length-append, take_at}
use Rattle.std.proofs.lemmas.List.Sums.{take_while-cons}
use Rattle.std.proofs.lemmas.Slice.Eq.{bytes_eq-Decides}
use Rattle.std.specs.Io.KnownBytes.{Appends, Keeps}
use Rattle.std.proofs.KnownBytes.{Appends-nil, Appends-trans, Keeps-refl}
use Rattle.values_tables.specs.declared.plain.Tables.{Tables}
use Rattle.values_lines.specs.Lines.{newline, lines_of, lines_before, is_long}
use Rattle.cluster_console.specs.declared.input.LineRead.{LineRead}
use Rattle.cluster_console.specs.declared.input.LineRead.TheVariants as taken
use Rattle.cluster_console.specs.declared.play.Ended.{Ended}
use Rattle.cluster_console.specs.declared.play.Ended.TheVariants as ended
use Rattle.cluster_console.specs.Checked.{Gathered}
use Rattle.cluster_console.specs.Command.{quit}
use Rattle.cluster_console.proofs.Gathering.{goes_on}
use Rattle.cluster_console.specs.Taking.{TakesLine}
use Rattle.cluster_console.specs.Played.{LineSays, LineAnswers, LineTells}
use Rattle.cluster_console.specs.Answering.{IsWritten, AppendsText, AnswersLine, AnswersTaken, is_over, ending_of, AreAnswers, Answers, lines_to_quit}
use Rattle.cluster_console.specs.Answering.{HasAnswered, is_none, AnswersOn, Answering}

-- what is written whole, or in front, is so where another text need not be whole
written_left : (b c : Bool) (text written : List ℕ) → IsWritten b text written → IsWritten (b && c) text written
written_left true true text written is = is
written_left true false text written is = ([], sym is ∙ sym (append-nil written))
written_left false c text written is = is

written_right : (b c : Bool) (text written : List ℕ) → IsWritten c text written → IsWritten (b && c) text written
written_right true c text written is = is
written_right false true text written is = ([], sym is ∙ sym (append-nil written))
written_right false false text written is = is

module _ (roster : Tables) where
  -- the same of answers one after another
  are_left : (b c : Bool) (before : Option Gathered) (lines : List (List ℕ)) (text : List ℕ) (after : Option Gathered) →
      AreAnswers roster b before lines text after → AreAnswers roster (b && c) before lines text after
  are_left b c before [] text after are = are
  are_left b c before (line ∷ lines) text after (answer, written, rest, middle, one, is, joined, others) =
      (answer, written, rest, middle, one, written_left b c (answer ++ newline ∷ []) written is, joined, are_left b c middle lines rest after others)

  -- one more answer
  are_more : (b : Bool) (before : Option Gathered) (lines : List (List ℕ)) (text : List ℕ) (now : Option Gathered) (line answer written : List ℕ)
      (after : Option Gathered) → AreAnswers roster b before lines text now → LineAnswers roster now line answer after →
      IsWritten b (answer ++ newline ∷ []) written → AreAnswers roster b before (lines ++ line ∷ []) (text ++ written) after
  are_more b before [] text now line answer written after (none, same) one is = (
    answer,
    written,
    [],
    after,
    subst (λ g. LineAnswers roster g line answer after) same one,
    is,
    ap (λ t. t ++ written) none ∙ sym (append-nil written),
    (refl, refl),
  )
  are_more b before (first ∷ lines) text now line answer written after (reply, front, rest, middle, first_one, first_is, joined, others) one is = (
    reply,
    front,
    rest ++ written,
    middle,
    first_one,
    first_is,
    ap (λ t. t ++ written) joined ∙ append_assoc front rest written,
    are_more b middle lines rest now line answer written after others one is,
  )

  -- so many lines are answered, and one more
  answers_more : (b c : Bool) (before now after : Option Gathered) (lines : List (List ℕ)) (line : List ℕ) (old middle new : Option (List ℕ)) →
      Answers roster b before lines old middle now → AnswersLine roster now line middle new c after →
      Answers roster (b && c) before (lines ++ line ∷ []) old new after
  answers_more b c before now after lines line old middle new so_far (answer, one, (written, is, wrote)) = record {
    text = so_far.text ++ written;
    are = are_more (b && c) before lines so_far.text now line answer written after (are_left b c before lines so_far.text now so_far.are) one
        (written_right b c (answer ++ newline ∷ []) written is);
    written = Appends-trans old middle new so_far.text written so_far.written wrote;
  }

  -- where nothing need be whole
  answers_front : (b : Bool) (before now : Option Gathered) (lines : List (List ℕ)) (old new : Option (List ℕ)) → Answers roster b before lines old new now →
      Answers roster false before lines old new now
  answers_front true before now lines old new all = record {
    text = all.text;
    are = are_left true false before lines all.text now all.are;
    written = all.written;
  }
  answers_front false before now lines old new all = all

  -- the loop begins
  pub answering_begins : (before : Option Gathered) (input old : Option (List ℕ)) → Answering roster true true before before input input old old
  answering_begins before None old = tt
  answering_begins before (Some xs) old = record {
    taken = [];
    answers = record { text = []; are = (refl, refl); written = Appends-nil old };
    lines = refl;
    left = refl;
    begun = refl;
  }

  -- a line that is not `quit` is before it
  before_quit : (line xs ys : List ℕ) → lines_of xs ≡ line ∷ lines_of ys → bytes_eq line quit ≡ false → lines_to_quit xs ≡ line ∷ lines_to_quit ys
  before_quit line xs ys took other =
      ap (lines_before (Some quit)) took ∙ take_while-cons (λ l. not (bytes_eq l quit)) line (lines_of ys)
      ∙ ap (λ b. cond (not b) (line ∷ lines_to_quit ys) []) other

  -- `quit` ends the lines
  at_quit : (line xs ys : List ℕ) → lines_of xs ≡ line ∷ lines_of ys → bytes_eq line quit ≡ true → lines_to_quit xs ≡ []
  at_quit line xs ys took same =
      ap (lines_before (Some quit)) took ∙ take_while-cons (λ l. not (bytes_eq l quit)) line (lines_of ys)
      ∙ ap (λ b. cond (not b) (line ∷ lines_to_quit ys) []) same

  -- lines with one more behind them are some
  some_more : (lines : List (List ℕ)) (line : List ℕ) → false ≡ is_none (lines ++ line ∷ [])
  some_more [] line = refl
  some_more (first ∷ lines) line = refl

  -- one more line is answered
  answers_on : (b c f : Bool) (before now next : Option Gathered) (input xs ys line : List ℕ) (old middle new : Option (List ℕ)) →
      AnswersOn roster b f before now input xs old middle → lines_of xs ≡ line ∷ lines_of ys → bytes_eq line quit ≡ false →
      AnswersLine roster now line middle new c next → AnswersOn roster (b && c) false before next input ys old new
  answers_on b c f before now next input xs ys line old middle new on took other one = record {
    taken = on.taken ++ line ∷ [];
    answers = answers_more b c before now next on.taken line old middle new on.answers one;
    lines = on.lines ∙ ap (λ ls. on.taken ++ ls) took ∙ sym (append_assoc on.taken (line ∷ []) (lines_of ys));
    left = on.left ∙ ap (λ ls. on.taken ++ ls) (before_quit line xs ys took other)
        ∙ sym (append_assoc on.taken (line ∷ []) (lines_to_quit ys));
    begun = some_more on.taken line;
  }

  -- a line that is too long is not `quit`
  long_is_other : (line : List ℕ) (b : Bool) → bytes_eq line quit ≡ b → is_long line ≡ true → bytes_eq line quit ≡ false
  long_is_other line false other long = other
  long_is_other line true same long = let bad : false ≡ true = sym (ap is_long ((bytes_eq-Decides line quit).0 same)) ∙ long in absurd cc

  -- what is said of it
  says_long : (now : Option Gathered) (line : List ℕ) (middle new : Option (List ℕ)) (c : Bool) → is_long line ≡ true →
      AppendsText middle new c (codes "LineTooLong" ++ newline ∷ []) → AnswersLine roster now line middle new c now
  says_long now line middle new c long wrote = (
    codes "LineTooLong",
    (
      subst (λ b. MatchBool b (codes "LineTooLong" ≡ codes "LineTooLong")
          ((codes "LineTooLong" ≡ codes "NoMemory") ⊎ LineTells roster now line (codes "LineTooLong"))) (sym long) refl,
      goes_on now now refl,
    ),
    wrote,
  )

  answered_long : (b c f : Bool) (before now : Option Gathered) (input rest after : Option (List ℕ)) (line : List ℕ)
      (old middle new : Option (List ℕ)) → Answering roster b f before now input rest old middle → TakesLine rest after taken.TooLong line →
      AppendsText middle new c (codes "LineTooLong" ++ newline ∷ []) → Answering roster (b && c) false before now input after old new
  answered_long b c f before now None rest after line old middle new on took wrote = tt
  answered_long b c f before now (Some input) None after line old middle new on took wrote = absurd on
  answered_long b c f before now (Some input) (Some xs) None line old middle new on took wrote = absurd took
  answered_long b c f before now (Some input) (Some xs) (Some ys) line old middle new on (long, lines, is) wrote =
      answers_on b c f before now now input xs ys long old middle new on lines (long_is_other long (bytes_eq long quit) refl is)
      (says_long now long middle new c is wrote)

  -- each line is answered, where none is left before `quit`
  all_answered : (b f : Bool) (before now : Option Gathered) (input xs : List ℕ) (old new : Option (List ℕ)) →
      AnswersOn roster b f before now input xs old new → lines_to_quit xs ≡ [] → Answers roster b before (lines_to_quit input) old new now
  all_answered b f before now input xs old new on none =
      subst (λ ls. Answers roster b before ls old new now) (sym (on.left ∙ ap (λ ls. on.taken ++ ls) none ∙ append-nil on.taken)) on.answers

  -- so the run ended, by whether each answer is whole
  ended_so : (b : Bool) (e : Ended) (before now : Option Gathered) (input : List ℕ) (old new : Option (List ℕ)) → lines_of input ≢ [] →
      Answers roster b before (lines_to_quit input) old new now → MatchBool b (e ≡ ended.Answered) (e ≡ ended.OutputFailed) →
      HasAnswered roster before (Some input) old new e now
  ended_so true e before now input old new some all is = subst (λ x. HasAnswered roster before (Some input) old new x now) (sym is) (some, all)
  ended_so false e before now input old new some all is = subst (λ x. HasAnswered roster before (Some input) old new x now) (sym is) (some, all)

  -- the input has a line, where one was left at its end
  one_left : (lines more rest : List (List ℕ)) (line : List ℕ) → lines ≡ more ++ line ∷ rest → lines ≢ []
  one_left lines [] rest line is none = let bad : line ∷ rest ≡ [] = sym is ∙ none in absurd cc
  one_left lines (first ∷ more) rest line is none = let bad : first ∷ (more ++ line ∷ rest) ≡ [] = sym is ∙ none in absurd cc

  -- `quit` was taken
  answered_to_quit : (b f : Bool) (e : Ended) (before now : Option Gathered) (input rest after : Option (List ℕ)) (line : List ℕ)
      (old new : Option (List ℕ)) → Answering roster b f before now input rest old new → TakesLine rest after taken.Line line →
      bytes_eq line quit ≡ true → MatchBool b (e ≡ ended.Answered) (e ≡ ended.OutputFailed) → HasAnswered roster before input old new e now
  answered_to_quit b f e before now None rest after line old new on took same is = tt
  answered_to_quit b f e before now (Some input) None after line old new on took same is = absurd on
  answered_to_quit b f e before now (Some input) (Some xs) None line old new on took same is = absurd took
  answered_to_quit b f e before now (Some input) (Some xs) (Some ys) line old new on took same is =
      ended_so b e before now input old new
      (one_left (lines_of input) on.taken (lines_of ys) line (on.lines ∙ ap (λ ls. on.taken ++ ls) took.0))
      (all_answered b f before now input xs old new on (at_quit line xs ys took.0 same)) is

  -- some lines were taken
  some_taken : (lines taken rest : List (List ℕ)) → lines ≡ taken ++ rest → false ≡ is_none taken → lines ≢ []
  some_taken lines [] rest is some none = let bad : false ≡ true = some in absurd cc
  some_taken lines (first ∷ taken) rest is some none = let bad : first ∷ (taken ++ rest) ≡ [] = sym is ∙ none in absurd cc

  -- the input is at its end, behind some lines
  answered_to_end : (b : Bool) (e : Ended) (before now : Option Gathered) (input rest after : Option (List ℕ)) (line : List ℕ)
      (old new : Option (List ℕ)) → Answering roster b false before now input rest old new → TakesLine rest after taken.End line →
      MatchBool b (e ≡ ended.Answered) (e ≡ ended.OutputFailed) → HasAnswered roster before input old new e now
  answered_to_end b e before now None rest after line old new on took is = tt
  answered_to_end b e before now (Some input) None after line old new on took is = absurd on
  answered_to_end b e before now (Some input) (Some xs) None line old new on took is = absurd took
  answered_to_end b e before now (Some input) (Some xs) (Some ys) line old new on took is =
      ended_so b e before now input old new (some_taken (lines_of input) on.taken (lines_of xs) on.lines on.begun)
      (all_answered b false before now input xs old new on (ap (lines_before (Some quit)) took)) is

  -- nothing was answered
  kept_all : (old new : Option (List ℕ)) (text : List ℕ) → text ≡ [] → Appends old new text → Keeps old new
  kept_all None new text none wrote = tt
  kept_all (Some xs) None text none wrote = absurd wrote
  kept_all (Some xs) (Some ys) text none wrote = wrote ∙ ap (λ t. xs ++ t) none ∙ append-nil xs

  no_answers : (b : Bool) (before now : Option Gathered) (input : List ℕ) (rest taken : List (List ℕ)) (old new : Option (List ℕ)) →
      lines_of input ≡ taken ++ rest → rest ≡ [] → true ≡ is_none taken → Answers roster b before taken old new now →
      HasAnswered roster before (Some input) old new ended.NoLine now
  no_answers b before now input rest [] old new lines none first all =
      (lines ∙ none, kept_all old new all.text all.are.0 all.written, all.are.1)
  no_answers b before now input rest (line ∷ taken) old new lines none first all = let bad : true ≡ false = first in absurd cc

  -- the input is at its end before the first line
  answered_nothing : (b : Bool) (before now : Option Gathered) (input rest after : Option (List ℕ)) (line : List ℕ)
      (old new : Option (List ℕ)) → Answering roster b true before now input rest old new → TakesLine rest after taken.End line →
      HasAnswered roster before input old new ended.NoLine now
  answered_nothing b before now None rest after line old new on took = tt
  answered_nothing b before now (Some input) None after line old new on took = absurd on
  answered_nothing b before now (Some input) (Some xs) None line old new on took = absurd took
  answered_nothing b before now (Some input) (Some xs) (Some ys) line old new on took =
      no_answers b before now input (lines_of xs) on.taken old new on.lines took on.begun on.answers

  -- what was taken is answered
  pub answered_taken : (t : LineRead) (b c f : Bool) (before now next : Option Gathered) (input rest after : Option (List ℕ)) (line : List ℕ)
      (old middle new : Option (List ℕ)) → Answering roster b f before now input rest old middle → TakesLine rest after t line →
      is_over t line ≡ false → AnswersTaken roster now t line middle new c next → Answering roster (b && c) false before next input after old new
  answered_taken taken.Line b c f before now next None rest after line old middle new on took other one = tt
  answered_taken taken.Line b c f before now next (Some input) None after line old middle new on took other one = absurd on
  answered_taken taken.Line b c f before now next (Some input) (Some xs) None line old middle new on took other one = absurd took
  answered_taken taken.Line b c f before now next (Some input) (Some xs) (Some ys) line old middle new on took other one =
      answers_on b c f before now next input xs ys line old middle new on took.0 other (one took.1)
  answered_taken taken.TooLong b c f before now next input rest after line old middle new on took other (wrote, same) =
      subst (λ g. Answering roster (b && c) false before g input after old new) (sym same)
      (answered_long b c f before now input rest after line old middle new on took wrote)
  answered_taken taken.End b c f before now next input rest after line old middle new on took other one =
      let bad : true ≡ false = other in absurd cc

  -- what was taken ends the lines
  pub ended_taken : (t : LineRead) (b f : Bool) (before now : Option Gathered) (input rest after : Option (List ℕ)) (line : List ℕ)
      (old new : Option (List ℕ)) → Answering roster b f before now input rest old new → TakesLine rest after t line → is_over t line ≡ true →
      HasAnswered roster before input old new (ending_of t f b) now
  ended_taken taken.Line true f before now input rest after line old new on took over =
      answered_to_quit true f ended.Answered before now input rest after line old new on took over refl
  ended_taken taken.Line false f before now input rest after line old new on took over =
      answered_to_quit false f ended.OutputFailed before now input rest after line old new on took over refl
  ended_taken taken.TooLong b f before now input rest after line old new on took over = let bad : false ≡ true = over in absurd cc
  ended_taken taken.End b true before now input rest after line old new on took over =
      answered_nothing b before now input rest after line old new on took
  ended_taken taken.End true false before now input rest after line old new on took over =
      answered_to_end true ended.Answered before now input rest after line old new on took refl
  ended_taken taken.End false false before now input rest after line old new on took over =
      answered_to_end false ended.OutputFailed before now input rest after line old new on took refl

  -- what may be said of a line that is not too long
  pub says_no_memory : (now : Option Gathered) (line : List ℕ) → is_long line ≡ false → LineSays roster now line (codes "NoMemory")
  says_no_memory now line short =
      subst (λ b. MatchBool b (codes "NoMemory" ≡ codes "LineTooLong") ((codes "NoMemory" ≡ codes "NoMemory") ⊎ LineTells roster now line (codes "NoMemory")))
      (sym short) (inl refl)

  pub says_told : (now : Option Gathered) (line text : List ℕ) → is_long line ≡ false → LineTells roster now line text → LineSays roster now line text
  says_told now line text short told =
      subst (λ b. MatchBool b (text ≡ codes "LineTooLong") ((text ≡ codes "NoMemory") ⊎ LineTells roster now line text)) (sym short) (inr told)

  -- the input failed
  pub answered_some : (b f : Bool) (before now : Option Gathered) (input rest old new : Option (List ℕ)) →
      Answering roster b f before now input rest old new → HasAnswered roster before input old new ended.InputFailed now
  answered_some b f before now None rest old new on = tt
  answered_some b f before now (Some input) None old new on = absurd on
  answered_some b f before now (Some input) (Some xs) old new on = (
    length on.taken,
    omega (arith, ap length on.left, length-append on.taken (lines_to_quit xs)),
    subst (λ ls. Answers roster false before ls old new now)
        (sym (ap (take (length on.taken)) on.left ∙ take_at on.taken (lines_to_quit xs) (length on.taken) refl))
        (answers_front b before now on.taken old new on.answers),
  )

  -- nothing was done, for want of memory
  pub answered_none : (before : Option Gathered) (input old : Option (List ℕ)) → HasAnswered roster before input old old ended.NoMemory before
  answered_none before None old = tt
  answered_none before (Some input) old = (Keeps-refl old, refl)
