-- The steps of the loop over lines: a line that is answered moves from the rest of the input to
-- what is done, and what is written moves from the unwritten answers to the writer.
use Rattle.std.proofs.Common.{◌≡◌, ◌≤◌, arith, ℕ, ◌||◌, not, true, false, cond, bytes_eq, Option, Some, None, Result, Ok, Err, IfErr, List, [], ◌∷◌, ◌++◌}
use Rattle.std.proofs.Common.{length, take, drop, refl, sym, ap, ◌∙◌, subst, append_assoc, append-nil, length-append}
use Rattle.std.specs.Prelude.{⊤}
use Rattle.std.proofs.lemmas.List.{take_at}
use Rattle.std.proofs.lemmas.List.Folds.{list_any-append}
use Rattle.std.proofs.lemmas.List.Sums.{take_while-cons}
use Rattle.std.proofs.Math.Seq.{drop-append_seam}
use Rattle.std.specs.Io.KnownBytes.{Appends}
use Rattle.std.proofs.KnownBytes.{Appends-nil, Appends-trans}
use Rattle.values_lines.specs.declared.fault.RunFault.{RunFault}
use Rattle.values_lines.specs.declared.fault.RunFault.TheVariants.{Io, TooManyTurns, LineTooLong}
use Rattle.values_lines.specs.Lines.{newline, lines_of, lines_before, is_last, is_long, has_long_line, begins_long}
use Rattle.values_lines.specs.Reading.{TakesLine, TakesNone, FailsToTake, IsCounted}
use Rattle.values_plain.specs.Writing.{AppendsFront, Writes}
use Rattle.values_plain.proofs.Laws.{proper_front}
use Rattle.values_lines.specs.Script.{Plays, HasPlayedBefore}
use Rattle.values_lines.specs.Playing.{Playing}

-- no line stands before the last one
pub before_none : (last : Option (List ℕ)) → lines_before last [] ≡ []
before_none None = refl
before_none (Some text) = refl

-- a line that is not the last one stands before it
pub before_more : (last : Option (List ℕ)) (line : List ℕ) (lines : List (List ℕ)) → is_last last line ≡ false →
    lines_before last (line ∷ lines) ≡ line ∷ lines_before last lines
before_more None line lines other = refl
before_more (Some text) line lines other = take_while-cons (λ l. not (bytes_eq l text)) line lines
    ∙ ap (λ b. cond (not b) (line ∷ lines_before (Some text) lines) []) other

-- at the last line
pub before_last : (last : Option (List ℕ)) (line : List ℕ) (lines : List (List ℕ)) → is_last last line ≡ true → lines_before last (line ∷ lines) ≡ []
before_last None line lines same = absurd cc
before_last (Some text) line lines same = take_while-cons (λ l. not (bytes_eq l text)) line lines
    ∙ ap (λ b. cond (not b) (line ∷ lines_before (Some text) lines) []) same

-- no line is left before the last one
abbrev pub NoneLeft : Option (List ℕ) → List ℕ → Option (List ℕ) → Type 0
NoneLeft last held None = ⊤
NoneLeft last held (Some xs) = lines_before last (lines_of (held ++ xs)) ≡ []

-- the input is at its end
pub none_left : (last : Option (List ℕ)) (held : List ℕ) (rest : Option (List ℕ)) → TakesNone held rest → NoneLeft last held rest
none_left last held None none = tt
none_left last held (Some xs) none = ap (lines_before last) none ∙ before_none last

-- the last line was taken
pub none_before_last : (last : Option (List ℕ)) (held : List ℕ) (rest : Option (List ℕ)) (left : List ℕ) (after : Option (List ℕ)) (line : List ℕ) →
    TakesLine held rest left after line → is_last last line ≡ true → NoneLeft last held rest
none_before_last last held None left after line took same = tt
none_before_last last held (Some xs) left None line took same = absurd took
none_before_last last held (Some xs) left (Some ys) line took same = ap (lines_before last) took.0 ∙ before_last last line (lines_of (left ++ ys)) same

-- the reads that a fault names were made
abbrev pub HasTurns : Option (List ℕ) → RunFault → Type 0
HasTurns None fault = ⊤
HasTurns (Some input) fault = fault ≡ TooManyTurns → 70000 ≤ length input

pub spent_all : (turns : ℕ) (input rest : Option (List ℕ)) (fault : RunFault) → IsCounted 0 input turns rest → (fault ≡ TooManyTurns → turns ≡ 70000) →
    HasTurns input fault
spent_all turns None rest fault counted spent = tt
spent_all turns (Some input) None fault counted spent = absurd counted
spent_all turns (Some input) (Some rest) fault counted spent = λ e. omega (arith, counted, spent e)

pub not_spent : (input : Option (List ℕ)) (fault : RunFault) → (fault ≡ TooManyTurns → ⊥) → HasTurns input fault
not_spent None fault other = tt
not_spent (Some input) fault other = λ e. absurd (other e)

module _ {S : Type 0} (answers : S → List ℕ → List ℕ → S → Type 0) where
  -- one more line is answered
  plays_more : (lines : List (List ℕ)) (old middle new : S) (text line answer : List ℕ) → Plays answers old lines text middle → answers middle line answer new →
      Plays answers old (lines ++ line ∷ []) (text ++ (answer ++ newline ∷ [])) new
  plays_more [] old middle new text line answer (none, same) last =
      (answer, [], new, subst (λ s. answers s line answer new) same last, ap (λ t. t ++ (answer ++ newline ∷ [])) none, (refl, refl))
  plays_more (first ∷ lines) old middle new text line answer (reply, rest, then, one, is, others) last = (
    reply,
    rest ++ (answer ++ newline ∷ []),
    then,
    one,
    ap (λ t. t ++ (answer ++ newline ∷ [])) is
        ∙ append_assoc reply (newline ∷ rest) (answer ++ newline ∷ []),
    plays_more lines then middle new rest line answer others last,
  )

  module _ (last : Option (List ℕ)) (start : S) where
    pub playing_start : (input : Option (List ℕ)) (held text : List ℕ) (writer : Option (List ℕ)) → held ≡ [] → text ≡ [] →
        Playing answers last start start input held input writer writer text
    playing_start None held text writer none empty = tt
    playing_start (Some xs) held text writer none empty = record {
      taken = [];
      done = [];
      lines = ap (λ h. lines_of (h ++ xs)) (sym none);
      before = ap (λ h. lines_before last (lines_of (h ++ xs))) (sym none);
      short = refl;
      plays = (empty, refl);
      written = Appends-nil writer;
    }

    -- a line is taken and answered
    pub playing_line : (now new : S) (input : Option (List ℕ)) (held : List ℕ) (before : Option (List ℕ)) (left : List ℕ)
        (after writer_old writer : Option (List ℕ)) (text line answer more : List ℕ)
        → Playing answers last start now input held before writer_old writer text → TakesLine held before left after line → is_last last line ≡ false →
        answers now line answer new → more ≡ text ++ (answer ++ newline ∷ []) → Playing answers last start new input left after writer_old writer more
    playing_line now new None held before left after writer_old writer text line answer more on took other one is = tt
    playing_line now new (Some input) held None left after writer_old writer text line answer more on took other one is = absurd on
    playing_line now new (Some input) held (Some xs) left None writer_old writer text line answer more on took other one is = absurd took
    playing_line now new (Some input) held (Some xs) left (Some ys) writer_old writer text line answer more on took other one is = record {
      taken = on.taken ++ line ∷ [];
      done = on.done;
      lines = on.lines ∙ ap (λ t. on.taken ++ t) took.0 ∙ sym (append_assoc on.taken (line ∷ []) (lines_of (left ++ ys)));
      before = on.before ∙ ap (λ t. on.taken ++ t) (ap (lines_before last) took.0 ∙ before_more last line (lines_of (left ++ ys)) other)
          ∙ sym (append_assoc on.taken (line ∷ []) (lines_before last (lines_of (left ++ ys))));
      short = list_any-append is_long on.taken (line ∷ []) ∙ ap (λ b. b || (is_long line || false)) on.short ∙ ap (λ b. b || false) took.1;
      plays = subst (λ t. Plays answers start (on.taken ++ line ∷ []) t new) (append_assoc on.done text (answer ++ newline ∷ [])
          ∙ ap (λ t. on.done ++ t) (sym is)) (plays_more on.taken start now new (on.done ++ text) line answer on.plays one);
      written = on.written;
    }

    -- what was not yet written is written
    pub playing_written : (now : S) (input : Option (List ℕ)) (held : List ℕ) (rest writer_old writer writer_new : Option (List ℕ)) (text left : List ℕ) →
        Playing answers last start now input held rest writer_old writer text → Appends writer writer_new text → left ≡ [] →
        Playing answers last start now input held rest writer_old writer_new left
    playing_written now None held rest writer_old writer writer_new text left on wrote none = tt
    playing_written now (Some input) held None writer_old writer writer_new text left on wrote none = on
    playing_written now (Some input) held (Some xs) writer_old writer writer_new text left on wrote none = record {
      taken = on.taken;
      done = on.done ++ text;
      lines = on.lines;
      before = on.before;
      short = on.short;
      plays = subst (λ t. Plays answers start on.taken t now) (sym (ap (λ t. (on.done ++ text) ++ t) none ∙ append-nil (on.done ++ text))) on.plays;
      written = Appends-trans writer_old writer writer_new on.done text on.written wrote;
    }

    -- the run stops with a fault, after a front of what was not yet written
    pub playing_stops : (now : S) (input : Option (List ℕ)) (held : List ℕ) (rest writer_old writer writer_new : Option (List ℕ)) (text : List ℕ)
        (fault : RunFault) (end : S) → Playing answers last start now input held rest writer_old writer text → AppendsFront writer writer_new text →
        FailsToTake held rest fault → HasTurns input fault → HasPlayedBefore answers last start input writer_old writer_new (Err fault) end
    playing_stops now None held rest writer_old writer writer_new text fault end on wrote fails spent = tt
    playing_stops now (Some input) held None writer_old writer writer_new text fault end on wrote fails spent = absurd on
    playing_stops now (Some input) held (Some xs) writer_old writer writer_new text fault end on (front, back, is, wrote) fails spent = record {
      count = length on.taken;
      text = on.done ++ text;
      end = now;
      within = simp (on.before, length-append) (omega arith);
      plays = subst (λ ls. Plays answers start ls (on.done ++ text) now)
          (sym (ap (take (length on.taken)) on.before ∙ take_at on.taken _ (length on.taken) refl)) on.plays;
      written = (
        on.done ++ front,
        back,
        ap (λ t. on.done ++ t) is ∙ sym (append_assoc on.done front back),
        Appends-trans writer_old writer writer_new on.done front on.written wrote,
      );
      cause = λ e. ap (λ ls. begins_long (drop (length on.taken) ls)) on.lines ∙ ap begins_long (drop-append_seam on.taken (lines_of (held ++ xs))) ∙ fails e;
      turns = spent;
    }

    -- nothing more is written where the run stops
    pub nothing_written : (writer : Option (List ℕ)) (text : List ℕ) → AppendsFront writer writer text
    nothing_written writer text = ([], text, refl, Appends-nil writer)

    -- a fault that is not that of a long line
    pub other_fault : (held : List ℕ) (rest : Option (List ℕ)) (fault : RunFault) → (fault ≡ LineTooLong → ⊥) → FailsToTake held rest fault
    other_fault held None fault other = tt
    other_fault held (Some xs) fault other = λ e. absurd (other e)

    -- no line is left to be answered, and what was not yet written is written, or a front of it
    pub playing_ends : (now : S) (input : Option (List ℕ)) (held : List ℕ) (rest writer_old writer writer_new : Option (List ℕ)) (text : List ℕ)
        (r : Result (Unit {0}) RunFault) → Playing answers last start now input held rest writer_old writer text → NoneLeft last held rest →
        Writes writer writer_new r text → IfErr r (λ fault. fault ≡ Io) → HasPlayedBefore answers last start input writer_old writer_new r now
    playing_ends now None held rest writer_old writer writer_new text r on none wrote io = tt
    playing_ends now (Some input) held None writer_old writer writer_new text r on none wrote io = absurd on
    playing_ends now (Some input) held (Some xs) writer_old writer writer_new text (Err fault) on none wrote io =
        playing_stops now (Some input) held (Some xs) writer_old writer writer_new text fault now on (proper_front writer writer_new text wrote)
        (other_fault held (Some xs) fault (λ e. let bad : Io ≡ LineTooLong = sym io ∙ e in cc)) (λ e. let bad : Io ≡ TooManyTurns = sym io ∙ e in absurd cc)
    playing_ends now (Some input) held (Some xs) writer_old writer writer_new text (Ok done) on none wrote io =
        let all : lines_before last (lines_of input) ≡ on.taken = on.before ∙ ap (λ t. on.taken ++ t) none ∙ append-nil on.taken in record {
          text = on.done ++ text;
          plays = subst (λ ls. Plays answers start ls (on.done ++ text) now) (sym all) on.plays;
          written = Appends-trans writer_old writer writer_new on.done text on.written wrote;
          short = ap has_long_line all ∙ on.short;
        }
