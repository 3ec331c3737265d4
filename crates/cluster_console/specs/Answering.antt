-- What a run over the lines of an input leaves in its output.
use Rattle.std.specs.Prelude.{◌≡◌, ◌≢◌, ℕ, ◌≤◌, Bool, true, false, bytes_eq, codes, List, [], ◌∷◌, ◌++◌, length, take, Option, Some, None, ⊤}
use Rattle.std.specs.Io.KnownBytes.{Appends, Keeps}
use Rattle.values_tables.specs.declared.plain.Tables.{Tables}
use Rattle.values_lines.specs.Lines.{newline, lines_of, lines_before, is_long}
use Rattle.cluster_console.specs.declared.input.LineRead.{LineRead}
use Rattle.cluster_console.specs.declared.input.LineRead.TheVariants as taken
use Rattle.cluster_console.specs.declared.play.Ended.{Ended}
use Rattle.cluster_console.specs.declared.play.Ended.TheVariants as ended
use Rattle.cluster_console.specs.Checked.{Gathered}
use Rattle.cluster_console.specs.Command.{quit}
use Rattle.cluster_console.specs.Played.{LineAnswers}

-- the whole text is written; or, where the output failed, a front of it
abbrev pub IsWritten : Bool → List ℕ → List ℕ → Type 0
IsWritten true text written = written ≡ text
IsWritten false text written = (rest : List ℕ) × (text ≡ written ++ rest)

-- a text is appended whole; or, where the output failed, a front of it
abbrev pub AppendsText : Option (List ℕ) → Option (List ℕ) → Bool → List ℕ → Type 0
AppendsText old new whole text = (written : List ℕ) × IsWritten whole text written × Appends old new written

-- a line is answered, and the answer, with LF behind it, is written
abbrev pub AnswersLine : Tables → Option Gathered → List ℕ → Option (List ℕ) → Option (List ℕ) → Bool →
    Option Gathered → Type 0
AnswersLine roster before line old new whole after = (answer : List ℕ) × LineAnswers roster before line answer after
    × AppendsText old new whole (answer ++ newline ∷ [])

-- what was taken is answered: a line, or that it is too long
abbrev pub AnswersTaken : Tables → Option Gathered → LineRead → List ℕ → Option (List ℕ) → Option (List ℕ) → Bool →
    Option Gathered → Type 0
AnswersTaken roster before taken.Line line old new whole after = is_long line ≡ false →
    AnswersLine roster before line old new whole after
AnswersTaken roster before taken.TooLong line old new whole after =
    AppendsText old new whole (codes "LineTooLong" ++ newline ∷ []) × (after ≡ before)
AnswersTaken roster before taken.End line old new whole after = ⊤

-- whether what was taken ends the lines
abbrev pub is_over : LineRead → List ℕ → Bool
is_over taken.Line line = bytes_eq line quit
is_over taken.TooLong line = false
is_over taken.End line = true

-- how a run ends whose lines this has ended, by whether it was the first that was taken, and whether each answer is
-- whole
abbrev pub ending_of : LineRead → Bool → Bool → Ended
ending_of taken.End true whole = ended.NoLine
ending_of _ first true = ended.Answered
ending_of _ first false = ended.OutputFailed

-- this text is the answers to the lines, one after another, each with LF behind it; `whole` says that each is whole
abbrev pub AreAnswers : Tables → Bool → Option Gathered → List (List ℕ) → List ℕ → Option Gathered → Type 0
AreAnswers roster whole before [] text after = (text ≡ []) × (after ≡ before)
AreAnswers roster whole before (line ∷ lines) text after =
    (answer : List ℕ) × (written : List ℕ) × (rest : List ℕ) × (middle : Option Gathered)
    × LineAnswers roster before line answer middle × IsWritten whole (answer ++ newline ∷ []) written
    × (text ≡ written ++ rest) × AreAnswers roster whole middle lines rest after

-- the lines are answered, and the answers are written
pub record Answers (roster : Tables) (whole : Bool) (before : Option Gathered) (lines : List (List ℕ))
    (old new : Option (List ℕ)) (after : Option Gathered) : Type 0 where
  pub text : List ℕ
  pub are : AreAnswers roster whole before lines text after
  pub written : Appends old new text

-- the lines of an input before its first `quit`
abbrev pub lines_to_quit : List ℕ → List (List ℕ)
lines_to_quit input = lines_before (Some quit) (lines_of input)

-- how a run over the lines of an input ended, if its octets are known: nothing was done, for want of memory; there was
-- no line; each line before the first `quit` was answered, and each answer written; or the output failed, at any
-- answer; or the input failed, after so many lines [Cluster 1]
abbrev pub HasAnswered : Tables → Option Gathered → Option (List ℕ) → Option (List ℕ) → Option (List ℕ) → Ended →
    Option Gathered → Type 0
HasAnswered roster before None old new e after = ⊤
HasAnswered roster before (Some input) old new ended.NoMemory after = Keeps old new × (after ≡ before)
HasAnswered roster before (Some input) old new ended.NoLine after = (lines_of input ≡ []) × Keeps old new
    × (after ≡ before)
HasAnswered roster before (Some input) old new ended.Answered after = (lines_of input ≢ [])
    × Answers roster true before (lines_to_quit input) old new after
HasAnswered roster before (Some input) old new ended.OutputFailed after = (lines_of input ≢ [])
    × Answers roster false before (lines_to_quit input) old new after
HasAnswered roster before (Some input) old new ended.InputFailed after = (count : ℕ)
    × (count ≤ length (lines_to_quit input)) × Answers roster false before (take count (lines_to_quit input)) old new after

-- whether there is no line
abbrev pub is_none : List (List ℕ) → Bool
is_none [] = true
is_none (line ∷ lines) = false

-- so far the first lines of the input, none of which is `quit`, are answered; the lines of the rest of it are left;
-- `first` says that none is answered
pub record AnswersOn (roster : Tables) (whole first : Bool) (before now : Option Gathered) (input rest : List ℕ)
    (old new : Option (List ℕ)) : Type 0 where
  pub taken : List (List ℕ)
  pub answers : Answers roster whole before taken old new now
  pub lines : lines_of input ≡ taken ++ lines_of rest
  pub left : lines_to_quit input ≡ taken ++ lines_to_quit rest
  pub begun : first ≡ is_none taken

-- the same, if the octets of the input are known
abbrev pub Answering : Tables → Bool → Bool → Option Gathered → Option Gathered → Option (List ℕ) → Option (List ℕ) →
    Option (List ℕ) → Option (List ℕ) → Type 0
Answering roster whole first before now None rest old new = ⊤
Answering roster whole first before now (Some input) None old new = ⊥
Answering roster whole first before now (Some input) (Some rest) old new =
    AnswersOn roster whole first before now input rest old new
