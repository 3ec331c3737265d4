-- What the taking of a line does to an input.
use Rattle.std.specs.Prelude.{◌≡◌, ℕ, false, true, ◌==◌, List, [], ◌∷◌, ◌++◌, take, Option, Some, None, ⊤}
use Rattle.std.specs.Io.KnownBytes.{Keeps, Consumes, IsAtEnd}
use Rattle.values_lines.specs.Lines.{newline, lines_of, is_long}
use Rattle.cluster_console.specs.declared.input.LineRead.{LineRead}
use Rattle.cluster_console.specs.declared.input.LineRead.TheVariants as taken

-- the next octet was taken, or none was left
abbrev pub TakesOctet : Option (List ℕ) → Option (List ℕ) → Option ℕ → Type 0
TakesOctet old new None = Keeps old new × IsAtEnd new
TakesOctet old new (Some octet) = Consumes old new (octet ∷ [])

-- the next line was taken, or none was left
abbrev pub TakesLine : Option (List ℕ) → Option (List ℕ) → LineRead → List ℕ → Type 0
TakesLine None new t line = ⊤
TakesLine (Some xs) None t line = ⊥
TakesLine (Some xs) (Some ys) taken.Line line = (lines_of xs ≡ line ∷ lines_of ys) × (is_long line ≡ false)
TakesLine (Some xs) (Some ys) taken.TooLong line = (long : List ℕ) × (lines_of xs ≡ long ∷ lines_of ys)
    × (is_long long ≡ true)
TakesLine (Some xs) (Some ys) taken.End line = lines_of xs ≡ []

-- whether these octets are a line that is too long
abbrev pub IsLength : List ℕ → LineRead → Type 0
IsLength line taken.Line = is_long line ≡ false
IsLength line taken.TooLong = is_long line ≡ true
IsLength line taken.End = ⊥

-- what these octets are at the end of an input: a line, unless there are none
abbrev pub IsLast : List ℕ → LineRead → Type 0
IsLast [] t = t ≡ taken.End
IsLast (octet ∷ octets) t = IsLength (octet ∷ octets) t

-- no octet is LF
abbrev pub HasNoEnd : List ℕ → Type 0
HasNoEnd [] = ⊤
HasNoEnd (octet ∷ octets) = ((octet == newline) ≡ false) × HasNoEnd octets

-- while a line is taken: these octets of it, none of which is LF, have been read, and the first 140,001 of them are kept
pub record IsFront (xs ys line : List ℕ) : Type 0 where
  pub front : List ℕ
  pub is : xs ≡ front ++ ys
  pub unended : HasNoEnd front
  pub kept : line ≡ take 140001 front

-- the same, if the octets of the input are known
abbrev pub Taking : Option (List ℕ) → Option (List ℕ) → List ℕ → Type 0
Taking None now line = ⊤
Taking (Some xs) None line = ⊥
Taking (Some xs) (Some ys) line = IsFront xs ys line
