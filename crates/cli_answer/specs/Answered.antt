-- A run of `cache answer` over an input.
use Rattle.std.specs.Prelude.{◌≡◌, ℕ, ◌⊎◌, List, Option, Result, Err}
use Rattle.values_lines.specs.declared.fault.RunFault.{RunFault}
use Rattle.values_lines.specs.declared.fault.RunFault.TheVariants.{NoMemory, NoFirstNode}
use Rattle.values_lines.specs.Script.{HasPlayed}
use Rattle.cli_answer.specs.declared.answer.Answerer.{Answerer}
use Rattle.cli_answer.specs.Answer.{IsFirst, LineAnswers}

-- the answer to a line, and the node after it
abbrev pub AnswererAnswers : Answerer → List ℕ → List ℕ → Answerer → Type 0
AnswererAnswers old line text new = LineAnswers old.node line text new.node

-- the lines are answered one after another, from the first node on
pub record HasBegun (input old new : Option (List ℕ)) (r : Result (Unit {0}) RunFault) : Type 0 where
  pub start : Answerer
  pub end : Answerer
  pub first : IsFirst start.node
  pub played : HasPlayed AnswererAnswers start input old new r end

-- there was no first node, and nothing is written
pub record HasNotBegun (old new : Option (List ℕ)) (r : Result (Unit {0}) RunFault) : Type 0 where
  pub refused : (r ≡ Err NoMemory) ⊎ (r ≡ Err NoFirstNode)
  pub unwritten : new ≡ old

-- the run of an input: it is answered from the first node on, or there was no first node
abbrev pub HasAnswered : Option (List ℕ) → Option (List ℕ) → Option (List ℕ) → Result (Unit {0}) RunFault → Type 0
HasAnswered input old new r = HasBegun input old new r ⊎ HasNotBegun old new r
