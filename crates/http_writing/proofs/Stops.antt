-- A text written in several pieces, one of which failed: a proper front of that piece is a proper
-- front of the text.
use Rattle.std.proofs.Common.{ℕ, List, ◌++◌, Option, Result}
use Rattle.std.specs.Result.{IsErrAnd}
use Rattle.std.proofs.lemmas.Result.{err_from_is_err_and}
use Rattle.values_plain.specs.Writing.{AppendsProperFront, Writes}
use Rattle.values_plain.proofs.Laws.{writes_stop}

-- the piece failed, so nothing after it was written
pub stops : {E : Type 0} (P : E → Type 0) (a c : Option (List ℕ)) (piece rest : List ℕ) (r : Result (Unit {0}) E) → IsErrAnd r P →
    AppendsProperFront a c piece → Writes a c r (piece ++ rest)
stops P a c piece rest r failed front =
    let fault = err_from_is_err_and r failed in
    writes_stop a c piece rest r fault.0 fault.1 front
