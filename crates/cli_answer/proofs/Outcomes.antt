-- A weaker claim of a result follows from a stronger one.
use Rattle.std.proofs.Common.{Result, Ok, Err, OnOk}

pub OnOk-weaker : {E P Q : Type 0} (r : Result (Unit {0}) E) → (P → Q) → OnOk r P → OnOk r Q
OnOk-weaker (Ok done) f p = f p
OnOk-weaker (Err error) f p = p
