-- The rows that were read are those that the file keeps, and form 1 has the base 0.
use Rattle.std.proofs.Common.{sym, subst, ◌∙◌, arith}
use Rattle.sqlite.specs.Effect.{Database}
use Rattle.sqlite.specs.State.{HasCleanDisk}
use Rattle.sqlite.specs.Held.{state}
use Rattle.purge_numbers.specs.Making.{IsFormOne, IsMade}
use Rattle.purge_numbers.proofs.CommitLemmas.{floors_one}
use Rattle.purge_numbers.proofs.OpenLemmas.{made_in}
use Rattle.purge_numbers.proofs.opening.open_first.Goals as goal

pub returns-in-Ok-clause-kept : goal.returns-in-Ok-clause-kept
returns-in-Ok-clause-kept g c clean =
    let old = state g.S.Store c.args.conn.now in
    let mid = state g.S.Store c.read_first.new.conn in
    let new = state g.S.Store c.bring_over.new.conn in
    let first : HasCleanDisk mid = omega (arith, c.bring_over.ensures.survives.clean, clean) in
    let same = c.in_ok-floors.ensures.same first in
    let read = c.in_ok-floors.ensures.read first in
    let made = c.in-Ok.ensures.made clean (subst IsFormOne (sym same.0.now_is) read.0) in
    made_in (old.now.trees 1) new c.in_ok-floors.floors (subst (λ (d : Database). IsMade (d.trees 1) new) same.0.now_is made) read.1.once
    (read.2 ∙ floors_one old.now.trees read.0.1)
