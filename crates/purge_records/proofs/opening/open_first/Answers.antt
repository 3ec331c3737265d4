-- The rows that were read are those that the file keeps, and form 1 has no admissions.
use Rattle.std.proofs.Common.{sym, subst, arith}
use Rattle.sqlite.specs.Effect.{Database}
use Rattle.sqlite.specs.State.{HasCleanDisk}
use Rattle.sqlite.specs.Held.{state}
use Rattle.purge_records.specs.Making.{IsFormOne, IsMade, IsUnadmitted}
use Rattle.purge_records.proofs.OpenLemmas.{made_in, made_second}
use Rattle.purge_records.proofs.opening.open_first.Goals as goal

pub returns-in-Ok-clause-kept : goal.returns-in-Ok-clause-kept
returns-in-Ok-clause-kept g c clean =
    let old = state g.S.Store c.args.conn.now in
    let new = state g.S.Store c.bring_over.new.conn in
    let first : HasCleanDisk (state g.S.Store c.read_first.new.conn) = omega (arith, c.bring_over.ensures.survives.clean, clean) in
    let same = c.in_ok-purges.ensures.same first in
    let read = c.in_ok-purges.ensures.read first in
    let made = c.in-Ok.ensures.made clean (subst IsFormOne (sym same.0.now_is) read.0) in
    made_in old.now.trees new c.in_ok-purges.purges (subst (λ (d : Database). IsMade (IsUnadmitted d.trees) new) same.0.now_is made) read.1

pub returns-in-Ok-clause-master : goal.returns-in-Ok-clause-master
returns-in-Ok-clause-master g c clean =
    let old = state g.S.Store c.args.conn.now in
    let new = state g.S.Store c.bring_over.new.conn in
    let first : HasCleanDisk (state g.S.Store c.read_first.new.conn) = omega (arith, c.bring_over.ensures.survives.clean, clean) in
    let same = c.in_ok-purges.ensures.same first in
    let read = c.in_ok-purges.ensures.read first in
    let made = c.in-Ok.ensures.made clean (subst IsFormOne (sym same.0.now_is) read.0) in
    made_second old.now.trees new c.in_ok-purges.purges (subst (λ (d : Database). IsMade (IsUnadmitted d.trees) new) same.0.now_is made) read.1
