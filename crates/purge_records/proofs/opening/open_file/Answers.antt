-- Where the file was blank, its tables were made, so it is read as a file without purges; else the
-- file is read as it was. The step limit matters to neither.
use Rattle.std.proofs.Common.{◌≡◌, not, true, false, sym, ap, subst, refl, ◌∙◌}
use Rattle.sqlite.specs.State.{HasCleanDisk}
use Rattle.sqlite.specs.Held.{state}
use Rattle.purge_tables.specs.Making.{IsBlank}
use Rattle.purge_records.specs.Making.{IsMasterFile, OpensWith}
use Rattle.purge_records.specs.Store.{MayFind, committed_purges}
use Rattle.purge_records.proofs.CallLemmas.{ok_then}
use Rattle.purge_records.proofs.OpenLemmas.{opens_same, leaves_same, opened_found, opened_blank, opened_crash}
use Rattle.purge_records.proofs.opening.open_file.Goals as goal

off : (b : _) → true ≡ not b → b ≡ false
off true h = absurd (cc)
off false h = refl

pub returns-in_err-make_where_blank-clause-crash : goal.returns-in_err-make_where_blank-clause-crash
returns-in_err-make_where_blank-clause-crash g c =
    let lifted = c.set_step_limit.ensures in
    leaves_same (state g.S.Store c.set_step_limit.new.self) (state g.S.Store c.args.conn.now) (state g.S.Store c.make_where_blank.new.conn)
    (ap (λ h. (state g.S.Store h).in_transaction) lifted) (ap (λ h. (state g.S.Store h).now) lifted) (ap (λ h. (state g.S.Store h).committed) lifted)
    (λ left may. subst (λ h. MayFind (state g.S.Store h) left) lifted may) c.in_err-make_where_blank.ensures.crash

pub returns-clause-found : goal.returns-clause-found
returns-clause-found g c =
    let lifted = c.set_step_limit.ensures in
    let autocommit = off _ (sym c.if-not-is_autocommit.false ∙ c.is_autocommit.ensures.value) in
    let new = state g.S.Store c.read_file.new.conn in
    ok_then c.read_file.result
    (HasCleanDisk new → IsMasterFile (state g.S.Store c.make_where_blank.new.conn)
    × OpensWith (state g.S.Store c.make_where_blank.new.conn) (committed_purges new))
    (HasCleanDisk new → OpensWith (state g.S.Store c.args.conn.now) (committed_purges new)) c.read_file.ensures.found (λ found clean.
    opens_same (state g.S.Store c.set_step_limit.new.self) (state g.S.Store c.args.conn.now) (committed_purges new)
    (ap (λ h. (state g.S.Store h).in_transaction) lifted) (ap (λ h. (state g.S.Store h).now) lifted) (ap (λ h. (state g.S.Store h).committed) lifted)
    (opened_found g.S.Store c.set_step_limit.new.self c.make_where_blank.new.conn new autocommit c.read_file.ensures.honest
    c.in_ok-make_where_blank.ensures.done (committed_purges new) (found clean).1 clean))

pub returns-clause-blank : goal.returns-clause-blank
returns-clause-blank g c blank mode clean refused =
    let autocommit = off _ (sym c.if-not-is_autocommit.false ∙ c.is_autocommit.ensures.value) in
    c.read_file.ensures.bad refused clean (opened_blank g.S.Store c.set_step_limit.new.self c.make_where_blank.new.conn (state g.S.Store c.read_file.new.conn)
    autocommit c.read_file.ensures.honest c.in_ok-make_where_blank.ensures.done
    (subst (λ h. IsBlank (state g.S.Store h).now) (sym c.set_step_limit.ensures) blank) clean)

pub returns-clause-crash : goal.returns-clause-crash
returns-clause-crash g c =
    let lifted = c.set_step_limit.ensures in
    let autocommit = off _ (sym c.if-not-is_autocommit.false ∙ c.is_autocommit.ensures.value) in
    let new = state g.S.Store c.read_file.new.conn in
    leaves_same (state g.S.Store c.set_step_limit.new.self) (state g.S.Store c.args.conn.now) new
    (ap (λ h. (state g.S.Store h).in_transaction) lifted) (ap (λ h. (state g.S.Store h).now) lifted) (ap (λ h. (state g.S.Store h).committed) lifted)
    (λ left may. subst (λ h. MayFind (state g.S.Store h) left) lifted may)
    (opened_crash g.S.Store c.set_step_limit.new.self c.make_where_blank.new.conn new autocommit c.read_file.ensures.honest
    c.in_ok-make_where_blank.ensures.done c.in_ok-make_where_blank.ensures.crash c.read_file.ensures.crash)
