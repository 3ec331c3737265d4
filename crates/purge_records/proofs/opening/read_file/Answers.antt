use Rattle.std.proofs.Common.{◌≡◌, not, true, false, sym, refl, ◌∙◌}
use Rattle.sqlite.specs.Held.{state}
use Rattle.purge_records.proofs.OpenLemmas.{read_master}
use Rattle.purge_records.proofs.opening.read_file.Goals as goal

off : (b : _) → true ≡ not b → b ≡ false
off true h = absurd (cc)
off false h = refl

pub returns-clause-master : goal.returns-clause-master
returns-clause-master g c = read_master (state g.S.Store c.args.conn.now) (state g.S.Store c.read_tables.new.conn) c.read_tables.result
    (off _ (sym c.if-not-is_autocommit.false ∙ c.is_autocommit.ensures.value)) c.read_tables.ensures.read c.read_tables.ensures.same
