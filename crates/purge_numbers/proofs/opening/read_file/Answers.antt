use Rattle.std.proofs.Common.{◌≡◌, not, true, false, sym, refl, ◌∙◌}
use Rattle.sqlite.specs.Held.{state}
use Rattle.purge_numbers.proofs.OpenLemmas.{read_node}
use Rattle.purge_numbers.proofs.opening.read_file.Goals as goal

off : (b : _) → true ≡ not b → b ≡ false
off true h = absurd (cc)
off false h = refl

pub returns-clause-node : goal.returns-clause-node
returns-clause-node g c = read_node (state g.S.Store c.args.conn.now) (state g.S.Store c.read_tables.new.conn) c.read_tables.result
    (off _ (sym c.if-not-is_autocommit.false ∙ c.is_autocommit.ensures.value)) c.read_tables.ensures.read c.read_tables.ensures.same
