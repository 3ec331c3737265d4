use Rattle.std.proofs.Common.{arith, ap, sym, ◌∙◌}
use Rattle.std.proofs.lemmas.Int.{to_z-of_z}
use mir.Syntax.{w64}
use Rattle.sqlite_sql.specs.declared.ops.CompareOp.TheVariants.{Eq}
use Rattle.purge_tables.specs.Tables.{comparison}
use Rattle.purge_tables.proofs.CheckLemmas.{compares, compares_not, single}
use Rattle.purge_tables.proofs.checks.is_equal_at.Goals as goal

pub returns-then-nodes-lt2-clause-no : goal.returns-then-nodes-lt2-clause-no
returns-then-nodes-lt2-clause-no c refused = single c.args.nodes.now c.args.at _ _ _ _ (omega (arith, c.if-nodes-lt2.true))

pub returns-clause-yes : goal.returns-clause-yes
returns-clause-yes c held = compares c.args.nodes.now c.args.at _ (omega (arith, c.if-nodes-lt2.false)) (c.is_bound_at.ensures.yes held)
    ∙ ap (comparison c.args.place Eq) (to_z-of_z w64 c.args.number c.ranges.number)

pub returns-clause-no : goal.returns-clause-no
returns-clause-no c refused is = compares_not c.args.nodes.now c.args.at _ (omega (arith, c.if-nodes-lt2.false)) (c.is_bound_at.ensures.no refused)
    (is ∙ ap (comparison c.args.place Eq) (sym (to_z-of_z w64 c.args.number c.ranges.number)))
