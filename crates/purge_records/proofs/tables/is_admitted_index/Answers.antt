-- The index is compared field by field. Its name ends in the decimal text of 1.
use Rattle.std.proofs.Common.{◌≡◌, ◌++◌, refl, sym, ap, ◌∙◌, codes, arith}
use Rattle.sqlite_schema.specs.declared.schema.Index.{Index}
use Rattle.purge_tables.proofs.TableLemmas.{same_index, one_digit}
use Rattle.purge_records.specs.Tables.{admitted_index}
use Rattle.purge_records.proofs.tables.is_admitted_index.Goals as goal

pub returns-clause-yes : goal.returns-clause-yes
returns-clause-yes c unique =
    let i = c.args.index.now in
    let order : i.order ≡ record { digits = 0 } = λ k. record { digits = (let zero : i.order.digits ≡ 0 = omega arith in zero) k } in
    same_index i admitted_index (c.if-not-is_named.ensures.yes refl ∙ c.as_slice.ensures ∙ ap (λ d. codes "sqlite_autoindex_admitted_" ++ d) (sym one_digit))
    (omega arith) (omega arith) (c.if-not-is_place.ensures.yes refl) order unique

pub returns-then-not-is_named-clause-no : goal.returns-then-not-is_named-clause-no
returns-then-not-is_named-clause-no c refused is =
    c.if-not-is_named.ensures.no refl (ap (λ (i : Index). i.name) is ∙ ap (λ d. codes "sqlite_autoindex_admitted_" ++ d) one_digit ∙ sym c.as_slice.ensures)
