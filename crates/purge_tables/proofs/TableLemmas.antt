-- A record is its fields, so an index whose parts were compared one by one is the wanted index. Its
-- name ends in the decimal text of 1, which is one digit.
use Rattle.std.proofs.Common.{◌≡◌, [], ◌∷◌, arith}
use Rattle.std.specs.Fmt.{decimal}
use Rattle.std.proofs.lemmas.Fmt.{decimal_digit}
use Rattle.sqlite_schema.specs.declared.schema.Index.{Index}

pub same_index : (i j : Index) → i.name ≡ j.name → i.tree ≡ j.tree → i.table ≡ j.table → i.columns ≡ j.columns → i.order ≡ j.order → i.is_unique ≡ j.is_unique →
    i ≡ j
same_index i j a b c d e f = λ k. record { name = a k; tree = b k; table = c k; columns = d k; order = e k; is_unique = f k }

pub one_digit : decimal 1 ≡ 49 ∷ []
one_digit = decimal_digit 1 (omega arith)
