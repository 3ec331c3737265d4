-- How what is gathered of a run goes on: it stays, or more is put behind it, or it is lost; and two such steps make
-- one.
use Rattle.std.proofs.Common.{◌≡◌, List, ◌++◌, [], Option, Some, None, sym, ap, ◌∙◌, subst}
use Rattle.std.proofs.lemmas.List.{append-nil, append_assoc}
use Rattle.node_book.specs.declared.record.Record.{Record}
use Rattle.purge_master.specs.declared.book.MasterEntry.{MasterEntry}
use Rattle.cluster_console.specs.Checked.{Gathered, GoesOn}

-- what is gathered goes on as itself
stays : (gathered : Option Gathered) → GoesOn gathered gathered
stays None = tt
stays (Some g) = ([], [], sym (append-nil g.records), sym (append-nil g.entries))

-- what stays as it was goes on
pub goes_on : (old new : Option Gathered) → new ≡ old → GoesOn old new
goes_on old new same = subst (λ n. GoesOn old n) (sym same) (stays old)

-- two steps in a row make one
pub goes_on_twice : (old middle new : Option Gathered) → GoesOn old middle → GoesOn middle new → GoesOn old new
goes_on_twice old middle None first second = tt
goes_on_twice old None (Some new) first second = elim second [ ]
goes_on_twice None (Some middle) (Some new) first second = elim first [ ]
goes_on_twice (Some old) (Some middle) (Some new) (records, entries, has_records, has_entries) (more, others, has_more, has_others) = (
  records ++ more,
  entries ++ others,
  has_more ∙ (ap (λ (rs : List Record). rs ++ more) has_records ∙ append_assoc old.records records more),
  has_others ∙ (ap (λ (es : List MasterEntry). es ++ others) has_entries ∙ append_assoc old.entries entries others),
)
