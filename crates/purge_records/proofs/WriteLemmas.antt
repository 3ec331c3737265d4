-- What the statements of `add`, `admit`, `mark` and `finish` do to a master's file: each edits one table
-- and leaves the others (`StepLemmas`), and the rows after it mean the changed purges (`RowLemmas`) and
-- admissions (`AdmitLemmas`).
use Rattle.std.proofs.Common.{◌≡◌, ◌⊎◌, inl, inr, ℕ, ℤ, pos, ◌<◌, ◌≤◌, ◌==◌, ◌^◌, Bool, true, false, not, ◌&&◌, List, [], ◌∷◌, map, filter, length}
use Rattle.std.proofs.Common.{Option, None, Ok}
use Rattle.std.proofs.Common.{Err, Result, OnOk, if◌then◌else◌, refl, sym, ap, subst, ◌∙◌, arith}
use Rattle.std.specs.List.{AllByRecursion, list_any}
use Rattle.std.specs.Ordering.{is_eq}
use Rattle.std.proofs.lemmas.Bool.{cases_Bool, ne_eqb, eqb-true, eqb-false}
use Rattle.std.proofs.lemmas.List.Sorted.{length_permutation}
use Rattle.std.specs.List.Sorted.{IsPermutation}
use Rattle.sqlite.specs.declared.types.Value.TheVariants.{Null, Int, Text as Words}
use Rattle.sqlite_value.specs.Order.{Row, column, value_cmp}
use Rattle.sqlite_trees.specs.Tree.{Trees, rowid, has_rowid, without_rowid, put_row}
use Rattle.sqlite_rules.specs.Lists.{Has}
use Rattle.sqlite_rules.specs.Edit.{edit_of, edited, left_by, is_taken, are_fresh, next_rowid, without_all}
use Rattle.sqlite_rules.specs.Calls.{ids_of}
use Rattle.sqlite_rules.specs.declared.error.Rowids.TheVariants.{Chosen, Given}
use Rattle.sqlite_rules.proofs.ListLemmas.{all_from, all_has, some_has}
use Rattle.sqlite.specs.Source.TheVariants.{Values}
use Rattle.sqlite.specs.Term.{lit, col, holds}
use Rattle.sqlite.specs.Query.{IsAnswer, output}
use Rattle.sqlite.specs.Program.{overlay}
use Rattle.sqlite.specs.Effect.{Database}
use Rattle.sqlite.specs.Does.{Does, Tally}
use Rattle.sqlite.specs.declared.run.Mode.{Mode}
use Rattle.sqlite.specs.Listing.{understood}
use Rattle.sqlite.specs.State.{State, HasCleanDisk, Executes, mode_of}
use Rattle.sqlite.specs.declared.error.Error.{Error}
use Rattle.sqlite.proofs.Callers.{runs_as, statement_of, one_permutation}
use Rattle.std.specs.List.{list_all}
use Rattle.url_key.specs.Key.{IsKey}
use Rattle.purge_tables.specs.Making.{Makes}
use Rattle.purge_tables.specs.Rows.{HasVersion}
use Rattle.purge_tables.proofs.StatementLemmas.{cast_null, cast_int, Ran, inside}
use Rattle.purge_tables.proofs.StepLemmas.{base, task_on, concluded, inserted, deleted, updated}
use Rattle.purge_tables.proofs.VersionLemmas.{version_is}
use Rattle.purge_tables.proofs.QueryLemmas.{answered, all_matched}
use Rattle.purge_rules.specs.Purges.{PurgeList, no_purges, ended_at, with_purge, with_admission, with_mark}
use Rattle.purge_rules.specs.Places.{given_to, with_admissions, with_ended, without_purge}
use Rattle.purge_rules.specs.Store.{Misses}
use Rattle.purge_records.specs.Tables.{last_table, pending_table, acks_table, admitted_table, master_schema, last_in, number_of, ack_number, admitted_number}
use Rattle.purge_records.specs.Tables.{admitted_member, admitted_in, admissions_of, purges_of, purges_in, shown_last, is_purge, IsLast}
use Rattle.purge_records.specs.Tables.{IsPending, IsAck, IsAdmission, AreRows, AreAdmitted, AreTables, HasOwnNumbers}
use Rattle.purge_records.specs.Store.{IsMaster}
use Rattle.purge_records.specs.Making.{IsUnadmitted, IsUnused}
use Rattle.purge_records.specs.Writing.{Holds, HasGiven, HasNoAcks}
use Rattle.purge_records.proofs.RowLemmas.{given_rows, given_below, purge_row, put_is, added_rows, added_is, ack_row, marked_rows, marked_is, missed}
use Rattle.purge_records.proofs.RowLemmas.{other_acks, cleared_rows, cleared_none, cleared_is, other_rows, dropped_rows, dropped_is}
use Rattle.purge_records.proofs.RowLemmas.{all_map, none_end, none_kept, none_below}
use Rattle.purge_records.proofs.AdmitLemmas.{kept_admitted, admitted_below, admitted_row, more_admitted, more_is, ended_row, ended_admitted}
use Rattle.purge_records.proofs.AdmitLemmas.{admission_ends, none_ends}
use Rattle.purge_records.proofs.AnswerLemmas.{some_matched, filter_same, finds_number, own_rowid, tied_number, same_row, only_id, deleted_is}
use Rattle.purge_records.proofs.ReadLemmas.{last_is}
use Rattle.purge_records.proofs.Texts as text

-- a tree that keeps its rows
abbrev at : ℕ → Trees → List Row
at t trees = trees t

-- the rows of `admitted` in a file of form 1
pub admitted_one : (trees : Trees) → HasVersion 1 (trees 0) → admitted_in trees ≡ []
admitted_one trees h = ap (λ (v : ℕ). if v == 2 then trees 5 else []) (version_is 1 (trees 0) h)

-- the rows of `admitted` in a file of form 2
pub admitted_two : (trees : Trees) → HasVersion 2 (trees 0) → admitted_in trees ≡ trees 5
admitted_two trees h = ap (λ (v : ℕ). if v == 2 then trees 5 else []) (version_is 2 (trees 0) h)

stays : (old new : Trees) → HasVersion 2 (old 0) → HasVersion 2 (new 0) → new 5 ≡ old 5 → admitted_in new ≡ admitted_in old
stays old new was is same = admitted_two new is ∙ same ∙ sym (admitted_two old was)

-- what the tables mean, of their parts
pub means : (trees : Trees) (q : PurgeList) (rows : List Row) → purges_of (trees 1) (trees 2) (trees 3) ≡ q → admitted_in trees ≡ rows →
    purges_in trees ≡ with_admissions q (admissions_of rows)
means trees q rows first second = λ i. with_admissions (first i) (admissions_of (second i))

-- `admitted` is valid, of its parts
admits : (trees : Trees) (one pending rows : List Row) → trees 1 ≡ one → trees 2 ≡ pending → admitted_in trees ≡ rows →
    AreAdmitted (last_in one) pending rows → AreAdmitted (last_in (trees 1)) (trees 2) (admitted_in trees)
admits trees one pending rows first second third are =
    subst (λ xs. AreAdmitted (last_in xs) (trees 2) (admitted_in trees)) (sym first)
    (subst (λ xs. AreAdmitted (last_in one) xs (admitted_in trees)) (sym second) (subst (λ xs. AreAdmitted (last_in one) pending xs) (sym third) are))

-- a file of form 1 that was brought to form 2 has the same purges
pub brought_over : (rows : Trees) (db : Database) → HasVersion 1 (rows 0) → IsUnadmitted rows db → purges_in db.trees ≡ purges_in rows
brought_over rows db one is = means db.trees (purges_of (rows 1) (rows 2) (rows 3)) [] (λ i. purges_of (is.2.0 i) (is.2.1 i) (is.2.2 i))
    (admitted_two db.trees is.1 ∙ is.3)
    ∙ ap (λ more. with_admissions (purges_of (rows 1) (rows 2) (rows 3)) (admissions_of more)) (sym (admitted_one rows one))

-- a new file has no purges
pub unused_none : (db : Database) → IsUnused db → purges_in db.trees ≡ no_purges
unused_none db is = means db.trees (purges_of (db.trees 1) [] []) [] (λ i. purges_of (db.trees 1) (is.3 i) (is.4 i)) (admitted_two db.trees is.1 ∙ is.5)
    ∙ (λ i. record { last = last_is (db.trees 1) 0 is.2 i; pending = []; admissions = [] })

-- ---- the number is given

abbrev last_row : ℕ → Row
last_row n = Int (pos 1) ∷ Null ∷ Int (pos n) ∷ []

abbrev given_shown : ℕ → Row → Row
given_shown n r = column r 0 ∷ column r 0 ∷ Null ∷ Int (pos n) ∷ []

abbrev one_param : ℕ → Row
one_param n = Int (pos n) ∷ []

given_answer : (trees : Trees) (n : ℕ) (xs : List Row) → IsAnswer text.give_query (overlay trees []) (one_param n) xs →
    IsPermutation (map (given_shown n) (trees 1)) xs
given_answer trees n xs a = answered (λ r. []) (given_shown n) (trees 1) xs a.kept a.ordered
    (a.distinct ∙ ap (map (output text.give_query)) a.grouped ∙ all_matched (output text.give_query) (one_param n) (trees 1)) a.same a.shown

-- the one row of `last` is replaced
replaced : (trees : Trees) (n k : ℕ) (xs : List Row) → IsLast k (trees 1) → IsPermutation (map (given_shown n) (trees 1)) xs →
    edited trees (edit_of trees last_table (ids_of xs) Given 1 xs) ≡ last_row n ∷ []
replaced trees n k xs is same = go (trees 1) refl is same
  where
    one_of : (r : Row) (rs : List Row) → trees 1 ≡ r ∷ rs → map shown_last (r ∷ rs) ≡ (Int (pos 1) ∷ Int (pos k) ∷ []) ∷ [] → rs ≡ []
    one_of r [] e h = refl
    one_of r (s ∷ rs) e h = absurd (let two = ap length h in omega (arith, two))

    only : (r : Row) → rowid r ≡ Int (pos 1) → trees 1 ≡ r ∷ [] → xs ≡ given_shown n r ∷ [] →
        edited trees (edit_of trees last_table (ids_of xs) Given 1 xs) ≡ last_row n ∷ []
    only r id e shown = rw (e, shown, id, cast_int (pos 1), cast_null, cast_int (pos n), own_rowid (Int (pos 1))) refl

    go : (rows : List Row) → trees 1 ≡ rows → IsLast k rows → IsPermutation (map (given_shown n) rows) xs →
        edited trees (edit_of trees last_table (ids_of xs) Given 1 xs) ≡ last_row n ∷ []
    go [] e h same = absurd (cc)
    go (r ∷ rs) e h same =
        let none = one_of r rs e h in
        let id : rowid r ≡ Int (pos 1) = cc in
        only r id (e ∙ ap (λ more. r ∷ more) none)
        (one_permutation (given_shown n r) xs (subst (λ more. IsPermutation (map (given_shown n) (r ∷ more)) xs) none same))

-- the statement sets the one row of `last`, and under a greater last number the other rows stay valid
pub give_step : (old new : State) (before : PurgeList) (n count : ℕ) → n ≤ 4294967295 → before.last < n → Holds before old.now →
    Executes text.give_text (one_param n) old new (Ok count) → HasGiven before n new.now
give_step old new before n count high above from h =
    let db = old.now.trees in
    let master = from.master in
    let w = runs_as text.give_text (one_param n) old new master_schema master.schema text.give_command text.give_is text.give_plain count h in
    let sql = statement_of text.give_text (understood master_schema text.give_text) in
    let does = subst (λ s. Does old.step_limit (mode_of old) (one_param n) (base s db) sql None text.give_command (Ok (w.tally, new.now))) master.schema
    w.changed in
    let done = concluded (task_on old.step_limit (mode_of old).keys master_schema last_table (one_param n)) (mode_of old) text.give_command db w.tally new.now
    does in
    let step = updated (task_on old.step_limit (mode_of old).keys master_schema last_table (one_param n)) (record { lets = []; body = text.give_query }) db
    done.0 (λ olds news. refl) done.1 in
    let trees : new.now.trees ≡ done.0.trees = ap (λ (d : Database). d.trees) done.2 in
    let was : last_in (db 1) ≡ before.last = ap (λ (p : PurgeList). p.last) from.same in
    let form : new.now.trees 0 ≡ db 0 = ap (at 0) trees ∙ step.2.tables.0 (omega arith) in
    let last : new.now.trees 1 ≡ last_row n ∷ [] = ap (at 1) trees ∙ step.2.rows ∙ replaced db n (last_in (db 1)) step.0 master.tables.rows.last
    (given_answer db n step.0 (step.1.answer Null)) in
    let pending : new.now.trees 2 ≡ db 2 = ap (at 2) trees ∙ step.2.tables.1.1.0 (omega arith) in
    let acks : new.now.trees 3 ≡ db 3 = ap (at 3) trees ∙ step.2.tables.1.1.1.0 (omega arith) in
    let rows : AreRows (last_row n ∷ []) (db 2) (db 3) = given_rows (db 1) (last_row n ∷ []) (db 2) (db 3) n master.tables.rows (omega (arith, was, above)) high
    refl refl in
    let version : HasVersion 2 (new.now.trees 0) = subst (HasVersion 2) (sym form) master.version in
    let both = stays old.now.trees new.now.trees master.version version (ap (at 5) trees ∙ step.2.tables.1.1.1.1.0 (omega arith)) in
    let up : last_in (db 1) < n = omega (arith, was, above) in record {
      master = record {
        schema = ap (λ (d : Database). d.schema) done.2;
        version = version;
        tables = record {
          rows = rw (last, pending, acks) rows;
          admitted = admits new.now.trees (last_row n ∷ []) (db 2) (admitted_in db) last pending both
              (kept_admitted (last_in (db 1)) n (db 2) (db 2) (admitted_in db) (omega (arith, up)) (λ r has is. is.apart) master.tables.admitted);
        };
      };
      same = means new.now.trees (given_to (purges_of (db 1) (db 2) (db 3)) n) (admitted_in db)
          (λ i. purges_of (last i) (pending i) (acks i)) both ∙ ap (λ (p : PurgeList). given_to p n) from.same;
      below = rw pending (given_below (db 1) (db 2) (db 3) n master.tables.rows up);
      admitted = subst (AllByRecursion (λ row. admitted_number row < n)) (sym both)
          (admitted_below (last_in (db 1)) n (db 2) (admitted_in db) up master.tables.admitted);
    }

-- ---- the purge is added

abbrev pub two_params : ℕ → List ℕ → Row
two_params n u = Int (pos n) ∷ Words u ∷ []

added_row : (db : Trees) (given : List Row) (n : ℕ) (u : List ℕ) → given ≡ (Int (pos n) ∷ Null ∷ Words u ∷ []) ∷ [] →
    edited db (edit_of db pending_table [] Chosen 0 given) ≡ put_row (purge_row n u) (db 2)
added_row db given n u is = rw (is, cast_int (pos n), cast_null) refl

-- the statement puts one row into `pending`, whose number is above those of all rows
pub put_step : (old new : State) (before : PurgeList) (n : ℕ) (u : List ℕ) (count : ℕ) → 1 ≤ n → IsKey u → HasGiven before n old.now →
    Executes text.put_text (two_params n u) old new (Ok count) → Holds (with_purge before n u) new.now
put_step old new before n u count low key from h =
    let db = old.now.trees in
    let master = from.master in
    let w = runs_as text.put_text (two_params n u) old new master_schema master.schema text.put_command text.put_is text.put_plain count h in
    let sql = statement_of text.put_text (understood master_schema text.put_text) in
    let does = subst (λ s. Does old.step_limit (mode_of old) (two_params n u) (base s db) sql None text.put_command (Ok (w.tally, new.now))) master.schema
    w.changed in
    let done = concluded (task_on old.step_limit (mode_of old).keys master_schema pending_table (two_params n u)) (mode_of old) text.put_command db w.tally
    new.now does in
    let step = inserted old.step_limit (mode_of old).keys master_schema pending_table (two_params n u) (Values (col 0 0 ∷ lit Null ∷ col 0 1 ∷ []) 3) db done.0
    done.1 in
    let trees : new.now.trees ≡ done.0.trees = ap (λ (d : Database). d.trees) done.2 in
    let was : last_in (db 1) ≡ n = ap (λ (p : PurgeList). p.last) from.same in
    let form : new.now.trees 0 ≡ db 0 = ap (at 0) trees ∙ step.2.tables.0 (omega arith) in
    let last : new.now.trees 1 ≡ db 1 = ap (at 1) trees ∙ step.2.tables.1.0 (omega arith) in
    let pending : new.now.trees 2 ≡ put_row (purge_row n u) (db 2) = ap (at 2) trees ∙ step.2.rows ∙ added_row db step.0 n u step.1.1 in
    let acks : new.now.trees 3 ≡ db 3 = ap (at 3) trees ∙ step.2.tables.1.1.1.0 (omega arith) in
    let version : HasVersion 2 (new.now.trees 0) = subst (HasVersion 2) (sym form) master.version in
    let both = stays old.now.trees new.now.trees master.version version (ap (at 5) trees ∙ step.2.tables.1.1.1.1.0 (omega arith)) in
    let end = put_is (db 1) (db 2) (db 3) n u master.tables.rows was from.below in record {
      master = record {
        schema = ap (λ (d : Database). d.schema) done.2;
        version = version;
        tables = record {
          rows = rw (last, pending, acks) (added_rows (db 1) (db 2) (db 3) n u master.tables.rows was from.below low key);
          admitted = admits new.now.trees (db 1) (put_row (purge_row n u) (db 2)) (admitted_in db) last pending both
              (kept_admitted (last_in (db 1)) (last_in (db 1)) (db 2) (put_row (purge_row n u) (db 2)) (admitted_in db) (omega arith)
              (λ r has is. subst (λ rs. list_any (is_purge (admitted_number r)) rs ≡ false) (sym end)
              (none_end (is_purge (admitted_number r)) (db 2) (purge_row n u) is.apart
              (ne_eqb n (admitted_number r) (λ e. let lower = all_has (λ row. admitted_number row < n) (admitted_in db) r from.admitted has in
              omega (arith, e, lower))))) master.tables.admitted);
        };
      };
      same = means new.now.trees _ (admitted_in db)
          ((λ i. purges_of (last i) (pending i) (acks i)) ∙ added_is (db 1) (db 2) (db 3) n u master.tables.rows was from.below) both
          ∙ ap (λ (p : PurgeList). with_purge p n u) from.same;
    }

-- ---- the acks of a purge are cleared

cleared_answer : (trees : Trees) (n : ℕ) (xs : List Row) → AllByRecursion (IsAck (trees 2)) (trees 3) →
    IsAnswer text.clear_query (overlay trees []) (one_param n) xs
    → IsPermutation (map only_id (filter (λ r. ack_number r == n) (trees 3))) xs
cleared_answer trees n xs are a =
    let test = λ (r : Row). list_all (holds (one_param n ∷ r ∷ [])) text.clear_query.filter in
    let same : filter test (trees 3) ≡ filter (λ r. ack_number r == n) (trees 3) = filter_same test (λ r. ack_number r == n) (trees 3)
    (all_from _ (trees 3) (λ r has. finds_number (one_param n) r 1 (ack_number r) n (all_has (IsAck (trees 2)) (trees 3) r are has).number refl)) in
    subst (λ rs. IsPermutation (map only_id rs) xs) same
    (answered (λ r. []) only_id (filter test (trees 3)) xs a.kept a.ordered (a.distinct ∙ ap (map (output text.clear_query)) a.grouped
    ∙ some_matched (output text.clear_query) (one_param n) test (trees 3)) a.same a.shown)

-- the statement takes the rows of `acks` that have the number, and no others
pub clear_step : (old new : State) (before : PurgeList) (n count : ℕ) → Holds before old.now → Executes text.clear_text (one_param n) old new (Ok count) →
    HasNoAcks before n new.now
clear_step old new before n count from h =
    let db = old.now.trees in
    let master = from.master in
    let w = runs_as text.clear_text (one_param n) old new master_schema master.schema text.clear_command text.clear_is text.clear_plain count h in
    let sql = statement_of text.clear_text (understood master_schema text.clear_text) in
    let does = subst (λ s. Does old.step_limit (mode_of old) (one_param n) (base s db) sql None text.clear_command (Ok (w.tally, new.now))) master.schema
    w.changed in
    let done = concluded (task_on old.step_limit (mode_of old).keys master_schema acks_table (one_param n)) (mode_of old) text.clear_command db w.tally new.now
    does in
    let step = deleted (task_on old.step_limit (mode_of old).keys master_schema acks_table (one_param n)) (record { lets = []; body = text.clear_query }) db
    done.0 (λ olds news. refl) done.1 in
    let trees : new.now.trees ≡ done.0.trees = ap (λ (d : Database). d.trees) done.2 in
    let form : new.now.trees 0 ≡ db 0 = ap (at 0) trees ∙ step.2.tables.0 (omega arith) in
    let last : new.now.trees 1 ≡ db 1 = ap (at 1) trees ∙ step.2.tables.1.0 (omega arith) in
    let pending : new.now.trees 2 ≡ db 2 = ap (at 2) trees ∙ step.2.tables.1.1.0 (omega arith) in
    let ints = all_from (λ r. (id : ℤ) × (rowid r ≡ Int id)) (db 3) (λ r has. (all_has (IsAck (db 2)) (db 3) r master.tables.rows.acks has).id) in
    let left : without_all (db 3) (ids_of step.0) ≡ other_acks n (db 3) = deleted_is (db 3) step.0 (λ r. ack_number r == n) ints master.tables.rows.ids
    (cleared_answer db n step.0 master.tables.rows.acks (step.1.answer Null)) in
    let acks : new.now.trees 3 ≡ other_acks n (db 3) = ap (at 3) trees ∙ step.2.rows ∙ left in
    let version : HasVersion 2 (new.now.trees 0) = subst (HasVersion 2) (sym form) master.version in
    let both = stays old.now.trees new.now.trees master.version version (ap (at 5) trees ∙ step.2.tables.1.1.1.1.0 (omega arith)) in record {
      master = record {
        schema = ap (λ (d : Database). d.schema) done.2;
        version = version;
        tables = record {
          rows = rw (last, pending, acks) (cleared_rows (db 1) (db 2) (db 3) n master.tables.rows);
          admitted = admits new.now.trees (db 1) (db 2) (admitted_in db) last pending both master.tables.admitted;
        };
      };
      same = ap (λ (p : PurgeList). without_purge p n) (means new.now.trees _ (admitted_in db) (λ i. purges_of (last i) (pending i) (acks i)) both)
          ∙ ap (λ (p : PurgeList). with_admissions p (admissions_of (admitted_in db))) (cleared_is (db 1) (db 2) (db 3) n)
          ∙ ap (λ (p : PurgeList). without_purge p n) from.same;
      none = rw acks (cleared_none n (db 3));
    }

-- ---- the purge is dropped

dropped_answer : (trees : Trees) (n k : ℕ) (xs : List Row) → AllByRecursion (IsPending k) (trees 2) →
    IsAnswer text.drop_query (overlay trees []) (one_param n) xs
    → IsPermutation (map only_id (filter (λ r. number_of r == n) (trees 2))) xs
dropped_answer trees n k xs are a =
    let test = λ (r : Row). list_all (holds (one_param n ∷ r ∷ [])) text.drop_query.filter in
    let same : filter test (trees 2) ≡ filter (λ r. number_of r == n) (trees 2) = filter_same test (λ r. number_of r == n) (trees 2)
    (all_from _ (trees 2) (λ r has. finds_number (one_param n) r 0 (number_of r) n (all_has (IsPending k) (trees 2) r are has).number refl)) in
    subst (λ rs. IsPermutation (map only_id rs) xs) same
    (answered (λ r. []) only_id (filter test (trees 2)) xs a.kept a.ordered (a.distinct ∙ ap (map (output text.drop_query)) a.grouped
    ∙ some_matched (output text.drop_query) (one_param n) test (trees 2)) a.same a.shown)

-- the statement takes the one row of the purge, which no acknowledgement names any more
pub drop_step : (old new : State) (before : PurgeList) (n count : ℕ) → HasNoAcks before n old.now → Executes text.drop_text (one_param n) old new (Ok count) →
    Holds (without_purge before n) new.now
drop_step old new before n count from h =
    let db = old.now.trees in
    let master = from.master in
    let w = runs_as text.drop_text (one_param n) old new master_schema master.schema text.drop_command text.drop_is text.drop_plain count h in
    let sql = statement_of text.drop_text (understood master_schema text.drop_text) in
    let does = subst (λ s. Does old.step_limit (mode_of old) (one_param n) (base s db) sql None text.drop_command (Ok (w.tally, new.now))) master.schema
    w.changed in
    let done = concluded (task_on old.step_limit (mode_of old).keys master_schema pending_table (one_param n)) (mode_of old) text.drop_command db w.tally
    new.now does in
    let step = deleted (task_on old.step_limit (mode_of old).keys master_schema pending_table (one_param n)) (record { lets = []; body = text.drop_query }) db
    done.0 (λ olds news. refl) done.1 in
    let trees : new.now.trees ≡ done.0.trees = ap (λ (d : Database). d.trees) done.2 in
    let form : new.now.trees 0 ≡ db 0 = ap (at 0) trees ∙ step.2.tables.0 (omega arith) in
    let last : new.now.trees 1 ≡ db 1 = ap (at 1) trees ∙ step.2.tables.1.0 (omega arith) in
    let acks : new.now.trees 3 ≡ db 3 = ap (at 3) trees ∙ step.2.tables.1.1.1.0 (omega arith) in
    let ints = all_from (λ r. (id : ℤ) × (rowid r ≡ Int id)) (db 2)
    (λ r has. (pos (number_of r), (all_has (IsPending (last_in (db 1))) (db 2) r master.tables.rows.pending has).number)) in
    let left : without_all (db 2) (ids_of step.0) ≡ other_rows n (db 2) = deleted_is (db 2) step.0 (λ r. number_of r == n) ints master.tables.rows.numbered
    (dropped_answer db n (last_in (db 1)) step.0 master.tables.rows.pending (step.1.answer Null)) in
    let pending : new.now.trees 2 ≡ other_rows n (db 2) = ap (at 2) trees ∙ step.2.rows ∙ left in
    let version : HasVersion 2 (new.now.trees 0) = subst (HasVersion 2) (sym form) master.version in
    let both = stays old.now.trees new.now.trees master.version version (ap (at 5) trees ∙ step.2.tables.1.1.1.1.0 (omega arith)) in record {
      master = record {
        schema = ap (λ (d : Database). d.schema) done.2;
        version = version;
        tables = record {
          rows = rw (last, pending, acks) (dropped_rows (db 1) (db 2) (db 3) n master.tables.rows from.none);
          admitted = admits new.now.trees (db 1) (other_rows n (db 2)) (admitted_in db) last pending both
              (kept_admitted (last_in (db 1)) (last_in (db 1)) (db 2) (other_rows n (db 2)) (admitted_in db) (omega arith)
              (λ r has is. none_kept (is_purge (admitted_number r)) (λ x. not (number_of x == n)) (db 2) is.apart) master.tables.admitted);
        };
      };
      same = means new.now.trees _ (admitted_in db) (λ i. purges_of (last i) (pending i) (acks i)) both
          ∙ ap (λ (p : PurgeList). with_admissions p (admissions_of (admitted_in db))) (dropped_is (db 1) (db 2) (db 3) n) ∙ from.same;
    }

-- ---- a member is marked

abbrev pub mark_params : ℕ → ℕ → Row
mark_params n m = Int (pos n) ∷ Int (pos m) ∷ []

marked_row : (db : Trees) (given : List Row) (n m : ℕ) → given ≡ (Null ∷ Int (pos n) ∷ Int (pos m) ∷ []) ∷ [] →
    edited db (edit_of db acks_table [] Chosen 0 given) ≡ put_row (ack_row (next_rowid (db 3)) n m) (db 3)
marked_row db given n m is = rw (is, cast_null, cast_int (pos n), cast_int (pos m)) refl

free_of : (b : Bool) → (not b && true) ≡ true → b ≡ false
free_of true h = absurd (cc)
free_of false h = refl

marked_fresh : (db : Trees) (given : List Row) (n m : ℕ) → given ≡ (Null ∷ Int (pos n) ∷ Int (pos m) ∷ []) ∷ []
    → are_fresh (left_by db (edit_of db acks_table [] Chosen 0 given)) (edit_of db acks_table [] Chosen 0 given).news ≡ true →
    is_taken (db 3) (ack_row (next_rowid (db 3)) n m) ≡ false
marked_fresh db given n m is h = free_of _ (rw (is, cast_null) at h)

-- the statement puts one row into `acks`, and none was there for this purge and this member
pub does_mark : (limit : Option ℕ) (mode : Mode) (db : Trees) (n m : ℕ) (sql : List ℕ) (tally : Tally) (after : Database) → 1 ≤ m → m ≤ 16 →
    HasVersion 2 (db 0) → AreTables db → Misses (purges_in db) n m
    → Does limit mode (mark_params n m) (base master_schema db) sql None text.mark_command (Ok (tally, after)) →
    IsMaster after × (purges_in after.trees ≡ with_mark (purges_in db) n m)
does_mark limit mode db n m sql tally after low high version tables misses h =
    let done = concluded (task_on limit mode.keys master_schema acks_table (mark_params n m)) mode text.mark_command db tally after h in
    let step = inserted limit mode.keys master_schema acks_table (mark_params n m) (Values (lit Null ∷ col 0 0 ∷ col 0 1 ∷ []) 3) db done.0 done.1 in
    let trees : after.trees ≡ done.0.trees = ap (λ (d : Database). d.trees) done.2 in
    let free = marked_fresh db step.0 n m step.1.1 step.2.fresh in
    let there = missed (db 1) (db 2) (db 3) n m low high misses in
    let form : after.trees 0 ≡ db 0 = ap (at 0) trees ∙ step.2.tables.0 (omega arith) in
    let last : after.trees 1 ≡ db 1 = ap (at 1) trees ∙ step.2.tables.1.0 (omega arith) in
    let pending : after.trees 2 ≡ db 2 = ap (at 2) trees ∙ step.2.tables.1.1.0 (omega arith) in
    let acks : after.trees 3 ≡ put_row (ack_row (next_rowid (db 3)) n m) (db 3) = ap (at 3) trees ∙ step.2.rows ∙ marked_row db step.0 n m step.1.1 in
    let now : HasVersion 2 (after.trees 0) = subst (HasVersion 2) (sym form) version in
    let both = stays db after.trees version now (ap (at 5) trees ∙ step.2.tables.1.1.1.1.0 (omega arith)) in (
      record {
        schema = ap (λ (d : Database). d.schema) done.2;
        version = now;
        tables = record {
          rows = rw (last, pending, acks) (marked_rows (db 1) (db 2) (db 3) (next_rowid (db 3)) n m tables.rows free low high there.0 there.1);
          admitted = admits after.trees (db 1) (db 2) (admitted_in db) last pending both tables.admitted;
        };
      },
      means after.trees _ (admitted_in db) (λ i. purges_of (last i) (pending i) (acks i)) both
          ∙ ap (λ (p : PurgeList). with_admissions p (admissions_of (admitted_in db)))
          (marked_is (db 1) (db 2) (db 3) (next_rowid (db 3)) n m tables.rows free low high there.0 there.1),
    )

-- ---- a member is admitted

abbrev pub admit_params : ℕ → ℕ → Row
admit_params m n = Int (pos m) ∷ Int (pos n) ∷ []

admitted_put : (db : Trees) (given : List Row) (m n : ℕ) → given ≡ (Int (pos m) ∷ Null ∷ Int (pos n) ∷ Int (pos 0) ∷ []) ∷ [] →
    edited db (edit_of db admitted_table [] Chosen 0 given) ≡ put_row (admitted_row m n) (db 5)
admitted_put db given m n is = rw (is, cast_int (pos m), cast_null, cast_int (pos n), cast_int (pos 0)) refl

admitted_fresh : (db : Trees) (given : List Row) (m n : ℕ) → given ≡ (Int (pos m) ∷ Null ∷ Int (pos n) ∷ Int (pos 0) ∷ []) ∷ []
    → are_fresh (left_by db (edit_of db admitted_table [] Chosen 0 given)) (edit_of db admitted_table [] Chosen 0 given).news ≡ true →
    is_taken (db 5) (admitted_row m n) ≡ false
admitted_fresh db given m n is h = free_of _ (rw (is, cast_int (pos m)) at h)

-- the statement puts one row into `admitted`, whose member and number no other row has
pub admit_step : (old new : State) (before : PurgeList) (m n count : ℕ) → 1 ≤ m → m ≤ 16 → 1 ≤ n → HasGiven before n old.now →
    Executes text.admit_text (admit_params m n) old new (Ok count) → Holds (with_admission before n m) new.now
admit_step old new before m n count low high positive from h =
    let db = old.now.trees in
    let master = from.master in
    let params = admit_params m n in
    let w = runs_as text.admit_text params old new master_schema master.schema text.admit_command text.admit_is text.admit_plain count h in
    let sql = statement_of text.admit_text (understood master_schema text.admit_text) in
    let does = subst (λ s. Does old.step_limit (mode_of old) params (base s db) sql None text.admit_command (Ok (w.tally, new.now))) master.schema w.changed in
    let done = concluded (task_on old.step_limit (mode_of old).keys master_schema admitted_table params) (mode_of old) text.admit_command db w.tally new.now
    does in
    let step = inserted old.step_limit (mode_of old).keys master_schema admitted_table params (Values (col 0 0 ∷ lit Null ∷ col 0 1 ∷ lit (Int (pos 0)) ∷ []) 4)
    db done.0 done.1 in
    let trees : new.now.trees ≡ done.0.trees = ap (λ (d : Database). d.trees) done.2 in
    let was : last_in (db 1) ≡ n = ap (λ (p : PurgeList). p.last) from.same in
    let form : new.now.trees 0 ≡ db 0 = ap (at 0) trees ∙ step.2.tables.0 (omega arith) in
    let last : new.now.trees 1 ≡ db 1 = ap (at 1) trees ∙ step.2.tables.1.0 (omega arith) in
    let pending : new.now.trees 2 ≡ db 2 = ap (at 2) trees ∙ step.2.tables.1.1.0 (omega arith) in
    let acks : new.now.trees 3 ≡ db 3 = ap (at 3) trees ∙ step.2.tables.1.1.1.0 (omega arith) in
    let version : HasVersion 2 (new.now.trees 0) = subst (HasVersion 2) (sym form) master.version in
    let two = admitted_two db master.version in
    let both : admitted_in new.now.trees ≡ put_row (admitted_row m n) (admitted_in db) = admitted_two new.now.trees version ∙ ap (at 5) trees ∙ step.2.rows
    ∙ admitted_put db step.0 m n step.1.1 ∙ ap (put_row (admitted_row m n)) (sym two) in
    let free : is_taken (admitted_in db) (admitted_row m n) ≡ false = ap (λ rs. is_taken rs (admitted_row m n)) two
    ∙ admitted_fresh db step.0 m n step.1.1 step.2.fresh in
    let none = none_below n (db 2) from.below in record {
      master = record {
        schema = ap (λ (d : Database). d.schema) done.2;
        version = version;
        tables = record {
          rows = rw (last, pending, acks) master.tables.rows;
          admitted = admits new.now.trees (db 1) (db 2) (put_row (admitted_row m n) (admitted_in db)) last pending both
              (more_admitted (last_in (db 1)) n m (db 2) (admitted_in db) master.tables.admitted was positive low high from.admitted none free);
        };
      };
      same = means new.now.trees _ (put_row (admitted_row m n) (admitted_in db)) (λ i. purges_of (last i) (pending i) (acks i)) both
          ∙ (λ i. record {
            last = was i;
            pending = (purges_of (db 1) (db 2) (db 3)).pending;
            admissions = more_is (last_in (db 1)) n m (db 2) (admitted_in db) master.tables.admitted was positive low high from.admitted none free i;
          }) ∙ ap (λ (p : PurgeList). with_admission p n m) from.same;
    }

-- ---- an admission ends

abbrev end_shown : Row → Row
end_shown r = column r 0 ∷ column r 0 ∷ Null ∷ column r 2 ∷ Int (pos 1) ∷ []

abbrev numbered_by : ℕ → Row → Bool
numbered_by n r = admitted_number r == n

end_answer : (trees : Trees) (n last : ℕ) (xs : List Row) → AllByRecursion (IsAdmission last (trees 2)) (trees 5) →
    IsAnswer text.end_query (overlay trees []) (one_param n) xs → IsPermutation (map end_shown (filter (numbered_by n) (trees 5))) xs
end_answer trees n last xs are a =
    let test = λ (r : Row). list_all (holds (one_param n ∷ r ∷ [])) text.end_query.filter in
    let same : filter test (trees 5) ≡ filter (numbered_by n) (trees 5) = filter_same test (numbered_by n) (trees 5)
    (all_from _ (trees 5)
    (λ r has. finds_number (one_param n) r 2 (admitted_number r) n (all_has (IsAdmission last (trees 2)) (trees 5) r are has).number refl)) in
    subst (λ rs. IsPermutation (map end_shown rs) xs) same
    (answered (λ r. []) end_shown (filter test (trees 5)) xs a.kept a.ordered (a.distinct ∙ ap (map (output text.end_query)) a.grouped
    ∙ some_matched (output text.end_query) (one_param n) test (trees 5)) a.same a.shown)

-- the row that was found is replaced
end_edited : (db : Trees) (r : Row) (m n : ℕ) (xs : List Row) → rowid r ≡ Int (pos m) → column r 2 ≡ Int (pos n) → xs ≡ end_shown r ∷ [] →
    edited db (edit_of db admitted_table (ids_of xs) Given 1 xs) ≡ put_row (ended_row r) (without_rowid (pos m) (db 5))
end_edited db r m n xs member number is = rw (is, member, number, cast_int (pos m), cast_null, cast_int (pos n), cast_int (pos 1)) refl

end_fresh : (db : Trees) (r : Row) (m n : ℕ) (xs : List Row) → rowid r ≡ Int (pos m) → column r 2 ≡ Int (pos n) → xs ≡ end_shown r ∷ []
    → are_fresh (left_by db (edit_of db admitted_table (ids_of xs) Given 1 xs)) (edit_of db admitted_table (ids_of xs) Given 1 xs).news ≡ true →
    is_taken (without_rowid (pos m) (db 5)) (ended_row r) ≡ false
end_fresh db r m n xs member number is h =
    rw member (free_of _ (rw (is, member, cast_int (pos m)) at h))

-- the rows after the statement are valid, and the admission of the number is done
pub record Ends (last n : ℕ) (pending rows after : List Row) : Type 0 where
  pub valid : AreAdmitted last pending after
  pub is : admissions_of after ≡ ended_at n (admissions_of rows)

module _ (db : Trees) (last n : ℕ) (xs : List Row) (are : AreAdmitted last (db 2) (db 5))
    (found : IsPermutation (map end_shown (filter (numbered_by n) (db 5))) xs)
    (fresh : are_fresh (left_by db (edit_of db admitted_table (ids_of xs) Given 1 xs)) (edit_of db admitted_table (ids_of xs) Given 1 xs).news ≡ true) where
  abbrev rows : List Row
  rows = db 5

  one_found : (r : Row) → Has rows r → (admitted_number r == n) ≡ true → filter (numbered_by n) rows ≡ r ∷ []
  one_found r has on = go rows has are.numbers
    where
      none_in : (xs : List Row) → AllByRecursion (λ x. (admitted_number x == n) ≡ false) xs → filter (numbered_by n) xs ≡ []
      none_in [] off = refl
      none_in (x ∷ xs) off = rw off.0 (none_in xs off.1)

      go : (xs : List Row) → Has xs r → HasOwnNumbers xs → filter (numbered_by n) xs ≡ r ∷ []
      go [] has own = absurd has
      go (x ∷ xs) (inl is) own =
          let here : (admitted_number x == n) ≡ true = ap (λ y. admitted_number y == n) (sym is) ∙ on in
          let same : admitted_number x ≡ n = eqb-true (admitted_number x) n here in
          rw here (ap (λ y. y ∷ filter (numbered_by n) xs) (sym is) ∙ ap (λ ys. r ∷ ys)
          (none_in xs (all_map (λ b. (admitted_number x == admitted_number b) ≡ false) (λ b. (admitted_number b == n) ≡ false) xs
          (λ b off. ne_eqb (admitted_number b) n (λ e. eqb-false (admitted_number x) (admitted_number b) off (same ∙ sym e))) own.0)))
      go (x ∷ xs) (inr more) own =
          let apart = all_has (λ b. (admitted_number x == admitted_number b) ≡ false) xs r own.0 more in
          let off : (admitted_number x == n) ≡ false = ne_eqb (admitted_number x) n
          (λ e. eqb-false (admitted_number x) (admitted_number r) apart (e ∙ sym (eqb-true (admitted_number r) n on))) in
          rw off (go xs more own.1)

  nothing : filter (numbered_by n) rows ≡ [] → edited db (edit_of db admitted_table (ids_of xs) Given 1 xs) ≡ rows
  nothing none =
      let empty : xs ≡ [] = no_rows_in xs (subst (λ rs. IsPermutation (map end_shown rs) xs) none found) in rw empty refl
    where
      no_rows_in : (xs : List Row) → IsPermutation [] xs → xs ≡ []
      no_rows_in [] same = refl
      no_rows_in (x ∷ xs) same = absurd (let fewer = length_permutation [] (x ∷ xs) same in omega (arith, fewer))

  -- one row alone has the number, and the statement puts it back as one that is done
  found_one : (r : Row) → Has rows r → (admitted_number r == n) ≡ true → Ends last n (db 2) rows (edited db (edit_of db admitted_table (ids_of xs) Given 1 xs))
  found_one r has on =
      let is = all_has (IsAdmission last (db 2)) rows r are.admissions has in
      let m = admitted_member r in
      let shown : xs ≡ end_shown r ∷ [] = one_permutation (end_shown r) xs
      (subst (λ rs. IsPermutation (map end_shown rs) xs) (one_found r has on) found) in
      let after = end_edited db r m (admitted_number r) xs is.member is.number shown in
      let free = end_fresh db r m (admitted_number r) xs is.member is.number shown fresh in
      let own : has_rowid (pos m) r ≡ true = rw is.member (own_rowid (Int (pos m))) in
      let keep = λ (x : Row). not (has_rowid (pos m) x) in
      let kept : (x : Row) → Has rows x → (x ≡ r) ⊎ (not (has_rowid (pos m) x) ≡ true) = λ x there. elim (cases_Bool (has_rowid (pos m) x)) [
        | inl hit ↦ inl (same_row rows x r are.members there has (same_id x there hit is.member))
        | inr miss ↦ inr (ap not miss)
      ] in
      let number = eqb-true (admitted_number r) n on in
      let valid = ended_admitted last n (db 2) rows are r has number keep kept (ap not own) free in
      let ends = admission_ends last n (db 2) rows are r has number keep kept (ap not own) free in
      record { valid = subst (AreAdmitted last (db 2)) (sym after) valid; is = ap admissions_of after ∙ ends }
    where
      same_id : (x : Row) → Has rows x → has_rowid (pos (admitted_member r)) x ≡ true → rowid r ≡ Int (pos (admitted_member r)) → rowid x ≡ rowid r
      same_id x there hit member =
          let its = (all_has (IsAdmission last (db 2)) rows x are.admissions there).member in
          let tied : (admitted_member x == admitted_member r) ≡ true = sym (tied_number (admitted_member x) (admitted_member r))
          ∙ ap (λ v. is_eq (value_cmp v (Int (pos (admitted_member r))))) (sym its) ∙ hit in
          its ∙ ap (λ k. Int (pos k)) (eqb-true (admitted_member x) (admitted_member r) tied) ∙ sym member

  pub ends_one : Ends last n (db 2) rows (edited db (edit_of db admitted_table (ids_of xs) Given 1 xs))
  ends_one = elim (cases_Bool (list_any (numbered_by n) rows)) [
    | inl some ↦ let r = some_has (numbered_by n) rows some in found_one r.0 r.1 r.2
    | inr none ↦
        let off = none_any rows none in
        let same = nothing (no_one rows off) in
        record { valid = subst (AreAdmitted last (db 2)) (sym same) are; is = ap admissions_of same ∙ none_ends n rows off }
  ]
    where
      none_any : (xs : List Row) → list_any (numbered_by n) xs ≡ false → AllByRecursion (λ r. (admitted_number r == n) ≡ false) xs
      none_any [] none = tt
      none_any (x ∷ xs) none = elim (cases_Bool (admitted_number x == n)) [
        | inl on ↦ absurd (let bad : true ≡ false = rw on at none in cc)
        | inr off ↦ (off, none_any xs (rw off at none))
      ]

      no_one : (xs : List Row) → AllByRecursion (λ r. (admitted_number r == n) ≡ false) xs → filter (numbered_by n) xs ≡ []
      no_one [] off = refl
      no_one (x ∷ xs) off = rw off.0 (no_one xs off.1)

-- the statement changes `admitted` alone, at most in the one row that has the number (`ends_one`)
pub end_step : (old new : State) (before : PurgeList) (n count : ℕ) → Holds before old.now → Executes text.end_text (one_param n) old new (Ok count) →
    Holds (with_ended before n) new.now
end_step old new before n count from h =
    let db = old.now.trees in
    let master = from.master in
    let w = runs_as text.end_text (one_param n) old new master_schema master.schema text.end_command text.end_is text.end_plain count h in
    let sql = statement_of text.end_text (understood master_schema text.end_text) in
    let does = subst (λ s. Does old.step_limit (mode_of old) (one_param n) (base s db) sql None text.end_command (Ok (w.tally, new.now))) master.schema
    w.changed in
    let task = task_on old.step_limit (mode_of old).keys master_schema admitted_table (one_param n) in
    let done = concluded task (mode_of old) text.end_command db w.tally new.now does in
    let step = updated task (record { lets = []; body = text.end_query }) db done.0 (λ olds news. refl) done.1 in
    let trees : new.now.trees ≡ done.0.trees = ap (λ (d : Database). d.trees) done.2 in
    let form : new.now.trees 0 ≡ db 0 = ap (at 0) trees ∙ step.2.tables.0 (omega arith) in
    let last : new.now.trees 1 ≡ db 1 = ap (at 1) trees ∙ step.2.tables.1.0 (omega arith) in
    let pending : new.now.trees 2 ≡ db 2 = ap (at 2) trees ∙ step.2.tables.1.1.0 (omega arith) in
    let acks : new.now.trees 3 ≡ db 3 = ap (at 3) trees ∙ step.2.tables.1.1.1.0 (omega arith) in
    let version : HasVersion 2 (new.now.trees 0) = subst (HasVersion 2) (sym form) master.version in
    let two = admitted_two db master.version in
    let are : AreAdmitted (last_in (db 1)) (db 2) (db 5) = subst (AreAdmitted (last_in (db 1)) (db 2)) two master.tables.admitted in
    let ends = ends_one db (last_in (db 1)) n step.0 are (end_answer db n (last_in (db 1)) step.0 are.admissions (step.1.answer Null)) step.2.fresh in
    let both = admitted_two new.now.trees version ∙ ap (at 5) trees ∙ step.2.rows in record {
      master = record {
        schema = ap (λ (d : Database). d.schema) done.2;
        version = version;
        tables = record {
          rows = rw (last, pending, acks) master.tables.rows;
          admitted = admits new.now.trees (db 1) (db 2) _ last pending both ends.valid;
        };
      };
      same = means new.now.trees _ _ (λ i. purges_of (last i) (pending i) (acks i)) both
          ∙ ap (with_admissions (purges_of (db 1) (db 2) (db 3))) (ends.is ∙ ap (λ rs. ended_at n (admissions_of rs)) (sym two))
          ∙ ap (λ (p : PurgeList). with_ended p n) from.same;
    }

-- ---- in a transaction

pub makes_given : (old new : State) (n : ℕ) (r : Result ℕ Error) → n < 2 ^ 32 → Ran text.give_text (one_param n) old new r
    → OnOk r (HasCleanDisk new → (before : PurgeList) → before.last < n → Makes (Holds before) (HasGiven before n) old new)
makes_given old new n (Err e) high h = tt
makes_given old new n (Ok count) high h = λ clean before above on from. let it = inside old new text.give_text (one_param n) count (h clean on) in
    (it.1, give_step old new before n count (omega (arith, high)) above from it.0)

pub makes_put : (old new : State) (n : ℕ) (u : List ℕ) (r : Result ℕ Error) → Ran text.put_text (two_params n u) old new r
    → OnOk r (HasCleanDisk new → (before : PurgeList) → 1 ≤ n → IsKey u → Makes (HasGiven before n) (Holds (with_purge before n u)) old new)
makes_put old new n u (Err e) h = tt
makes_put old new n u (Ok count) h = λ clean before low key on from. let it = inside old new text.put_text (two_params n u) count (h clean on) in
    (it.1, put_step old new before n u count low key from it.0)

pub makes_cleared : (old new : State) (n : ℕ) (r : Result ℕ Error) → Ran text.clear_text (one_param n) old new r →
    OnOk r (HasCleanDisk new → (before : PurgeList) → Makes (Holds before) (HasNoAcks before n) old new)
makes_cleared old new n (Err e) h = tt
makes_cleared old new n (Ok count) h = λ clean before on from. let it = inside old new text.clear_text (one_param n) count (h clean on) in
    (it.1, clear_step old new before n count from it.0)

pub makes_dropped : (old new : State) (n : ℕ) (r : Result ℕ Error) → Ran text.drop_text (one_param n) old new r →
    OnOk r (HasCleanDisk new → (before : PurgeList) → Makes (HasNoAcks before n) (Holds (without_purge before n)) old new)
makes_dropped old new n (Err e) h = tt
makes_dropped old new n (Ok count) h = λ clean before on from. let it = inside old new text.drop_text (one_param n) count (h clean on) in
    (it.1, drop_step old new before n count from it.0)

pub makes_admitted : (old new : State) (m n : ℕ) (r : Result ℕ Error) → 1 ≤ m → m ≤ 16 → Ran text.admit_text (admit_params m n) old new r
    → OnOk r (HasCleanDisk new → (before : PurgeList) → 1 ≤ n → Makes (HasGiven before n) (Holds (with_admission before n m)) old new)
makes_admitted old new m n (Err e) low high h = tt
makes_admitted old new m n (Ok count) low high h = λ clean before positive on from.
    let it = inside old new text.admit_text (admit_params m n) count (h clean on) in
    (it.1, admit_step old new before m n count low high positive from it.0)

pub makes_ended : (old new : State) (n : ℕ) (r : Result ℕ Error) → Ran text.end_text (one_param n) old new r →
    OnOk r (HasCleanDisk new → (before : PurgeList) → Makes (Holds before) (Holds (with_ended before n)) old new)
makes_ended old new n (Err e) h = tt
makes_ended old new n (Ok count) h = λ clean before on from. let it = inside old new text.end_text (one_param n) count (h clean on) in
    (it.1, end_step old new before n count from it.0)
