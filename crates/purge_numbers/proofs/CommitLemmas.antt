-- What a transaction leaves, and the floors of a file of either form. A commit leaves what the
-- transaction held; so a crash finds what was there before it, or that.
use Rattle.std.proofs.Common.{◌≡◌, ℕ, pos, ◌==◌, List, [], ◌∷◌, false, Ok, Err, Result, IsTrue, OnOk, IfErr, sym, ap, subst, inl, inr, ◌∙◌, arith}
use Rattle.std.proofs.Common.{if◌then◌else◌}
use Rattle.std.specs.Result.{IsErrAnd}
use Rattle.sqlite.specs.declared.types.Value.TheVariants.{Int}
use Rattle.sqlite_value.specs.Order.{Row, column}
use Rattle.sqlite_trees.specs.Tree.{Trees}
use Rattle.sqlite_trees.specs.Objects.{number_in}
use Rattle.sqlite_trees.specs.declared.store.Store.{Ghosts}
use Rattle.sqlite.specs.Effect.{Database}
use Rattle.sqlite.specs.State.{State, HasCleanDisk, Survives, Shows, KeepsCounts}
use Rattle.sqlite.specs.Steps.{FailsToCommit}
use Rattle.sqlite.specs.Held.{Held, state}
use Rattle.sqlite.specs.declared.error.Error.{Error}
use Rattle.sqlite.proofs.StateLemmas.{survives_then}
use Rattle.sqlite.proofs.Callers.{survives_begin}
use Rattle.purge_tables.specs.Rows.{HasVersion}
use Rattle.purge_tables.proofs.VersionLemmas.{version_is}
use Rattle.purge_numbers.specs.Tables.{floors_in, rows_of, base_in, IsBase}
use Rattle.purge_numbers.specs.Making.{IsBaseless}
use Rattle.purge_numbers.specs.Put.{begun, Rebases, FailsInside, FailsToRebase}
use Rattle.purge_numbers.specs.Writing.{IsCommitted}

pub ok_then : {A E : Type 0} (r : Result A E) (P Q : Type 0) → OnOk r P → (P → Q) → OnOk r Q
ok_then (Ok a) P Q p f = f p
ok_then (Err e) P Q p f = tt

-- an error is handed on as it is
pub err_then : {A E : Type 0} (r : Result A E) (e : E) (Q : E → Type 0) → IsErrAnd r (λ x. x ≡ e) → Q e → IfErr r Q
err_then (Ok a) e Q is q = tt
err_then (Err x) e Q is q = subst Q (sym is) q

-- a commit leaves what the transaction held
pub commits : (mid exit new : State) (C : Trees → Type 0) (r : Result (Unit {0}) Error) (Q : State → Type 0)
    → (HasCleanDisk exit → OnOk r (IsTrue mid.in_transaction × Shows mid exit mid.now mid.now false × KeepsCounts mid exit × (exit.marks ≡ [])))
    → Survives mid exit C → (HasCleanDisk mid → IsCommitted mid.now exit → Q exit) → ◌≡◌ {A = State} new exit → OnOk r (HasCleanDisk new → Q new)
commits mid exit new C (Err e) Q ok survives f same = tt
commits mid exit new C (Ok u) Q ok survives f same = λ clean.
    let clean_exit : HasCleanDisk exit = subst HasCleanDisk same clean in
    let shows = (ok clean_exit).1 in
    subst Q (sym same)
    (f (omega (arith, survives.clean, clean_exit))
    (record { is_open = shows.is_open; autocommit = shows.mode; now = shows.now_is; committed = shows.committed_is }))

-- a crash finds what it could find before the transaction, or what it commits
pub commits_alone : {S : Type 0} (g : Ghosts S) (old : Held S) (mid exit new : State) (R : Trees → Type 0) → Survives (state g (begun old)) mid (λ _. ⊥)
    → Survives mid exit (λ db. db ≡ mid.now.trees) → (HasCleanDisk mid → R mid.now.trees) → ◌≡◌ {A = State} new exit → Survives (state g old) new R
commits_alone g old mid exit new R inside commit leads same = subst (λ (s : State). Survives (state g old) s R) (sym same)
    (survives_begin g old exit R (survives_then (state g (begun old)) mid exit (λ _. ⊥) (λ db. db ≡ mid.now.trees) R (λ _ db none. absurd none)
    (λ clean db is. subst R (sym is) (leads (omega (arith, commit.clean, clean)))) inside commit))

-- ---- how the transaction that sets the base fails

-- at a statement
pub fails_inside : {S : Type 0} (g : Ghosts S) (old mid exit new : Held S) (C : Trees → Type 0) (n : ℕ) (e : Error) → Survives (state g mid) (state g exit) C
    → ◌≡◌ {A = Held S} new exit → (HasCleanDisk (state g mid) → FailsInside g (begun old) mid n e) → HasCleanDisk (state g new) → FailsToRebase g old new n e
fails_inside g old mid exit new C n e survives same failed clean =
    let clean_exit : HasCleanDisk (state g exit) = subst (λ h. HasCleanDisk (state g h)) same clean in
    inl (mid, failed (omega (arith, survives.clean, clean_exit)))

-- at its commit
pub fails_at_commit : {S : Type 0} (g : Ghosts S) (old mid exit new : Held S) (C : Trees → Type 0) (n : ℕ) (P : Type 0) (r : Result (Unit {0}) Error)
    → Survives (state g mid) (state g exit) C
    → ◌≡◌ {A = Held S} new exit → (HasCleanDisk (state g exit) → IfErr r (FailsToCommit (state g mid) (state g exit)))
    → (HasCleanDisk (state g mid) → Rebases g (begun old) mid n) → IfErr r (λ e. HasCleanDisk (state g new) → P → FailsToRebase g old new n e)
fails_at_commit g old mid exit new C n P (Ok u) survives same failed ran = tt
fails_at_commit g old mid exit new C n P (Err e) survives same failed ran = λ clean _.
    let clean_exit : HasCleanDisk (state g exit) = subst (λ h. HasCleanDisk (state g h)) same clean in
    inr (mid, ran (omega (arith, survives.clean, clean_exit)), subst (λ h. FailsToCommit (state g mid) (state g h) e) (sym same) (failed clean_exit))

-- ---- which form a file has

base_is : (number : ℕ) (rows : List Row) → IsBase number rows → base_in rows ≡ number
base_is number [] h = absurd (cc)
base_is number (row ∷ rows) h = let is : column row 2 ≡ Int (pos number) = cc in ap number_in is

pub own_base : (number : ℕ) (rows : List Row) → IsBase number rows → IsBase (base_in rows) rows
own_base number rows h = subst (λ n. IsBase n rows) (sym (base_is number rows h)) h

-- form 1 has no base
pub floors_one : (trees : Trees) → HasVersion 1 (trees 0) → floors_in trees ≡ record { rows = rows_of (trees 1); base = 0 }
floors_one trees version = ap (λ (v : ℕ). record { rows = rows_of (trees 1); base = if v == 2 then base_in (trees 3) else 0 }) (version_is 1 (trees 0) version)

-- form 2 has one
pub floors_two : (trees : Trees) → HasVersion 2 (trees 0) → floors_in trees ≡ record { rows = rows_of (trees 1); base = base_in (trees 3) }
floors_two trees version = ap (λ (v : ℕ). record { rows = rows_of (trees 1); base = if v == 2 then base_in (trees 3) else 0 }) (version_is 2 (trees 0) version)

pub floors_with : (trees : Trees) (number : ℕ) → HasVersion 2 (trees 0) → IsBase number (trees 3) →
    floors_in trees ≡ record { rows = rows_of (trees 1); base = number }
floors_with trees number version base = floors_two trees version ∙ ap (λ n. record { rows = rows_of (trees 1); base = n }) (base_is number (trees 3) base)

-- a file of form 1 that was brought to form 2 has the same floors
pub floors_kept : (old : Trees) (db : Database) → HasVersion 1 (old 0) → IsBaseless (old 1) db → floors_in db.trees ≡ floors_in old
floors_kept old db version is = floors_with db.trees 0 is.1 is.3 ∙ ap (λ rows. record { rows = rows_of rows; base = 0 }) is.2 ∙ sym (floors_one old version)
