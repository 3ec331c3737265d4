-- What the writing calls do to a connection. A commit leaves what the transaction held, and `mark`
-- commits by itself; so a crash finds the purges from before the call or from after it.
use Rattle.std.proofs.Common.{◌≡◌, inl, inr, ℕ, true, false, [], None, Ok, Err, Result, IsTrue, OnOk, sym, ap, subst, ◌∙◌, append-nil, arith, ◌≤◌}
use Rattle.sqlite_trees.specs.Tree.{Trees}
use Rattle.sqlite_trees.specs.declared.store.Store.{Ghosts}
use Rattle.sqlite.specs.Listing.{understood}
use Rattle.sqlite.specs.Effect.{Database}
use Rattle.sqlite.specs.Does.{Does}
use Rattle.sqlite.specs.State.{State, HasCleanDisk, Survives, Shows, KeepsCounts, Executes, CommitsBy, mode_of, text_of}
use Rattle.sqlite.specs.Held.{Held, state}
use Rattle.sqlite.specs.declared.error.Error.{Error}
use Rattle.sqlite.proofs.StateLemmas.{survives_then}
use Rattle.sqlite.proofs.Callers.{IsPlain, command_of, statement_of, runs_as, survives_begin}
use Rattle.purge_tables.proofs.StatementLemmas.{IsSettledBy}
use Rattle.purge_tables.proofs.StepLemmas.{base}
use Rattle.purge_rules.specs.Purges.{PurgeList, with_mark}
use Rattle.purge_rules.specs.Store.{IsEither, Misses}
use Rattle.purge_records.specs.Tables.{master_schema, purges_in}
use Rattle.purge_records.specs.Store.{IsMaster, IsReady, committed_purges, MayFind}
use Rattle.purge_records.specs.Writing.{Holds, IsCommitted, Commits}
use Rattle.purge_records.proofs.WriteLemmas.{mark_params, does_mark}
use Rattle.purge_records.proofs.Texts.{mark_text, mark_command, mark_is, mark_plain}

-- a connection that is ready holds what it committed
pub ready_holds : (s : State) → IsReady s → Holds (committed_purges s) s.now
ready_holds s ready = record { master = ready.master; same = ap (λ (d : Database). purges_in d.trees) ready.settled }

pub ok_then : {A E : Type 0} (r : Result A E) (P Q : Type 0) → OnOk r P → (P → Q) → OnOk r Q
ok_then (Ok a) P Q p f = f p
ok_then (Err e) P Q p f = tt

-- a commit leaves what the transaction held
pub commits : (mid exit new : State) (C : Trees → Type 0) (r : Result (Unit {0}) Error) (Q : State → Type 0)
    → (HasCleanDisk exit → OnOk r (IsTrue mid.in_transaction × Shows mid exit mid.now mid.now false × KeepsCounts mid exit × (exit.marks ≡ [])))
    → Survives mid exit C → (HasCleanDisk mid → IsCommitted mid.now exit → Q exit) → ◌≡◌ {A = State} new exit → OnOk r (HasCleanDisk new → Q new)
commits mid exit new C (Err e) Q ok survives f same = tt
commits mid exit new C (Ok u) Q ok survives f same = λ clean.
    let clean_exit : HasCleanDisk exit = subst HasCleanDisk same clean in
    let shows = (ok clean_exit).1 in
    subst Q (sym same)
    (f (omega (arith, survives.clean, clean_exit))
    (record { is_open = shows.is_open; autocommit = shows.mode; now = shows.now_is; committed = shows.committed_is }))

-- ---- one statement

pub mark_runs : (old new : State) (n m count : ℕ) → 1 ≤ m → m ≤ 16 → IsReady old → Misses (committed_purges old) n m →
    Executes mark_text (mark_params n m) old new (Ok count)
    → IsReady new × (committed_purges new ≡ with_mark (committed_purges old) n m)
mark_runs old new n m count low high ready misses h =
    let w = runs_as mark_text (mark_params n m) old new master_schema ready.master.schema mark_command mark_is mark_plain count h in
    let sql = statement_of mark_text (understood master_schema mark_text) in
    let does = subst (λ s. Does old.step_limit (mode_of old) (mark_params n m) (base s old.now.trees) sql None mark_command (Ok (w.tally, new.now)))
    ready.master.schema w.changed in
    let now = ap (λ (d : Database). purges_in d.trees) ready.settled in
    let marked = does_mark old.step_limit (mode_of old) old.now.trees n m sql w.tally new.now low high ready.master.version ready.master.tables
    (subst (λ p. Misses p n m) (sym now) misses) does in
    let last : new.committed ≡ new.now = rw ready.autocommit at w.shown.committed_is in (
      record { is_open = w.shown.is_open; autocommit = w.shown.mode ∙ ready.autocommit; settled = sym last; master = marked.0 },
      ap (λ (d : Database). purges_in d.trees) last ∙ marked.1 ∙ ap (λ p. with_mark p n m) now,
    )

mark_commits : (old : State) (n m : ℕ) (db : Trees) → 1 ≤ m → m ≤ 16 → IsReady old → Misses (committed_purges old) n m →
    CommitsBy mark_text (mark_params n m) old db → purges_in db ≡ with_mark (committed_purges old) n m
unfolding CommitsBy
mark_commits old n m db low high ready misses h =
    let known = sym h.1.is ∙ ap (λ s. understood s mark_text) ready.master.schema in
    let bare = subst IsPlain (sym known) mark_plain in
    let is = ap command_of known ∙ mark_is in
    elim h.2 [
      | inl ends ↦ absurd (elim ends.0 [ inl commit ↦ (cc) | inr release ↦ (let e = release.2 in cc) ])
      | inr write ↦
          let does = rw (bare.0, bare.1, is, append-nil (mark_params n m), ready.master.schema) at write.3 in
          let now = ap (λ (d : Database). purges_in d.trees) ready.settled in
          let marked = does_mark old.step_limit (mode_of old) old.now.trees n m (text_of mark_text h.0) write.1 write.2 low high ready.master.version
          ready.master.tables (subst (λ p. Misses p n m) (sym now) misses) does in
          rw write.5 (marked.1 ∙ ap (λ p. with_mark p n m) now)
    ]

pub mark_ready : (old new : State) (n m : ℕ) (r : Result ℕ Error) → 1 ≤ m → m ≤ 16 → (HasCleanDisk old → IsReady old) →
    (HasCleanDisk old → Misses (committed_purges old) n m) → (HasCleanDisk new → HasCleanDisk old)
    → (HasCleanDisk new → Executes mark_text (mark_params n m) old new r) → OnOk r (HasCleanDisk new → IsReady new)
    × OnOk r (HasCleanDisk new → committed_purges new ≡ with_mark (committed_purges old) n m)
mark_ready old new n m (Err e) low high was misses back h = (tt, tt)
mark_ready old new n m (Ok count) low high was misses back h =
    let all = λ (clean : HasCleanDisk new). mark_runs old new n m count low high (was (back clean)) (misses (back clean)) (h clean) in
    (λ clean. (all clean).0, λ clean. (all clean).1)

pub mark_crash : {S : Type 0} (g : Ghosts S) (old new : Held S) (n m : ℕ) → 1 ≤ m → m ≤ 16 → IsSettledBy g →
    (HasCleanDisk (state g old) → IsReady (state g old)) → (HasCleanDisk (state g old) → Misses (committed_purges (state g old)) n m)
    → Survives (state g old) (state g new) (CommitsBy mark_text (mark_params n m) (state g old)) → HasCleanDisk (state g new)
    → (found : PurgeList) → MayFind (state g new) found → IsEither (committed_purges (state g old)) (with_mark (committed_purges (state g old)) n m) found
mark_crash g old new n m low high settled was misses survives clean found may =
    let clean_old : HasCleanDisk (state g old) = omega (arith, survives.clean, clean) in
    let ready = was clean_old in
    elim (survives.crash clean may.0 may.1) [
      | inl before ↦ inl (may.2 ∙ ap purges_in (settled old.store may.0 ready.is_open before))
      | inr commits ↦ inr (may.2 ∙ mark_commits (state g old) n m may.0 low high ready (misses clean_old) commits)
    ]

-- a connection that is ready leaves at a crash what it committed
pub settled_crash : {S : Type 0} (g : Ghosts S) (h : Held S) → IsSettledBy g → IsReady (state g h) → (found : PurgeList) → MayFind (state g h) found →
    found ≡ committed_purges (state g h)
settled_crash g h settled ready found may = may.2 ∙ ap purges_in (settled h.store may.0 ready.is_open may.1)

-- ---- what a writing call leaves

pub committed_ready : (s : State) (purges : PurgeList) → Commits purges s → IsReady s
committed_ready s purges it = let done = it.2 in record {
  is_open = done.is_open;
  autocommit = done.autocommit;
  settled = done.now ∙ sym done.committed;
  master = subst IsMaster (sym done.now) it.1.master;
}

pub committed_is : (s : State) (purges : PurgeList) → Commits purges s → committed_purges s ≡ purges
committed_is s purges it = ap (λ (d : Database). purges_in d.trees) it.2.committed ∙ it.1.same

pub write_crash : {S : Type 0} (g : Ghosts S) (old new : Held S) (C : Trees → Type 0) (after : PurgeList) → IsSettledBy g →
    (HasCleanDisk (state g old) → IsReady (state g old)) → Survives (state g old) (state g new) C
    → (HasCleanDisk (state g old) → (trees : Trees) → C trees → purges_in trees ≡ after) → HasCleanDisk (state g new) → (found : PurgeList) →
    MayFind (state g new) found → IsEither (committed_purges (state g old)) after found
write_crash g old new C after settled was survives leads clean found may =
    let clean_old : HasCleanDisk (state g old) = omega (arith, survives.clean, clean) in
    elim (survives.crash clean may.0 may.1) [
      | inl before ↦ inl (may.2 ∙ ap purges_in (settled old.store may.0 (was clean_old).is_open before))
      | inr commits ↦ inr (may.2 ∙ leads clean_old may.0 commits)
    ]

-- the connection, with a transaction begun
abbrev pub begun : {S : Type 0} → Held S → Held S
begun conn = record conn { in_transaction = true }

-- a crash finds what it could find before the transaction, or what it commits
pub commits_alone : {S : Type 0} (g : Ghosts S) (old : Held S) (mid exit new : State) (R : Trees → Type 0) → Survives (state g (begun old)) mid (λ _. ⊥)
    → Survives mid exit (λ db. db ≡ mid.now.trees) → (HasCleanDisk mid → R mid.now.trees) → ◌≡◌ {A = State} new exit → Survives (state g old) new R
commits_alone g old mid exit new R inside commit leads same = subst (λ (s : State). Survives (state g old) s R) (sym same)
    (survives_begin g old exit R (survives_then (state g (begun old)) mid exit (λ _. ⊥) (λ db. db ≡ mid.now.trees) R (λ _ db none. absurd none)
    (λ clean db is. subst R (sym is) (leads (omega (arith, commit.clean, clean)))) inside commit))
