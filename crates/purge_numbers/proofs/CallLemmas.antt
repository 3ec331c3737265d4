-- What a raise does to a connection: outside a transaction its statement commits by itself, so a
-- crash finds the floors from before it or those with the url's new number.
use Rattle.std.proofs.Common.{◌≡◌, ◌⊎◌, inl, inr, ℕ, List, None, Ok, Err, Result, sym, ap, subst, ◌∙◌, append-nil, OnOk, IfErr, arith}
use Rattle.sqlite_trees.specs.Tree.{Trees}
use Rattle.sqlite.specs.Listing.{understood}
use Rattle.sqlite.specs.Effect.{Database}
use Rattle.sqlite.specs.Does.{Does}
use Rattle.sqlite.specs.State.{State, HasCleanDisk, Survives, Executes, CommitsBy, mode_of, text_of}
use Rattle.sqlite.proofs.Callers.{IsPlain, command_of, statement_of, runs_as}
use Rattle.sqlite_trees.specs.declared.store.Store.{Ghosts}
use Rattle.sqlite.specs.Held.{Held, state}
use Rattle.sqlite.specs.declared.error.Error.{Error}
use Rattle.floor_rules.specs.Floors.{FloorTable, with_row}
use Rattle.purge_tables.proofs.StatementLemmas.{IsSettledBy}
use Rattle.purge_tables.specs.Rows.{HasVersion}
use Rattle.purge_numbers.specs.Tables.{node_schema, floors_in, base_in, IsBase}
use Rattle.purge_numbers.specs.Store.{IsNode, IsReady, committed_floors, MayFind}
use Rattle.purge_numbers.proofs.Texts.{put_command, put_is, put_plain}
use Rattle.purge_numbers.specs.Put.{put_text, put_params}
use Rattle.purge_numbers.proofs.PutLemmas.{IsPut, put_floors, does_put}

put_node : (trees : Trees) (u : List ℕ) (n : ℕ) (after : Database) → HasVersion 2 (trees 0) → IsBase (base_in (trees 3)) (trees 3) → after.schema ≡ node_schema
    → IsPut trees u n after.trees → IsNode after
put_node trees u n after version base has put = record {
  schema = has;
  version = subst (HasVersion 2) (sym put.2.0) version;
  table = put.0;
  base = subst (λ rows. IsBase (base_in rows) rows) (sym put.2.1) base;
}

pub put_runs : (old new : State) (u : List ℕ) (n count : ℕ) → IsReady old → Executes put_text (put_params u n) old new (Ok count)
    → IsReady new × (committed_floors new ≡ with_row (committed_floors old) u n)
put_runs old new u n count ready h =
    let was = ready.node in
    let w = runs_as put_text (put_params u n) old new node_schema was.schema put_command put_is put_plain count h in
    let text = statement_of put_text (understood node_schema put_text) in
    let does = subst (λ s. Does old.step_limit (mode_of old) (put_params u n) (record old.now { schema = s }) text None put_command (Ok (w.tally, new.now)))
    was.schema w.changed in
    let put = does_put old.step_limit (mode_of old) old.now.trees u n text w.tally new.now was.table does in
    let last : new.committed ≡ new.now = rw ready.autocommit at w.shown.committed_is in (
      record {
        is_open = w.shown.is_open;
        autocommit = w.shown.mode ∙ ready.autocommit;
        settled = sym last;
        node = put_node old.now.trees u n new.now was.version was.base put.0 put.1;
      },
      ap (λ (d : Database). floors_in d.trees) last ∙ put_floors old.now.trees u n new.now.trees put.1
          ∙ ap (λ (d : Database). with_row (floors_in d.trees) u n) ready.settled,
    )

pub put_commits : (old : State) (u : List ℕ) (n : ℕ) (db : Trees) → IsReady old → CommitsBy put_text (put_params u n) old db
    → floors_in db ≡ with_row (committed_floors old) u n
unfolding CommitsBy
put_commits old u n db ready h =
    let known = sym h.1.is ∙ ap (λ s. understood s put_text) ready.node.schema in
    let bare = subst IsPlain (sym known) put_plain in
    let is = ap command_of known ∙ put_is in
    elim h.2 [
      | inl ends ↦ absurd (elim ends.0 [ inl commit ↦ (cc) | inr release ↦ (let e = release.2 in cc) ])
      | inr write ↦
          let does = rw (bare.0, bare.1, is, append-nil (put_params u n), ready.node.schema) at write.3 in
          let put = does_put old.step_limit (mode_of old) old.now.trees u n (text_of put_text h.0) write.1 write.2 ready.node.table does in
          rw write.5 (put_floors old.now.trees u n write.2.trees put.1 ∙ ap (λ (d : Database). with_row (floors_in d.trees) u n) ready.settled)
    ]

pub put_ready : (old new : State) (u : List ℕ) (n : ℕ) (r : Result ℕ Error) → (HasCleanDisk old → IsReady old) → (HasCleanDisk new → HasCleanDisk old) →
    (HasCleanDisk new → Executes put_text (put_params u n) old new r)
    → OnOk r (HasCleanDisk new → IsReady new) × OnOk r (HasCleanDisk new → committed_floors new ≡ with_row (committed_floors old) u n)
put_ready old new u n (Err e) was back h = (tt, tt)
put_ready old new u n (Ok count) was back h =
    let all = λ (clean : HasCleanDisk new). put_runs old new u n count (was (back clean)) (h clean) in (λ clean. (all clean).0, λ clean. (all clean).1)

pub put_crash : {S : Type 0} (g : Ghosts S) (old new : Held S) (u : List ℕ) (n : ℕ) → IsSettledBy g → (HasCleanDisk (state g old) → IsReady (state g old))
    → Survives (state g old) (state g new) (CommitsBy put_text (put_params u n) (state g old)) → HasCleanDisk (state g new)
    → (floors : FloorTable) → MayFind (state g new) floors → (floors ≡ committed_floors (state g old))
    ⊎ (floors ≡ with_row (committed_floors (state g old)) u n)
put_crash g old new u n settled was survives clean floors may =
    let ready = was (omega (arith, survives.clean)) in
    elim (survives.crash clean may.0 may.1) [
      | inl before ↦ inl (may.2 ∙ ap floors_in (settled old.store may.0 ready.is_open before))
      | inr commits ↦ inr (may.2 ∙ put_commits (state g old) u n may.0 ready commits)
    ]

-- a connection that is ready leaves at a crash what it committed
pub settled_crash : {S : Type 0} (g : Ghosts S) (h : Held S) → IsSettledBy g → IsReady (state g h) → (floors : FloorTable) → MayFind (state g h) floors →
    floors ≡ committed_floors (state g h)
settled_crash g h settled ready floors may = may.2 ∙ ap floors_in (settled h.store may.0 ready.is_open may.1)

pub put_fails : (old new : State) (u : List ℕ) (n : ℕ) (r : Result ℕ Error) → (HasCleanDisk new → Executes put_text (put_params u n) old new r)
    → IfErr r (λ e. HasCleanDisk new → Executes put_text (put_params u n) old new (Err e))
put_fails old new u n (Ok count) h = tt
put_fails old new u n (Err e) h = h
