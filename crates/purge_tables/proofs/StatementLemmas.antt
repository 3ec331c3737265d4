-- What a statement leaves, where it gave no error. A CREATE TABLE of a known text adds its table to
-- the schema, with no row, and keeps the rows of the other tables.
use Rattle.std.proofs.Common.{◌≡◌, ◌⊎◌, ℕ, ℤ, Bool, true, false, cond, List, [], None, Ok, Err, Result, IsTrue, refl, sym, ap, subst, ◌∙◌, inl, inr}
use Rattle.sqlite.specs.declared.types.Value.{Value}
use Rattle.sqlite.specs.declared.types.Value.TheVariants.{Null, Int}
use Rattle.sqlite_value.specs.Order.{Row}
use Rattle.sqlite_trees.specs.Tree.{Trees}
use Rattle.sqlite_trees.specs.declared.store.Store.{Ghosts}
use Rattle.sqlite_sql.specs.Ops.{unary}
use Rattle.sqlite_rules.specs.Cast.{cast}
use Rattle.sqlite.specs.Kind.TheVariants.{Integer}
use Rattle.sqlite.specs.declared.error.Error.{Error}
use Rattle.sqlite.specs.Table.{Table}
use Rattle.sqlite.specs.Schema.{Schema}
use Rattle.sqlite.specs.Change.{created, next_tree, KeepsRows}
use Rattle.sqlite.specs.Compile.{table_defined_by}
use Rattle.sqlite.specs.Command.TheVariants.{CreateTable}
use Rattle.sqlite.specs.Does.{Tally, lacks_sequence}
use Rattle.sqlite.specs.Effect.{Database}
use Rattle.sqlite.specs.Listing.{understood}
use Rattle.sqlite.specs.State.{State, HasCleanDisk, Writes, Executes, ExecutesInside}
use Rattle.sqlite.proofs.Callers.{IsPlain, command_of, statement_of, runs_as}

-- a part that gave a value did not stop on the way
pub went : {B E R : Type 0} {b : B} {Stops : E → Type 0} → ((stop : E) × Stops stop × (Ok b ≡ Err stop)) ⊎ R → R
went (inl stopped) = absurd (let e = stopped.2 in cc)
went (inr on) = on

pub same_value : {B E : Type 0} {a b : B} → ◌≡◌ {A = Result B E} (Ok a) (Ok b) → a ≡ b
same_value e = cc

either : (b : Bool) (x : Value) → cond b x x ≡ x
either true x = refl
either false x = refl

pub cast_null : cast Integer Null ≡ Null
unfolding unary
cast_null = either _ Null

pub cast_int : (n : ℤ) → cast Integer (Int n) ≡ Int n
unfolding unary
cast_int n = either _ (Int n)

module _ (text : List ℕ) (before after : Schema) (table : Table) (is : command_of (understood before text) ≡ CreateTable)
    (whole : statement_of text (understood before text) ≡ text) (plain : IsPlain (understood before text))
    (defined : table_defined_by text ≡ Ok table) (makes : created before table ≡ after) (uncounted : lacks_sequence after ≡ false) where
  pub creates : (old new : State) (count : ℕ) → old.now.schema ≡ before → Executes text [] old new (Ok count)
      → (new.now.schema ≡ after) × (new.now.trees (next_tree before) ≡ []) × KeepsRows before.tables old.now.trees new.now.trees
  creates old new count has h =
      let w = subst (λ t. Writes old new None CreateTable t [] count) whole (runs_as text [] old new before has CreateTable is plain count h) in
      let all = went w.changed in
      let first = went all.1 in
      let made = first.1 in
      let both : Ok made.table ≡ Ok table = sym made.defined ∙ defined in
      let same : made.table ≡ table = cc in
      let schema : first.0.schema ≡ after = made.is ∙ ap (λ s. created s made.table) has ∙ ap (created before) same ∙ makes in
      let none : lacks_sequence first.0.schema ≡ false = ap lacks_sequence schema ∙ uncounted in
      let now : new.now ≡ first.0 = ap (λ (p : Tally × Database). p.1) (same_value all.2) ∙ same_value (rw none at first.2) in
      let kept : KeepsRows before.tables old.now.trees first.0.trees = subst (λ s. KeepsRows s.tables old.now.trees first.0.trees) has made.others in (
        ap (λ (d : Database). d.schema) now ∙ schema,
        ap (λ (d : Database). d.trees (next_tree before)) now ∙ subst (λ s. first.0.trees (next_tree s) ≡ []) has made.empty,
        subst (λ (d : Database). KeepsRows before.tables old.now.trees d.trees) (sym now) kept,
      )

-- the statement was run inside the transaction
abbrev pub Ran : List ℕ → Row → State → State → Result ℕ Error → Type 0
Ran text params old new r = HasCleanDisk new → IsTrue old.in_transaction → ExecutesInside 0 text params old new r

pub inside : (old new : State) (text : List ℕ) (params : Row) (count : ℕ) → ExecutesInside 0 text params old new (Ok count) →
    Executes text params old new (Ok count) × IsTrue new.in_transaction
inside old new text params count h = (h.0, h.1.mode)

-- while the store is open, a crash leaves the last commit
abbrev pub IsSettledBy : {S : Type 0} → Ghosts S → Type 0
IsSettledBy {S} g = (s : S) (db : Trees) → IsTrue (g.view s).is_open → g.recovers s db → db ≡ (g.view s).committed
