-- Lists of entries, and of keys, that are read one after another say what the whole list says; one
-- bad entry makes the whole list bad. A test that some entry passes is passed by at least one.
use Rattle.std.proofs.Common.{◌≡◌, ℕ, ◌+◌, ◌<◌, zero, suc, ◌&&◌, List, [], ◌∷◌, ◌++◌, length, take, get_or, Option, Some, None, option_and_then, String, Global}
use Rattle.std.proofs.Common.{string_bytes, Bool, filter, inl, inr, nat_le, le-leb, refl, sym, ap, arith}
use Rattle.std.proofs.lemmas.Bool.{cases_Bool}
use Rattle.std.proofs.lemmas.List.{take_more}
use Rattle.std.specs.List.{list_all, list_any}
use Rattle.std.specs.Map.{keys_of}
use Rattle.toml.specs.Data.{Data}
use Rattle.toml.specs.View.{view, items_view, members_view}
use Rattle.toml.specs.declared.value.Value.{Value}
use Rattle.values_tables.specs.declared.fault.TablesFault.{TablesFault}
use Rattle.values_tables.specs.declared.fault.TablesFault.TheVariants.{BadToml, BadField, NoMemory}
use Rattle.values_tables.specs.Fault.{IsFieldFault}
use Rattle.values_tables.specs.Keys.{is_among, has_only}
use Rattle.values_tables.specs.Reading.{all_of}

-- the entries, and one more
abbrev pub with_last : {A : Type 0} → Option (List A) → Option A → Option (List A)
with_last rest last = option_and_then (λ xs. option_and_then (λ x. Some (xs ++ x ∷ [])) last) rest

abbrev with_first : {A : Type 0} → Option A → Option (List A) → Option (List A)
with_first first rest = option_and_then (λ y. option_and_then (λ ys. Some (y ∷ ys)) rest) first

both_ends : {A : Type 0} (first : Option A) (rest : Option (List A)) (last : Option A) → with_first first (with_last rest last) ≡ with_last
    (with_first first rest) last
both_ends None rest last = refl
both_ends (Some y) None last = refl
both_ends (Some y) (Some ys) None = refl
both_ends (Some y) (Some ys) (Some x) = refl

alone : {A : Type 0} (first : Option A) → with_first first (Some []) ≡ with_last (Some []) first
alone None = refl
alone (Some y) = refl

pub all_of-last : {A : Type 0} (f : Data → Option A) (vs : List Value) (v : Value) → all_of f (items_view (vs ++ v ∷ [])) ≡ with_last (all_of f (items_view vs))
    (f (view v))
all_of-last f [] v = alone (f (view v))
all_of-last f (w ∷ vs) v = rw (all_of-last f vs v) (both_ends (f (view w)) (all_of f (items_view vs)) (f (view v)))

-- one more entry is read
pub all_of-more : {A : Type 0} (f : Data → Option A) (vs : List Value) (i : ℕ) (v : Value) (xs : List A) (x : A) → i < length vs → v ≡ get_or vs i v
    → all_of f (items_view (take i vs)) ≡ Some xs → f (view v) ≡ Some x → all_of f (items_view (take (i + 1) vs)) ≡ Some (xs ++ x ∷ [])
all_of-more f vs i v xs x h is before here =
    rw (take_more vs i v h, ← is, all_of-last f (take i vs) v, before, here)

nothing_after : {A : Type 0} (first : Option A) → with_first first None ≡ None
nothing_after None = refl
nothing_after (Some y) = refl

-- one entry that is bad
pub all_of-none : {A : Type 0} (f : Data → Option A) (vs : List Value) (i : ℕ) (v : Value) → i < length vs → v ≡ get_or vs i v → f (view v) ≡ None →
    all_of f (items_view vs) ≡ None
all_of-none f [] i v h is bad = absurd (omega arith)
all_of-none f (w ∷ vs) zero v h is bad = rw (← is, bad)
all_of-none f (w ∷ vs) (suc i) v h is bad = rw (all_of-none f vs i v (omega arith) is bad) (nothing_after (f (view w)))

-- the fault of one entry is one of all
pub bad_entry : {A : Type 0} (f : Data → Option A) (vs : List Value) (i : ℕ) (v : Value) (fault : TablesFault) → i < length vs → v ≡ get_or vs i v →
    IsFieldFault fault (f (view v) ≡ None) → IsFieldFault fault (all_of f (items_view vs) ≡ None)
bad_entry f vs i v (BadToml p) h is bad = bad
bad_entry f vs i v (BadField p) h is bad = all_of-none f vs i v h is bad
bad_entry f vs i v NoMemory h is bad = bad

-- the keys of a map, and those of its members
pub has_only-keys : (keys : List (List ℕ)) (es : List (String Global × Value)) → list_all (λ key. is_among keys (string_bytes key)) (keys_of es) ≡ has_only keys
    (members_view es)
has_only-keys keys [] = refl
has_only-keys keys (e ∷ es) = ap (λ b. is_among keys (string_bytes e.0) && b) (has_only-keys keys es)

-- a test that some entry passes is passed by at least one
pub at_least_one : {A : Type 0} (test : A → Bool) (xs : List A) → list_any test xs ≡ nat_le 1 (length (filter test xs))
at_least_one test [] = refl
at_least_one test (x ∷ xs) = elim (cases_Bool (test x)) [
  | inl passes ↦ rw passes (sym (le-leb 1 (suc (length (filter test xs))) (omega arith)))
  | inr fails ↦ rw fails (at_least_one test xs)
]
