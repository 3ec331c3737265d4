-- Looking up members' nodes and the master's pending purges, also after a change: by induction over
-- the lists.
use Rattle.std.proofs.Common.{◌≡◌, ℕ, zero, suc, ◌-◌, Bool, true, false, cond, not, ◌&&◌, ◌||◌, inl, inr, List, [], ◌∷◌, ◌++◌, Option, Some, None, refl, sym}
use Rattle.std.proofs.Common.{◌∙◌, ap, subst, nat_eq, nat_lt, map, filter, rules}
use Rattle.std.specs.Prelude.{◌≢◌, ◌⊎◌, slice_get, find}
use Rattle.std.specs.List.{AllByRecursion}
use Rattle.std.proofs.Math.Decide.{ℕ_discrete}
use Rattle.std.proofs.lemmas.Option.{none-some}
use Rattle.node_rules.specs.declared.state.NodeState.{NodeState}
use Rattle.node_rules.proofs.Cases.{branches, same_Some, true_not_false, or_true}
use Rattle.purge_rules.specs.declared.purges.Purge.{Purge}
use Rattle.purge_rules.specs.Members.{is_among, with_id, are_among}
use Rattle.purge_rules.specs.Purges.{is_numbered, marked_by}
use Rattle.world_rules.specs.World.{MemberState, item, new_node, node_at, with_node}

not_so : (b : Bool) → (b ≡ true → ⊥) → b ≡ false
not_so true h = absurd (h refl)
not_so false h = refl

not_false : (b : Bool) → not b ≡ false → b ≡ true
not_false true h = refl
not_false false h = absurd (true_not_false h)

pub or_cases : (a b : Bool) → (a || b) ≡ true → (a ≡ true) ⊎ (b ≡ true)
or_cases true b h = inl refl
or_cases false b h = inr h

pub or_left : (a b : Bool) → a ≡ true → (a || b) ≡ true
or_left true b h = refl
or_left false b h = absurd (true_not_false (sym h))

pub and_parts : (a b : Bool) → (a && b) ≡ true → (a ≡ true) × (b ≡ true)
and_parts true b h = (refl, h)
and_parts false b h = absurd (true_not_false (sym h))

pub same_id : (n : ℕ) → nat_eq n n ≡ true
same_id n = search rules

pub ids_same : (m n : ℕ) → nat_eq m n ≡ true → m ≡ n
ids_same m n h = search rules

pub other_id : (m n : ℕ) → m ≢ n → nat_eq m n ≡ false
other_id m n ne = not_so (nat_eq m n) (λ h. ne (ids_same m n h))

-- Items

pub all_got : {A : Type 0} (P : A → Type 0) (xs : List A) (k : ℕ) (x : A) → AllByRecursion P xs → slice_get xs k ≡ Some x → P x
all_got P [] k x all e = cc
all_got P (y ∷ xs) zero x all e = subst P (same_Some y x e) all.0
all_got P (y ∷ xs) (suc k) x all e = all_got P xs k x all.1 e

pub all_item : {A : Type 0} (P : A → Type 0) (xs : List A) (number : ℕ) (x : A) → AllByRecursion P xs → item xs number ≡ Some x → P x
all_item {A} P xs number x all e =
    (branches (λ (o : Option A). o ≡ Some x → P x) (nat_eq number 0) None (slice_get xs (number - 1))
    (λ _ f. absurd (none-some x f)) (λ _ f. all_got P xs (number - 1) x all f)) e

-- Nodes

pub node_at-same : (states : List MemberState) (id : ℕ) (s : NodeState ℕ) → node_at (with_node states id s) id ≡ s
node_at-same [] id s = ap (λ b. cond b s new_node) (same_id id)
node_at-same (state ∷ states) id s =
    branches (λ (xs : List MemberState). node_at xs id ≡ s) (nat_eq state.id id) _ _
    (λ _. ap (λ b. cond b s (node_at states id)) (same_id id))
    (λ no. ap (λ b. cond b state.node (node_at (with_node states id s) id)) no ∙ node_at-same states id s)

pub node_at-other : (states : List MemberState) (id other : ℕ) (s : NodeState ℕ) → other ≢ id → node_at (with_node states id s) other ≡ node_at states other
node_at-other [] id other s ne = ap (λ b. cond b s new_node) (other_id id other (λ e. ne (sym e)))
node_at-other (state ∷ states) id other s ne =
    branches (λ (xs : List MemberState). node_at xs other ≡ node_at (state ∷ states) other) (nat_eq state.id id) _ _
    (λ yes. ap (λ b. cond b s (node_at states other)) (other_id id other (λ e. ne (sym e)))
    ∙ sym (ap (λ b. cond b state.node (node_at states other)) (other_id state.id other (λ e. ne (sym e ∙ ids_same state.id id yes)))))
    (λ _. ap (cond (nat_eq state.id other) state.node) (node_at-other states id other s ne))

-- what holds of the changed node and of all old ones holds of all new ones
pub each_node : (P : ℕ → NodeState ℕ → Type 0) (states : List MemberState) (id : ℕ) (s : NodeState ℕ) → P id s →
    ((other : ℕ) → P other (node_at states other)) → (each : ℕ) → P each (node_at (with_node states id s) each)
each_node P states id s this those each =
    elim (ℕ_discrete each id) [
      | yes e ↦ subst (λ n. P n (node_at (with_node states id s) n)) (sym e) (subst (P id) (sym (node_at-same states id s)) this)
      | no ne ↦ subst (P each) (sym (node_at-other states id each s ne)) (those each)
    ]

-- Purges

-- the first pending purge with a number
abbrev pub pending_in : List Purge → ℕ → Option Purge
pending_in purges number = find (is_numbered number) purges

-- a first purge with another number does not change the look-up
none_first : (b : Bool) (x y : Purge) (rest other : Option Purge) → (rest ≡ None → other ≡ None) → cond b (Some x) rest ≡ None → cond b (Some y) other ≡ None
none_first true x y rest other h e = absurd (none-some x (sym e))
none_first false x y rest other h e = h e

pub pending-none_of_append : (purges more : List Purge) (number : ℕ) → pending_in (purges ++ more) number ≡ None → pending_in purges number ≡ None
pending-none_of_append [] more number e = refl
pending-none_of_append (p ∷ purges) more number e = none_first (nat_eq p.number number) p p (pending_in (purges ++ more) number) (pending_in purges number)
    (pending-none_of_append purges more number) e

pub pending-pushed : (purges : List Purge) (p : Purge) → pending_in (purges ++ p ∷ []) p.number ≡ None → ⊥
pending-pushed [] p e = none-some p (sym (sym (ap (λ b. cond b (Some p) None) (same_id p.number)) ∙ e))
pending-pushed (q ∷ purges) p e =
    branches (λ (o : Option Purge). o ≡ None → ⊥) (nat_eq q.number p.number) (Some q) (pending_in (purges ++ p ∷ []) p.number)
    (λ _ f. none-some q (sym f)) (λ _. pending-pushed purges p) e

pub pending-none_of_marked : (purges : List Purge) (number id other : ℕ) → pending_in (map (λ p. cond (is_numbered number p) (marked_by id p) p) purges)
    other ≡ None → pending_in purges other ≡ None
pending-none_of_marked [] number id other e = refl
pending-none_of_marked (p ∷ purges) number id other e =
    branches (λ (q : Purge). cond (nat_eq q.number other) (Some q) (pending_in (map (λ p. cond (is_numbered number p) (marked_by id p) p) purges) other) ≡ None
    → pending_in (p ∷ purges) other ≡ None)
    (nat_eq p.number number) (marked_by id p) p
    (λ _ f. none_first (nat_eq p.number other) (marked_by id p) p (pending_in (map (λ p. cond (is_numbered number p) (marked_by id p) p) purges) other)
    (pending_in purges other) (pending-none_of_marked purges number id other) f)
    (λ _ f. none_first (nat_eq p.number other) p p (pending_in (map (λ p. cond (is_numbered number p) (marked_by id p) p) purges) other)
    (pending_in purges other) (pending-none_of_marked purges number id other) f) e

pub pending-none_of_without : (purges : List Purge) (number other : ℕ) → other ≢ number → pending_in (filter (λ p. not (is_numbered number p)) purges)
    other ≡ None → pending_in purges other ≡ None
pending-none_of_without [] number other ne e = refl
pending-none_of_without (p ∷ purges) number other ne e =
    branches (λ (xs : List Purge). pending_in xs other ≡ None → pending_in (p ∷ purges) other ≡ None) (not (nat_eq p.number number))
    (p ∷ filter (λ p. not (is_numbered number p)) purges) (filter (λ p. not (is_numbered number p)) purges)
    (λ _ f. none_first (nat_eq p.number other) p p (pending_in (filter (λ p. not (is_numbered number p)) purges) other) (pending_in purges other)
    (pending-none_of_without purges number other ne) f)
    (λ gone f. ap (λ b. cond b (Some p) (pending_in purges other))
    (other_id p.number other (λ e. ne (sym e ∙ ids_same p.number number (not_false (nat_eq p.number number) gone))))
    ∙ pending-none_of_without purges number other ne f) e

pub pending-found : (purges : List Purge) (number : ℕ) (p : Purge) → pending_in purges number ≡ Some p → p.number ≡ number
pending-found [] number p e = absurd (none-some p e)
pending-found (q ∷ purges) number p e =
    (branches (λ (o : Option Purge). o ≡ Some p → p.number ≡ number) (nat_eq q.number number) (Some q) (pending_in purges number)
    (λ yes f. subst (λ (r : Purge). r.number ≡ number) (same_Some q p f) (ids_same q.number number yes)) (λ _. pending-found purges number p)) e

-- Marks

-- who is marked was marked before, or is the one that acknowledges
pub mark_cases : (marked : List ℕ) (id other : ℕ) → is_among other (with_id id marked) ≡ true → (is_among other marked ≡ true) ⊎ (other ≡ id)
mark_cases [] id other = λ h. elim (or_cases (nat_eq id other) false h)
    [ inl same ↦ inr (sym (ids_same id other same)) | inr none ↦ absurd (true_not_false (sym none)) ]
mark_cases (i ∷ marked) id other =
    branches (λ (ids : List ℕ). is_among other ids ≡ true → (is_among other (i ∷ marked) ≡ true) ⊎ (other ≡ id)) (nat_lt id i) (id ∷ i ∷ marked)
    (cond (nat_eq i id) (i ∷ marked) (i ∷ with_id id marked))
    (λ _ h. elim (or_cases (nat_eq id other) (is_among other (i ∷ marked)) h) [ inl same ↦ inr (sym (ids_same id other same)) | inr has ↦ inl has ])
    (λ _. branches (λ (ids : List ℕ). is_among other ids ≡ true → (is_among other (i ∷ marked) ≡ true) ⊎ (other ≡ id)) (nat_eq i id) (i ∷ marked)
    (i ∷ with_id id marked)
    (λ _ h. inl h)
    (λ _ h. elim (or_cases (nat_eq i other) (is_among other (with_id id marked)) h) [
      | inl first ↦ inl (or_left (nat_eq i other) (is_among other marked) first)
      | inr later ↦ elim (mark_cases marked id other later) [ inl has ↦ inl (or_true (nat_eq i other) (is_among other marked) has) | inr same ↦ inr same ]
    ]))

-- if all ids of the first list are in the second, so is each
pub among_has : (ids others : List ℕ) (id : ℕ) → are_among ids others ≡ true → is_among id ids ≡ true → is_among id others ≡ true
among_has [] others id all has = absurd (true_not_false (sym has))
among_has (i ∷ ids) others id all has =
    let parts = and_parts (is_among i others) (are_among ids others) all in
    elim (or_cases (nat_eq i id) (is_among id ids) has) [
      | inl same ↦ subst (λ n. is_among n others ≡ true) (ids_same i id same) parts.0
      | inr later ↦ among_has ids others id parts.1 later
    ]
