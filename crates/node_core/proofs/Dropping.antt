-- The copies that a purge drops. In memory, those below the new base go before the commit, and the
-- key's own after it; the rule has them the other way about, which leaves the same. And what an admission
-- drops.
use Rattle.std.proofs.Common.{◌≡◌, ℕ, ◌+◌, Bool, true, false, cond, not, ◌||◌, max, List, [], ◌∷◌, count_by, filter, Result, Ok, Err, refl, sym, ◌∙◌}
use Rattle.std.proofs.Common.{ap, nat_lt}
use Rattle.std.proofs.Common.{arith}
use Rattle.std.specs.List.{list_any}
use Rattle.std.proofs.lemmas.List.Sums.{sum_by-cons}
use Rattle.std.specs.Prelude.{OnOk}
use Rattle.object_store.specs.declared.copy.WebCopy.{WebCopy}
use Rattle.object_store.specs.Listed.{copy_of, is_below, without_below, without_all_below}
use Rattle.object_store.specs.Held.{Held, is_older_than, with_copies}
use Rattle.floor_rules.specs.Floors.{FloorTable, new_base, raised, with_base}
use Rattle.values_plain.specs.declared.address.Address.{Address}
use Rattle.node_rules.specs.declared.state.NodeState.{NodeState}
use Rattle.node_rules.specs.declared.reply.Reply.{Reply}
use Rattle.node_rules.specs.State.{replies}
use Rattle.node_rules.specs.Raises.{left_by}
use Rattle.node_rules.specs.Datagrams.{clr_done, purge, rebased, rebase}
use Rattle.node_rules.proofs.Stores.{none_below}

-- two filters leave the same in either order
filters_swap : {A : Type 0} (p q : A → Bool) (xs : List A) → filter p (filter q xs) ≡ filter q (filter p xs)
filters_swap p q [] = refl
filters_swap p q (x ∷ xs) = go (p x) refl (q x) refl (filters_swap p q xs)
  where
    go : (a : Bool) → p x ≡ a → (b : Bool) → q x ≡ b → filter p (filter q xs) ≡ filter q (filter p xs) →
        filter p (cond b (x ∷ filter q xs) (filter q xs)) ≡ filter q (cond a (x ∷ filter p xs) (filter p xs))
    go true is_p true is_q more =
        ap (λ t. cond t (x ∷ filter p (filter q xs)) (filter p (filter q xs))) is_p
        ∙ ap (λ ys. x ∷ ys) more
        ∙ ap (λ t. cond t (x ∷ filter q (filter p xs)) (filter q (filter p xs))) (sym is_q)
    go true is_p false is_q more = more ∙ ap (λ t. cond t (x ∷ filter q (filter p xs)) (filter q (filter p xs))) (sym is_q)
    go false is_p true is_q more = ap (λ t. cond t (x ∷ filter p (filter q xs)) (filter p (filter q xs))) is_p ∙ more
    go false is_p false is_q more = more

-- the copies that are left after both
pub left_in_either_order : {X : Type 0} (floors : FloorTable) (key : List ℕ) (n : ℕ) (copies : List (WebCopy X)) →
    without_below key n (without_all_below (new_base floors key n) copies) ≡ left_by floors key n copies
left_in_either_order floors key n copies =
    filters_swap (λ c. not (is_below key n c)) (λ c. not (nat_lt c.stamp (new_base floors key n))) copies

-- the store after both
pub left_in_store : {X : Type 0} (floors : FloorTable) (key : List ℕ) (n : ℕ) (old between now : Held X) →
    between ≡ with_copies old (without_all_below (new_base floors key n) old.copies) → now ≡ with_copies between (without_below key n between.copies) →
    now.copies ≡ left_by floors key n old.copies
left_in_store {X} floors key n old between now first second =
    ap (λ (held : Held X). held.copies) second ∙ ap (λ (held : Held X). without_below key n held.copies) first
    ∙ left_in_either_order floors key n old.copies

-- where no base rises, the store keeps all copies
pub keeps_all : {X : Type 0} (held : Held X) (base : ℕ) → base ≡ 0 → held ≡ with_copies held (without_all_below base held.copies)
keeps_all held base none =
    ap (with_copies held) (sym (none_below held.copies)) ∙ ap (λ b. with_copies held (without_all_below b held.copies)) (sym none)

-- what holds anyway holds after an Ok
pub on_ok : {A E : Type 0} (P : Type 0) (r : Result A E) → P → OnOk r P
on_ok P (Ok x) p = p
on_ok P (Err e) p = tt

-- a purge, by what it leaves and what it answers
pub purge_is : {X : Type 0} (s : NodeState X) (from : Address) (trans : ℕ) (desired : Bool) (key : List ℕ) (n : ℕ) (floors : FloorTable)
    (copies : List (WebCopy X)) (gone : Bool) (reply : Reply X) → floors ≡ raised s.floors key n → copies ≡ left_by s.floors key n s.copies →
    gone ≡ is_older_than (max n (new_base s.floors key n)) (copy_of key s.copies) → ((t : NodeState X) → clr_done t from trans desired gone ≡ replies t reply) →
    purge s from trans desired key n ≡ replies (record s { floors = floors; copies = copies }) reply
unfolding purge
purge_is {X} s from trans desired key n floors copies gone reply floors_are copies_are gone_is answers =
    let after : FloorTable → List (WebCopy X) → NodeState X = λ f cs. record s { floors = f; copies = cs } in
    let left = left_by s.floors key n s.copies in
    ap (clr_done (after (raised s.floors key n) left) from trans desired) (sym gone_is)
    ∙ answers (after (raised s.floors key n) left)
    ∙ ap (λ f. replies (after f left) reply) (sym floors_are)
    ∙ ap (λ cs. replies (after floors cs) reply) (sym copies_are)

-- Admissions

-- copies are counted where some are held
any_counted : {A : Type 0} (p : A → Bool) (xs : List A) → nat_lt 0 (count_by p xs) ≡ list_any p xs
any_counted p [] = refl
any_counted p (x ∷ xs) = ap (nat_lt 0) (sum_by-cons (λ x. cond (p x) 1 0) x xs) ∙ by (p x) (any_counted p xs)
  where
    by : (b : Bool) → nat_lt 0 (count_by p xs) ≡ list_any p xs → nat_lt 0 (cond b 1 0 + count_by p xs) ≡ (b || list_any p xs)
    by true others = grind arith
    by false others = ap (nat_lt 0) (grind arith) ∙ others

-- an admission, by what it leaves and what it answers
pub rebase_is : {X : Type 0} (s : NodeState X) (from : Address) (trans : ℕ) (desired : Bool) (n : ℕ) (floors : FloorTable)
    (copies : List (WebCopy X)) (gone : ℕ) (reply : Reply X) → floors ≡ with_base s.floors n → copies ≡ without_all_below n s.copies →
    gone ≡ count_by (λ c. nat_lt c.stamp n) s.copies → ((t : NodeState X) → clr_done t from trans desired (nat_lt 0 gone) ≡ replies t reply) →
    rebase s from trans desired n ≡ replies (record s { floors = floors; copies = copies }) reply
unfolding rebase
rebase_is {X} s from trans desired n floors copies gone reply floors_are copies_are gone_is answers =
    let after : FloorTable → List (WebCopy X) → NodeState X = λ f cs. record s { floors = f; copies = cs } in
    let left = without_all_below n s.copies in
    let some : nat_lt 0 gone ≡ list_any (λ (c : WebCopy X). nat_lt c.stamp n) s.copies = ap (nat_lt 0) gone_is ∙ any_counted _ s.copies in
    ap (clr_done (rebased s n) from trans desired) (sym some)
    ∙ answers (after (with_base s.floors n) left)
    ∙ ap (λ f. replies (after f left) reply) (sym floors_are)
    ∙ ap (λ cs. replies (after floors cs) reply) (sym copies_are)
