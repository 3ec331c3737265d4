-- The last record of a node, and the records that are flawed alone, one record after another.
use Rattle.std.proofs.Common.{◌≡◌, ◌⊎◌, ◌↔◌, ℕ, zero, suc, ◌<◌, true, false, cond, List, [], ◌∷◌, ◌++◌, length, take, drop, get_or, Option, Some, None, nat_eq}
use Rattle.std.proofs.Common.{sym, ◌∙◌, ap, subst, inl, inr, arith}
use Rattle.std.proofs.Math.Seq.{drop-cons, take-suc}
use Rattle.std.proofs.lemmas.Bool.Decides.{nat_tests}
use Rattle.values_tables.specs.declared.plain.Tables.{Tables}
use Rattle.node_book.specs.declared.record.Record.{Record}
use Rattle.run_rules.specs.First.{last_by, last_of, IsFlawedAlone, HasFlawedAlone}

-- The last record of a node

abbrev if_of : ℕ → Record → Option Record
if_of id r = cond (nat_eq r.node id) (Some r) None

pub same_node : (m n : ℕ) → m ≡ n → nat_eq m n ≡ true
same_node m n is = grind (arith, nat_tests, is)

-- the records from one on begin with it
pub from_here : (rs : List Record) (at : ℕ) (r : Record) → at < length rs → r ≡ get_or rs at r → drop at rs ≡ r ∷ drop (suc at) rs
from_here rs at r within is = drop-cons rs at r within ∙ ap (λ (x : Record). x ∷ drop (suc at) rs) (sym is)

pub last_none : (id : ℕ) (r : Record) (rs xs : List Record) → xs ≡ r ∷ rs → nat_eq r.node id ≡ false → last_of id rs ≡ None → last_of id xs ≡ None
last_none id r rs xs is other none =
    ap (last_of id) is ∙ ap (λ o. last_by o (if_of id r)) none ∙ ap (λ b. cond b (Some r) None) other

last_here : (id : ℕ) (r : Record) (rs xs : List Record) → xs ≡ r ∷ rs → nat_eq r.node id ≡ true → last_of id rs ≡ None → last_of id xs ≡ Some r
last_here id r rs xs is same none =
    ap (last_of id) is ∙ ap (λ o. last_by o (if_of id r)) none ∙ ap (λ b. cond b (Some r) None) same

last_before : (id at : ℕ) (rs : List Record) (r : Record) → last_of id (drop at rs) ≡ Some r → last_of id rs ≡ Some r
last_before id zero rs r is = is
last_before id (suc at) [] r is = cc
last_before id (suc at) (x ∷ rs) r is = ap (λ o. last_by o (if_of id x)) (last_before id at rs r is)

-- the record at an index is the last of its node
pub last_at : (id at : ℕ) (r : Record) (rs : List Record) → at < length rs → r ≡ get_or rs at r → nat_eq r.node id ≡ true →
    last_of id (drop (suc at) rs) ≡ None → last_of id rs ≡ Some r
last_at id at r rs within is same none =
    last_before id at rs r (last_here id r (drop (suc at) rs) (drop at rs) (from_here rs at r within is) same none)

-- Records that are flawed alone

module _ (roster : Tables) (records : List Record) where
  -- from an index on, one is
  abbrev pub HasLater : ℕ → Type 0
  HasLater at = HasFlawedAlone roster (take at records) (drop at records)

  module _ (at : ℕ) (r : Record) (within : at < length records) (is : r ≡ get_or records at r) where
    front : take (suc at) records ≡ take at records ++ r ∷ []
    front = take-suc records at r within ∙ ap (λ (x : Record). take at records ++ x ∷ []) (sym is)

    abbrev IsHere : Type 0
    IsHere = IsFlawedAlone roster (last_of r.node (take at records)) r

    to_choice : HasLater at → IsHere ⊎ HasFlawedAlone roster (take at records ++ r ∷ []) (drop (suc at) records)
    to_choice has = subst (HasFlawedAlone roster (take at records)) (from_here records at r within is) has

    of_choice : IsHere ⊎ HasFlawedAlone roster (take at records ++ r ∷ []) (drop (suc at) records) → HasLater at
    of_choice has = subst (HasFlawedAlone roster (take at records)) (sym (from_here records at r within is)) has

    pub is_here : IsHere → HasLater at
    is_here flawed = of_choice (inl flawed)

    not_here : (IsHere → ⊥) → IsHere ⊎ HasFlawedAlone roster (take at records ++ r ∷ []) (drop (suc at) records) → HasLater (suc at)
    not_here none (inl flawed) = absurd (none flawed)
    not_here none (inr later) = subst (λ f. HasFlawedAlone roster f (drop (suc at) records)) (sym front) later

    pub is_later : (IsHere → ⊥) → (HasLater at ↔ HasFlawedAlone roster [] records) → HasLater (suc at) ↔ HasFlawedAlone roster [] records
    is_later none before = (
      (λ has. before.0 (of_choice (inr (subst (λ f. HasFlawedAlone roster f (drop (suc at) records)) front has)))),
      (λ all. not_here none (to_choice (before.1 all))),
    )
