-- What the six effects keep of floors and copies: floors rise, copies stay at or above their
-- floors, the store keeps its limits, and the node stays open. By cases on the effect.
use Rattle.std.proofs.Common.{◌≡◌, ℕ, ◌≤◌, true, cond, not, ◌&&◌, List, refl, sym, nat_lt, arith}
use Rattle.std.specs.Prelude.{bytes_eq}
use Rattle.std.specs.List.{AllByRecursion}
use Rattle.object_store.specs.declared.copy.WebCopy.{WebCopy}
use Rattle.node_rules.specs.declared.state.NodeState.{NodeState}
use Rattle.node_rules.specs.declared.event.Event.{Event}
use Rattle.floor_rules.specs.Floors.{floor, new_base, raised, with_base}
use Rattle.object_store.specs.Copy.{is_of}
use Rattle.object_store.specs.Listed.{without_below}
use Rattle.node_rules.specs.State.{Setting, Stepped}
use Rattle.node_rules.specs.Effect.{Effect, Stays, Serves, Brings, Purges, Rebases, Drops}
use Rattle.node_rules.specs.Good.{IsAbove, AreStored}
use Rattle.node_rules.proofs.Cases.{branches, not_both, not_true, test_lt}
use Rattle.node_rules.proofs.FloorLaws.{raise_bound, raise_rises, rebase_bound, rebase_rises, same_text, text_same}
use Rattle.node_rules.proofs.Stores.{all_filtered, all_kept, all_to_front, all_stored, store_to_front, store_stored, store_filtered}

module _ {X : Type 0} (g : Setting) (s : NodeState X) (e : Event X) (mark : X) where
  pub closed_kept : (r : Stepped X) → Effect g s e mark r → r.state.closed ≡ s.closed
  closed_kept r (Stays pending next outcome none keeps) = refl
  closed_kept r (Serves key c pending next outcome is_open is_in h e keeps) = refl
  closed_kept r (Brings c life pending next outcome is_open came h e keeps) = refl
  closed_kept r (Purges key n pending next outcome purge none keeps) = refl
  closed_kept r (Rebases n pending next outcome raise none keeps) = refl
  closed_kept r (Drops key pending next outcome none keeps) = refl

  pub floors_rise : (r : Stepped X) → Effect g s e mark r → (u : List ℕ) → floor s.floors u ≤ floor r.state.floors u
  floors_rise r (Stays pending next outcome none keeps) u = omega arith
  floors_rise r (Serves key c pending next outcome is_open is_in h e keeps) u = omega arith
  floors_rise r (Brings c life pending next outcome is_open came h e keeps) u = omega arith
  floors_rise r (Purges key n pending next outcome purge none keeps) u = raise_rises s.floors key u n
  floors_rise r (Rebases n pending next outcome raise none keeps) u = rebase_rises s.floors u n
  floors_rise r (Drops key pending next outcome none keeps) u = omega arith

  -- the copy is not below its floor, and not one of the key below the number
  abbrev IsLeft : List ℕ → ℕ → WebCopy X → Type 0
  IsLeft key n c = IsAbove s.floors c × (not (is_of key c && nat_lt c.stamp n) ≡ true)

  -- a copy that a purge leaves is not below the raised floor
  purge_leaves : (key : List ℕ) (n : ℕ) (c : WebCopy X) → IsLeft key n c → not (nat_lt c.stamp (new_base s.floors key n)) ≡ true →
      IsAbove (raised s.floors key n) c
  purge_leaves key n c (above, kept) high =
      let base : new_base s.floors key n ≤ c.stamp = test_lt c.stamp (new_base s.floors key n) (not_true _ high) in
      let own : cond (bytes_eq c.key key) n 0 ≤ c.stamp = branches (λ k. k ≤ c.stamp) (bytes_eq c.key key) n 0
      (λ same. let here : key ≡ c.key = sym (same_text c.key key same) in
      test_lt c.stamp n (not_both (is_of key c) (nat_lt c.stamp n) kept (text_same c.key key (sym here))))
      (λ _. omega arith) in
      omega (arith, raise_bound s.floors key c.key n, above, own, base)

  -- nor is one that an admission leaves
  rebase_leaves : (n : ℕ) (c : WebCopy X) → IsAbove s.floors c → not (nat_lt c.stamp n) ≡ true → IsAbove (with_base s.floors n) c
  rebase_leaves n c above kept = omega (arith, rebase_bound s.floors c.key n, above, test_lt c.stamp n (not_true _ kept))

  pub above_kept : (r : Stepped X) → Effect g s e mark r → AllByRecursion (IsAbove s.floors) s.copies → AllByRecursion (IsAbove r.state.floors) r.state.copies
  above_kept r (Stays pending next outcome none keeps) all = all
  above_kept r (Serves key c pending next outcome is_open is_in h e keeps) all = all_to_front (IsAbove s.floors) key s.copies all
  above_kept r (Brings c life pending next outcome is_open came h e keeps) all = all_stored (IsAbove s.floors) g.roster.limits c life s.copies h all
  above_kept r (Purges key n pending next outcome purge none keeps) all =
      all_filtered (IsLeft key n) (IsAbove (raised s.floors key n)) _ (without_below key n s.copies) (purge_leaves key n)
      (all_filtered (IsAbove s.floors) (IsLeft key n) _ s.copies (λ c above kept. (above, kept)) all)
  above_kept r (Rebases n pending next outcome raise none keeps) all =
      all_filtered (IsAbove s.floors) (IsAbove (with_base s.floors n)) _ s.copies (rebase_leaves n) all
  above_kept r (Drops key pending next outcome none keeps) all = all_kept (IsAbove s.floors) _ s.copies all

  pub store_kept : (r : Stepped X) → Effect g s e mark r → AreStored g.roster.limits s.copies → AreStored g.roster.limits r.state.copies
  store_kept r (Stays pending next outcome none keeps) is = is
  store_kept r (Serves key c pending next outcome is_open is_in h e keeps) is = store_to_front g.roster.limits key s.copies is
  store_kept r (Brings c life pending next outcome is_open came h e keeps) is = store_stored g.roster.limits c life s.copies is
  store_kept r (Purges key n pending next outcome purge none keeps) is =
      store_filtered g.roster.limits _ (without_below key n s.copies) (store_filtered g.roster.limits _ s.copies is)
  store_kept r (Rebases n pending next outcome raise none keeps) is = store_filtered g.roster.limits _ s.copies is
  store_kept r (Drops key pending next outcome none keeps) is = store_filtered g.roster.limits _ s.copies is
