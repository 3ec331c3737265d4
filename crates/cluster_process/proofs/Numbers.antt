-- A member that is found to be ahead of a number is one of those that are. Where the members are judged well, none is, and
-- the files have what was acknowledged.
use Rattle.std.proofs.Common.{◌≡◌, ℕ, ◌<◌, Bool, true, false, cond, ◌||◌, Option, Some, None, option_map, List, [], ◌∷◌, map, find, Result, Ok, Err}
use Rattle.std.proofs.Common.{OnOk, refl, subst}
use Rattle.std.proofs.Common.{ap, ◌∙◌, arith}
use Rattle.std.proofs.lemmas.Bool.Decides.{nat_tests}
use Rattle.std.specs.Prelude.{nat_lt}
use Rattle.std.specs.List.{list_any}
use Rattle.purge_rules.specs.declared.nodes.Nodes.{Nodes}
use Rattle.purge_rules.specs.Purges.{PurgeList}
use Rattle.cluster_process.specs.Numbers.{has_ahead, IsJudged}
use Rattle.cluster_process.specs.Stored.{AreStored, IsStored, IsInTime}
use Rattle.cluster_process.specs.declared.fault.ClusterFault.{ClusterFault}

module _ {X : Type 0} (seen : X → ℕ) (last : ℕ) where
  -- by whether the first is ahead
  found_by : (y : X) (ys : List X) (x : X) (b : Bool) → nat_lt last (seen y) ≡ b → cond b (Some y) (find (λ n. nat_lt last (seen n)) ys) ≡ Some x →
      (find (λ n. nat_lt last (seen n)) ys ≡ Some x → (list_any (nat_lt last) (map seen ys) ≡ true) × (last < seen x)) →
      (list_any (nat_lt last) (map seen (y ∷ ys)) ≡ true) × (last < seen x)
  found_by y ys x true e is others =
      let same : y ≡ x = cc in
      let less : last < seen y = grind (arith, nat_tests) in
      (ap (λ b. b || list_any (nat_lt last) (map seen ys)) e, subst (λ z. last < seen z) same less)
  found_by y ys x false e is others =
      let rest = others is in (ap (λ b. b || list_any (nat_lt last) (map seen ys)) e ∙ rest.0, rest.1)

  pub found_ahead : (xs : List X) (x : X) → find (λ n. nat_lt last (seen n)) xs ≡ Some x → (list_any (nat_lt last) (map seen xs) ≡ true) × (last < seen x)
  found_ahead [] x is = absurd cc
  found_ahead (y ∷ ys) x is = found_by y ys x (nat_lt last (seen y)) refl is (found_ahead ys x)

  none_by : (y : X) (ys : List X) (b : Bool) → nat_lt last (seen y) ≡ b → cond b (Some y) (find (λ n. nat_lt last (seen n)) ys) ≡ None →
      (find (λ n. nat_lt last (seen n)) ys ≡ None → list_any (nat_lt last) (map seen ys) ≡ false) → list_any (nat_lt last) (map seen (y ∷ ys)) ≡ false
  none_by y ys true e is others = absurd cc
  none_by y ys false e is others = ap (λ b. b || list_any (nat_lt last) (map seen ys)) e ∙ others is

  pub none_ahead : (xs : List X) → find (λ n. nat_lt last (seen n)) xs ≡ None → list_any (nat_lt last) (map seen xs) ≡ false
  none_ahead [] is = refl
  none_ahead (y ∷ ys) is = none_by y ys (nat_lt last (seen y)) refl is (none_ahead ys)

-- where the members are judged well, none is ahead
pub judged_well : (last : ℕ) (greatest : List ℕ) (told : Result (Unit {0}) ClusterFault) → IsJudged last greatest told
    → OnOk told (has_ahead last greatest ≡ false)
judged_well last greatest (Ok done) judged = judged
judged_well last greatest (Err fault) judged = tt

-- where the files are judged well, none lacks what its member has acknowledged
pub stored_well : (nodes : Nodes) (purges : PurgeList) (greatest : ℕ → ℕ) (told : Result (Unit {0}) ClusterFault) → IsStored nodes purges greatest told
    → OnOk told (AreStored nodes purges greatest)
stored_well nodes purges greatest (Ok done) stored = stored
stored_well nodes purges greatest (Err fault) stored = tt

-- where joining members are judged well, no file has a number too early
pub in_time : {X : Type 0} (id : X → ℕ) (early : Option X) (told : Result (Unit {0}) ClusterFault) → IsInTime (option_map id early) told
    → OnOk told (early ≡ None)
in_time id None (Ok done) judged = refl
in_time id None (Err fault) judged = tt
in_time id (Some x) (Ok done) judged = absurd cc
in_time id (Some x) (Err fault) judged = tt
