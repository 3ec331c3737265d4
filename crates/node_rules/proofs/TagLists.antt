-- Another tag in the place of each tag, through lists and stores: no operation of the store looks
-- at tags, so it gives the same with other tags.
use Rattle.std.proofs.Common.{◌≡◌, ℕ, zero, suc, ◌-◌, Bool, true, false, cond, not, ◌&&◌, ◌||◌, List, [], ◌∷◌, length, map, filter, find, Option, Some, None}
use Rattle.std.proofs.Common.{refl, ◌∙◌, ap, nat_lt, nat_le}
use Rattle.std.specs.Prelude.{option_map}
use Rattle.std.proofs.lemmas.List.{length-map}
use Rattle.object_store.specs.declared.copy.WebCopy.{WebCopy}
use Rattle.http_messages.specs.declared.ask.Ask.{Ask}
use Rattle.values_tables.specs.declared.plain.Limits.{Limits}
use Rattle.node_rules.specs.declared.state.Pending.{Pending}
use Rattle.node_rules.specs.declared.state.NodeState.{NodeState}
use Rattle.floor_rules.specs.Floors.{floor}
use Rattle.object_store.specs.declared.store.Put.{Put}
use Rattle.object_store.specs.declared.store.Put.TheVariants.{TooLarge, Kept, Stored}
use Rattle.object_store.specs.Copy.{size, is_of}
use Rattle.object_store.specs.Listed.{copy_of, without, in_front, to_front, fitting, without_below, without_all_below, is_below}
use Rattle.object_store.specs.Held.{is_outdone_by, put_answer, copies_after}
use Rattle.node_rules.specs.State.{is_of_block, inserted, is_good, if_good, good_copy}
use Rattle.node_rules.specs.Asks.{block_after, is_taken, first_free, free_block, copy_for}
use Rattle.node_rules.specs.Arrivals.{stored, store_of}
use Rattle.node_rules.specs.Tags.{retag_copy, retag_pending, retag_state}

-- a function of a choice is the choice of the function's values
pub both_ways : {A B : Type 0} (h : A → B) (b : Bool) (x y : A) (x' y' : B) → x' ≡ h x → y' ≡ h y → cond b x' y' ≡ h (cond b x y)
both_ways h true x y x' y' p q = p
both_ways h false x y x' y' p q = q

pub filter_of_map : {A B : Type 0} (h : A → B) (test : B → Bool) (xs : List A) → filter test (map h xs) ≡ map h (filter (λ x. test (h x)) xs)
filter_of_map h test [] = refl
filter_of_map h test (x ∷ xs) =
    both_ways (map h) (test (h x)) (x ∷ filter (λ y. test (h y)) xs) (filter (λ y. test (h y)) xs) _ _
    (ap (λ ys. h x ∷ ys) (filter_of_map h test xs)) (filter_of_map h test xs)

pub find_of_map : {A B : Type 0} (h : A → B) (test : B → Bool) (xs : List A) → find test (map h xs) ≡ option_map h (find (λ x. test (h x)) xs)
find_of_map h test [] = refl
find_of_map h test (x ∷ xs) =
    both_ways (option_map h) (test (h x)) (Some x) (find (λ y. test (h y)) xs) _ _ refl (find_of_map h test xs)

module _ {X Y : Type 0} (f : X → Y) where
  -- the store

  pub copy_of-retag : (u : List ℕ) (copies : List (WebCopy X)) → copy_of u (map (retag_copy f) copies) ≡ option_map (retag_copy f) (copy_of u copies)
  copy_of-retag u copies = find_of_map (retag_copy f) (is_of u) copies

  pub without-retag : (u : List ℕ) (copies : List (WebCopy X)) → without u (map (retag_copy f) copies) ≡ map (retag_copy f) (without u copies)
  without-retag u copies = filter_of_map (retag_copy f) (λ c. not (is_of u c)) copies

  pub without_below-retag : (u : List ℕ) (n : ℕ) (copies : List (WebCopy X)) → without_below u n (map (retag_copy f) copies) ≡ map (retag_copy f)
      (without_below u n copies)
  without_below-retag u n copies = filter_of_map (retag_copy f) (λ c. not (is_below u n c)) copies

  pub without_all_below-retag : (n : ℕ) (copies : List (WebCopy X)) → without_all_below n (map (retag_copy f) copies) ≡ map (retag_copy f)
      (without_all_below n copies)
  without_all_below-retag n copies = filter_of_map (retag_copy f) (λ c. not (nat_lt c.stamp n)) copies

  in_front-retag : (o : Option (WebCopy X)) (copies : List (WebCopy X)) → in_front (option_map (retag_copy f) o) (map (retag_copy f) copies) ≡ map
      (retag_copy f) (in_front o copies)
  in_front-retag None copies = refl
  in_front-retag (Some c) copies = refl

  pub to_front-retag : (u : List ℕ) (copies : List (WebCopy X)) → to_front u (map (retag_copy f) copies) ≡ map (retag_copy f) (to_front u copies)
  to_front-retag u copies =
      ap (λ o. in_front o (without u (map (retag_copy f) copies))) (copy_of-retag u copies)
      ∙ ap (λ cs. in_front (option_map (retag_copy f) (copy_of u copies)) cs) (without-retag u copies)
      ∙ in_front-retag (copy_of u copies) (without u copies)

  fitting-retag : (count octets : ℕ) (copies : List (WebCopy X)) → fitting count octets (map (retag_copy f) copies) ≡ map (retag_copy f)
      (fitting count octets copies)
  fitting-retag count octets [] = refl
  fitting-retag count octets (c ∷ copies) =
      both_ways (map (retag_copy f)) (nat_lt 0 count && nat_le (size c) octets) (c ∷ fitting (count - 1) (octets - size c) copies) [] _ _
      (ap (λ cs. retag_copy f c ∷ cs) (fitting-retag (count - 1) (octets - size c) copies)) refl

  older-retag : (c : WebCopy X) (o : Option (WebCopy X)) → is_outdone_by (retag_copy f c) (option_map (retag_copy f) o) ≡ is_outdone_by c o
  older-retag c None = refl
  older-retag c (Some held) = refl

  put_answer-retag : (limits : Limits) (c : WebCopy X) (copies : List (WebCopy X)) → put_answer (store_of limits (map (retag_copy f) copies))
      (retag_copy f c) ≡ put_answer (store_of limits copies) c
  put_answer-retag limits c copies =
      ap (λ b. cond (nat_lt limits.bytes (size c)) TooLarge (cond b Kept Stored))
      (ap (is_outdone_by (retag_copy f c)) (copy_of-retag c.key copies) ∙ older-retag c (copy_of c.key copies))

  copies_after-retag : (limits : Limits) (c : WebCopy X) (copies : List (WebCopy X)) (answer : Put) →
      copies_after (store_of limits (map (retag_copy f) copies)) (retag_copy f c) answer ≡ map (retag_copy f) (copies_after (store_of limits copies) c answer)
  copies_after-retag limits c copies TooLarge = refl
  copies_after-retag limits c copies Kept = refl
  copies_after-retag limits c copies Stored =
      ap (λ cs. fitting limits.copies limits.bytes (retag_copy f c ∷ cs)) (without-retag c.key copies)
      ∙ fitting-retag limits.copies limits.bytes (c ∷ without c.key copies)

  pub stored-retag : (limits : Limits) (c : WebCopy X) (life : Option ℕ) (copies : List (WebCopy X)) →
      stored limits (retag_copy f c) life (map (retag_copy f) copies) ≡ map (retag_copy f) (stored limits c life copies)
  stored-retag limits c None copies = refl
  stored-retag limits c (Some life) copies =
      ap (copies_after (store_of limits (map (retag_copy f) copies)) (retag_copy f c)) (put_answer-retag limits c copies)
      ∙ copies_after-retag limits c copies (put_answer (store_of limits copies) c)

  if_good-retag : (floor now : ℕ) (o : Option (WebCopy X)) → if_good floor now (option_map (retag_copy f) o) ≡ option_map (retag_copy f) (if_good floor now o)
  if_good-retag floor now None = refl
  if_good-retag floor now (Some c) = both_ways (option_map (retag_copy f)) (is_good floor now c) (Some c) None _ _ refl refl

  pub good_copy-retag : (s : NodeState X) (key : List ℕ) (now : ℕ) → good_copy (retag_state f s) key now ≡ option_map (retag_copy f) (good_copy s key now)
  good_copy-retag s key now =
      ap (if_good (floor s.floors key) now) (copy_of-retag key s.copies) ∙ if_good-retag (floor s.floors key) now (copy_of key s.copies)

  pub copy_for-retag : (s : NodeState X) (ask : Ask) (now : ℕ) → copy_for (retag_state f s) ask now ≡ option_map (retag_copy f) (copy_for s ask now)
  copy_for-retag s ask now = both_ways (option_map (retag_copy f)) ask.no_cache None (good_copy s ask.key now) _ _ refl (good_copy-retag s ask.key now)

  -- pending requests

  pub inserted-retag : (p : Pending X) (pending : List (Pending X)) → inserted (retag_pending f p) (map (retag_pending f) pending) ≡ map (retag_pending f)
      (inserted p pending)
  inserted-retag p [] = refl
  inserted-retag p (q ∷ pending) =
      both_ways (map (retag_pending f)) (nat_lt p.block q.block) (p ∷ q ∷ pending) (q ∷ inserted p pending) _ _ refl
      (ap (λ (ps : List (Pending Y)). retag_pending f q ∷ ps) (inserted-retag p pending))

  is_taken-retag : (pending : List (Pending X)) (block : ℕ) → is_taken (map (retag_pending f) pending) block ≡ is_taken pending block
  is_taken-retag [] block = refl
  is_taken-retag (p ∷ pending) block = ap (λ b. is_of_block block p || b) (is_taken-retag pending block)

  first_free-retag : (pending : List (Pending X)) (tries block : ℕ) → first_free (map (retag_pending f) pending) tries block ≡ first_free pending tries block
  unfolding first_free
  first_free-retag pending zero block = refl
  first_free-retag pending (suc tries) block =
      ap (λ b. cond b (first_free (map (retag_pending f) pending) tries (block_after block)) (Some block)) (is_taken-retag pending block)
      ∙ ap (λ o. cond (is_taken pending block) o (Some block)) (first_free-retag pending tries (block_after block))

  pub free_block-retag : (s : NodeState X) → free_block (retag_state f s) ≡ free_block s
  free_block-retag s =
      ap (λ n. cond (nat_le 1024 n) None (first_free (map (retag_pending f) s.pending) 1024 s.next)) (length-map s.pending (retag_pending f))
      ∙ ap (λ o. cond (nat_le 1024 (length s.pending)) None o) (first_free-retag s.pending 1024 s.next)

  one-retag : (block : ℕ) (p q : Pending X) → cond (is_of_block block q) (retag_pending f p) (retag_pending f q) ≡ retag_pending f
      (cond (is_of_block block q) p q)
  one-retag block p q = both_ways (retag_pending f) (is_of_block block q) p q _ _ refl refl

  pub changing-retag : (pending : List (Pending X)) (p : Pending X) → map (λ (q : Pending Y). cond (is_of_block p.block q) (retag_pending f p) q)
      (map (retag_pending f) pending) ≡ map (retag_pending f) (map (λ q. cond (is_of_block p.block q) p q) pending)
  changing-retag [] p = refl
  changing-retag (q ∷ pending) p =
      ap (λ (x : Pending Y). x ∷ map (λ (q : Pending Y). cond (is_of_block p.block q) (retag_pending f p) q) (map (retag_pending f) pending))
      (one-retag p.block p q)
      ∙ ap (λ (xs : List (Pending Y)). retag_pending f (cond (is_of_block p.block q) p q) ∷ xs) (changing-retag pending p)

  pub ending-retag : (pending : List (Pending X)) (block : ℕ) → filter (λ q. not (is_of_block block q)) (map (retag_pending f) pending) ≡ map (retag_pending f)
      (filter (λ q. not (is_of_block block q)) pending)
  ending-retag pending block = filter_of_map (retag_pending f) (λ q. not (is_of_block block q)) pending

  pub find-retag : (test : Pending Y → Bool) (s : NodeState X) → find test (map (retag_pending f) s.pending) ≡ option_map (retag_pending f)
      (find (λ p. test (retag_pending f p)) s.pending)
  find-retag test s = find_of_map (retag_pending f) test s.pending
