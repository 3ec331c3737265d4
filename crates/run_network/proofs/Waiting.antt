-- One more request waits, or those of a node are dropped. A look-up takes the first of a node and
-- block, which is the one that was added last.
use Rattle.std.proofs.Common.{◌≡◌, ℕ, Bool, true, false, cond, not, ◌&&◌, List, ◌∷◌, filter, Option, Some, None, nat_eq, eqb-true, refl, sym, ◌∙◌, ap}
use Rattle.std.proofs.Common.{inl, inr, arith}
use Rattle.std.specs.Prelude.{find, option_map, OnOk, Result, Ok, Err}
use Rattle.std.specs.HashMap.{get}
use Rattle.std.specs.Option.{option_and_then}
use Rattle.run_rules.specs.Sent.{Waits, is_waiting}
use Rattle.run_rules.proofs.Lists.{either, found_kept, found_gone}
use Rattle.run_network.specs.declared.waits.Waits.{Waits as HeldWaits}
use Rattle.run_network.specs.Held.{waiting_key, key_at, HoldsWaits}

key_when : (b : Bool) (w : Waits) (o : Option Waits) → option_map (λ (x : Waits). x.key) (cond b (Some w) o) ≡ cond b (Some w.key)
    (option_map (λ (x : Waits). x.key) o)
key_when true w o = refl
key_when false w o = refl

waiting_more : (waiting : List Waits) (w : Waits) (n b : ℕ) → waiting_key (w ∷ waiting) n b ≡ cond (nat_eq w.node n && nat_eq w.block b) (Some w.key)
    (waiting_key waiting n b)
waiting_more waiting w n b = key_when (nat_eq w.node n && nat_eq w.block b) w (find (is_waiting n b) waiting)

not_there : (a node n : ℕ) (b : Bool) → node ≡ n → not (nat_eq a node) ≡ true → (nat_eq a n && b) ≡ false
not_there a node n b e h = grind arith

is_there : (a node n : ℕ) (b : Bool) → nat_eq node n ≡ false → (nat_eq a n && b) ≡ true → not (nat_eq a node) ≡ true
is_there a node n b e h = grind arith

pub waiting_gone : (waiting : List Waits) (node n b : ℕ) → waiting_key (filter (λ (w : Waits). not (nat_eq w.node node)) waiting) n b ≡ cond (nat_eq node n)
    None (waiting_key waiting n b)
waiting_gone waiting node n b =
    elim (either (nat_eq node n)) [
      | inl same ↦
          ap (option_map (λ (x : Waits). x.key)) (found_gone (is_waiting n b) (λ (w : Waits). not (nat_eq w.node node))
          (λ x kept. not_there x.node node n (nat_eq x.block b) (eqb-true node n same) kept) waiting)
          ∙ sym (ap (λ c. cond c None (waiting_key waiting n b)) same)
      | inr apart ↦
          ap (option_map (λ (x : Waits). x.key)) (found_kept (is_waiting n b) (λ (w : Waits). not (nat_eq w.node node))
          (λ x is. is_there x.node node n (nat_eq x.block b) apart is) waiting)
          ∙ sym (ap (λ c. cond c None (waiting_key waiting n b)) apart)
    ]

and_then_cond : {A : Type 0} (f : A → Option (List ℕ)) (b : Bool) (o : Option A) → option_and_then f (cond b None o) ≡ cond b None (option_and_then f o)
and_then_cond f true o = refl
and_then_cond f false o = refl

-- what waited at a node is dropped
pub forgotten : (old new : HeldWaits) (node : ℕ) → ((n : ℕ) → get nat_eq new.nodes n ≡ cond (nat_eq node n) None (get nat_eq old.nodes n)) →
    (waiting : List Waits) → HoldsWaits old waiting →
    HoldsWaits new (filter (λ (w : Waits). not (nat_eq w.node node)) waiting)
forgotten old new node gone waiting holds n b =
    ap (option_and_then (λ blocks. option_map (λ k. k.now) (get nat_eq blocks b))) (gone n)
    ∙ and_then_cond (λ blocks. option_map (λ k. k.now) (get nat_eq blocks b)) (nat_eq node n) (get nat_eq old.nodes n)
    ∙ ap (cond (nat_eq node n) None) (holds n b) ∙ sym (waiting_gone waiting node n b)

module _ (old mid new : HeldWaits) (before after : ℕ → Option (List ℕ)) (node block : ℕ) (key : List ℕ) (taken : (b : ℕ) → before b ≡ key_at old node b)
    (others : (n b : ℕ) → nat_eq node n ≡ false → key_at mid n b ≡ key_at old n b)
    (entered : (b : ℕ) → after b ≡ cond (nat_eq block b) (Some key) (before b))
    (puts : (n b : ℕ) → key_at new n b ≡ cond (nat_eq node n) (after b) (key_at mid n b)) where
  pub added : (waiting : List Waits) → HoldsWaits old waiting → HoldsWaits new (record { node = node; block = block; key = key } ∷ waiting)
  added waiting holds n b =
      elim (either (nat_eq node n)) [
        | inl same ↦
            puts n b ∙ ap (λ c. cond c (after b) (key_at mid n b)) same ∙ entered b ∙ ap (λ o. cond (nat_eq block b) (Some key) o)
            (taken b ∙ ap (λ m. key_at old m b) (eqb-true node n same) ∙ holds n b)
            ∙ sym (waiting_more waiting (record { node = node; block = block; key = key }) n b
            ∙ ap (λ c. cond (c && nat_eq block b) (Some key) (waiting_key waiting n b)) same)
        | inr apart ↦
            puts n b ∙ ap (λ c. cond c (after b) (key_at mid n b)) apart ∙ others n b apart ∙ holds n b
            ∙ sym (waiting_more waiting (record { node = node; block = block; key = key }) n b
            ∙ ap (λ c. cond (c && nat_eq block b) (Some key) (waiting_key waiting n b)) apart)
      ]

pub added_on : {R E : Type 0} (r : Result R E) (old mid new : HeldWaits) (before after : ℕ → Option (List ℕ)) (node block : ℕ) (key : List ℕ) →
    ((b : ℕ) → before b ≡ key_at old node b) →
    ((n b : ℕ) → nat_eq node n ≡ false → key_at mid n b ≡ key_at old n b) →
    ((b : ℕ) → after b ≡ cond (nat_eq block b) (Some key) (before b)) →
    OnOk r ((n b : ℕ) → key_at new n b ≡ cond (nat_eq node n) (after b) (key_at mid n b)) →
    OnOk r ((waiting : List Waits) → HoldsWaits old waiting → HoldsWaits new (record { node = node; block = block; key = key } ∷ waiting))
added_on (Ok r) old mid new before after node block key taken others entered puts = added old mid new before after node block key taken others entered puts
added_on (Err e) old mid new before after node block key taken others entered puts = tt
