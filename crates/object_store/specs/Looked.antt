-- What a store is once the copy that `look` lent is given back.
use Rattle.std.specs.Prelude.{◌≡◌, ℕ, List, ⊤}
use Rattle.std.specs.Borrow.{Fml, RattleType, MutBor, follows_so}
use mathlib.Core.Option.{none}
use Rattle.object_store.specs.Listed.{to_front}
use Rattle.object_store.specs.Held.{Held, with_copies}
use Rattle.object_store.specs.contracts.store.Store.{the_row}

-- the same store, with the copy of the key in front
abbrev pub EndsInFront : (T : RattleType) → MutBor (Held T.Denot) → List ℕ → Fml
EndsInFront T s key =
    follows_so (the_row T) (the_row T) s.ghost_name none (λ _ _. ⊤)
    (λ n. n ≡ with_copies s.now (to_front key s.now.copies))
