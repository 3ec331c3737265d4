-- How the map of a store holds its copies.
use Rattle.std.specs.Prelude.{◌≡◌, ℕ, ◌-◌, ◌^◌, List, [], ◌∷◌}
use Rattle.std.specs.List.{AllByRecursion}
use Rattle.std.specs.Map.{values_of}
use Rattle.lru.specs.LruCache.{LruCache}
use Rattle.object_store.specs.declared.copy.WebCopy.{WebCopy}
use Rattle.object_store.specs.Listed.{without}

-- each copy stands under its own key
abbrev pub AreKeyed : {T : Type 0} → List (List ℕ × WebCopy T) → Type 0
AreKeyed {T} entries = AllByRecursion (λ (e : List ℕ × WebCopy T). e.0 ≡ e.1.key) entries

-- the copies, the most recent first
abbrev pub copies_in : {T : Type 0} → LruCache (List ℕ) (WebCopy T) → List (WebCopy T)
copies_in cache = values_of cache.entries

-- each entry stands under its copy's key, and the map drops none by itself, as its capacity is the
-- greatest
pub record IsCached {T : Type 0} (cache : LruCache (List ℕ) (WebCopy T)) : Type 0 where
  pub keyed : AreKeyed cache.entries
  pub cap : cache.cap ≡ 2 ^ 64 - 1

-- the copies of all other keys than these
abbrev pub without_each : {T : Type 0} → List (List ℕ) → List (WebCopy T) → List (WebCopy T)
without_each [] copies = copies
without_each (key ∷ keys) copies = without_each keys (without key copies)
