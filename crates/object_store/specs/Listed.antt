-- A bounded store as a list of copies, the most recent first.
use Rattle.std.specs.Prelude.{◌≡◌, ℕ, ◌-◌, ◌≤◌, Bool, not, ◌&&◌, nat_le, nat_lt, List, [], ◌∷◌, length, take, sum_by, filter, find, Option, Some, None}
use Rattle.std.specs.Prelude.{if◌then◌else◌, ⊤}
use Rattle.std.specs.List.{AllByRecursion}
use Rattle.object_store.specs.declared.copy.WebCopy.{WebCopy}
use Rattle.object_store.specs.Copy.{size, is_of}

-- the copy of the key, if there is one
abbrev pub copy_of : {T : Type 0} → List ℕ → List (WebCopy T) → Option (WebCopy T)
copy_of key copies = find (is_of key) copies

-- the copies of all other keys
abbrev pub without : {T : Type 0} → List ℕ → List (WebCopy T) → List (WebCopy T)
without key copies = filter (λ c. not (is_of key c)) copies

-- a copy, if there is one, before the others
abbrev pub in_front : {T : Type 0} → Option (WebCopy T) → List (WebCopy T) → List (WebCopy T)
in_front None copies = copies
in_front (Some c) copies = c ∷ copies

-- the copy of the key, if there is one, comes to the front [Copy 4]
abbrev pub to_front : {T : Type 0} → List ℕ → List (WebCopy T) → List (WebCopy T)
to_front key copies = in_front (copy_of key copies) (without key copies)

-- the octets of all copies together
abbrev pub octets : {T : Type 0} → List (WebCopy T) → ℕ
octets copies = sum_by size copies

-- at most `count` copies, with at most `bytes` octets
abbrev pub IsWithin : {T : Type 0} → ℕ → ℕ → List (WebCopy T) → Type 0
IsWithin count bytes copies = (length copies ≤ count) × (octets copies ≤ bytes)

-- no two copies have the same key
abbrev pub OneEach : {T : Type 0} → List (WebCopy T) → Type 0
OneEach [] = ⊤
OneEach (c ∷ copies) = AllByRecursion (λ d. d.key ≡ c.key → ⊥) copies × OneEach copies

-- the longest front within both limits: a copy fits where there is room for one more and for its
-- octets
abbrev pub fitting : {T : Type 0} → ℕ → ℕ → List (WebCopy T) → List (WebCopy T)
fitting count bytes [] = []
fitting count bytes (c ∷ copies) =
    if nat_lt 0 count && nat_le (size c) bytes
    then c ∷ fitting (count - 1) (bytes - size c) copies
    else []

-- a front of the list within both limits, and no longer front is within them
pub record IsLongestFront {T : Type 0} (count bytes : ℕ) (copies front : List (WebCopy T)) : Type 0 where
  pub is_front : take (length front) copies ≡ front
  pub within : IsWithin count bytes front
  pub longest : (n : ℕ) → n ≤ length copies → IsWithin count bytes (take n copies) → n ≤ length front

-- the copy has this key and a stamp less than `n`
abbrev pub is_below : {T : Type 0} → List ℕ → ℕ → WebCopy T → Bool
is_below key n c = is_of key c && nat_lt c.stamp n

-- the copies but that of the key, which goes if its stamp is less than `n` [Copy 6]
abbrev pub without_below : {T : Type 0} → List ℕ → ℕ → List (WebCopy T) → List (WebCopy T)
without_below key n copies = filter (λ c. not (is_below key n c)) copies

-- the copies with a stamp of at least `n` [Copy 6]
abbrev pub without_all_below : {T : Type 0} → ℕ → List (WebCopy T) → List (WebCopy T)
without_all_below n copies = filter (λ c. not (nat_lt c.stamp n)) copies
