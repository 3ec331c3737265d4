-- A store as contracts see it, and what a put does.
use Rattle.std.specs.Prelude.{ℕ, Bool, false, nat_lt, List, ◌∷◌, Option, Some, None, if◌then◌else◌}
use Rattle.object_store.specs.declared.copy.WebCopy.{WebCopy}
use Rattle.object_store.specs.declared.store.Put.{Put}
use Rattle.object_store.specs.declared.store.Put.TheVariants.{TooLarge, Kept, Stored}
use Rattle.object_store.specs.Copy.{size}
use Rattle.object_store.specs.Listed.{copy_of, without, fitting, IsWithin, OneEach}

-- the limits, and the copies, the most recent first
pub record Held (T : Type 0) : Type 0 where
  pub limit_count : ℕ
  pub limit_bytes : ℕ
  pub copies : List (WebCopy T)

-- the copies are within the limits, at most one of each key [Copy 3]
pub record IsStore {T : Type 0} (held : Held T) : Type 0 where
  pub within : IsWithin held.limit_count held.limit_bytes held.copies
  pub one_each : OneEach held.copies

-- the store's copy of the key has a greater stamp than this copy
abbrev pub is_outdone_by : {T : Type 0} → WebCopy T → Option (WebCopy T) → Bool
is_outdone_by c None = false
is_outdone_by c (Some held) = nat_lt c.stamp held.stamp

-- there is a copy, with a stamp less than `n`
abbrev pub is_older_than : {T : Type 0} → ℕ → Option (WebCopy T) → Bool
is_older_than n None = false
is_older_than n (Some old) = nat_lt old.stamp n

-- the outcome of a put [Copy 5]
abbrev pub put_answer : {T : Type 0} → Held T → WebCopy T → Put
put_answer held c =
    if nat_lt held.limit_bytes (size c) then TooLarge
    else (if is_outdone_by c (copy_of c.key held.copies) then Kept else Stored)

-- the copies after a put with this outcome: a stored copy comes to the front, the key's old copy
-- goes, and so do the least recent copies that no longer fit [Copy 5]
abbrev pub copies_after : {T : Type 0} → Held T → WebCopy T → Put → List (WebCopy T)
copies_after held c TooLarge = held.copies
copies_after held c Kept = held.copies
copies_after held c Stored = fitting held.limit_count held.limit_bytes (c ∷ without c.key held.copies)

-- the store with these copies, and its own limits
abbrev pub with_copies : {T : Type 0} → Held T → List (WebCopy T) → Held T
with_copies held copies = record held { copies = copies }

-- the store after a put
abbrev pub after_put : {T : Type 0} → Held T → WebCopy T → Held T
after_put held c = with_copies held (copies_after held c (put_answer held c))
