-- Reads made and octets left never grow together: a read that counts takes one octet or more.
use Rattle.std.proofs.Common.{◌≤◌, ◌+◌, ℕ, Option, Some, None, List, length, ap, arith, length-append}
use Rattle.std.specs.Io.KnownBytes.{Consumes, Keeps}
use Rattle.values_lines.specs.Reading.{IsCounted}

-- nothing was read
pub counted_same : (turns : ℕ) (before : Option (List ℕ)) → IsCounted turns before turns before
counted_same turns None = tt
counted_same turns (Some xs) = omega arith

-- a read failed and took nothing
pub counted_kept : (turns : ℕ) (before after : Option (List ℕ)) → Keeps before after → IsCounted turns before turns after
counted_kept turns None after kept = tt
counted_kept turns (Some xs) None kept = kept
counted_kept turns (Some xs) (Some ys) kept = omega (arith, ap length kept)

-- a piece was read, and no more reads were counted than it has octets
pub counted_read : (old new : ℕ) (before after : Option (List ℕ)) (piece : List ℕ) → Consumes before after piece → new ≤ old + length piece →
    IsCounted old before new after
counted_read old new None after piece read more = tt
counted_read old new (Some xs) None piece read more = read
counted_read old new (Some xs) (Some ys) piece read more = omega (arith, ap length read, length-append piece ys, more)

-- one part of a run after another
pub counted_then : (a b c : ℕ) (before middle after : Option (List ℕ)) → IsCounted a before b middle → IsCounted b middle c after → IsCounted a before c after
counted_then a b c None middle after first second = tt
counted_then a b c (Some xs) None after first second = absurd first
counted_then a b c (Some xs) (Some ys) None first second = second
counted_then a b c (Some xs) (Some ys) (Some zs) first second = omega (arith, first, second)
