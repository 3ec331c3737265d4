-- The loop of `trim_end` removes one blank at a time: the blanks at the end of what it keeps are
-- those not yet removed.
use Rattle.std.proofs.Common.{◌≡◌, ℕ, ◌+◌, ◌≤◌, List, length, take}
use Rattle.std.specs.List.{suffix_len}
use Rattle.http_lists.specs.Blanks.{is_blank}

-- the first `end` octets are kept, and only blanks were removed
pub record KeepsEnd (text : List ℕ) (end : ℕ) : Type 0 where
  pub within : end ≤ length text
  pub same : end + suffix_len is_blank text ≡ length text + suffix_len is_blank (take end text)
