-- What a list of octets is.
use Rattle.std.specs.Prelude.{ℕ, ◌<◌, List, slice_index}

-- each item is an octet, below 256 (an index past the end reads as 0)
abbrev pub IsOctets : List ℕ → Type 0
IsOctets octets = (i : ℕ) → slice_index octets i < 256
