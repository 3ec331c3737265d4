-- What a response to CLR says of a purge.
use Rattle.std.specs.Prelude.{ℕ, Bool, ◌||◌, ◌==◌}
use Rattle.htcp_wire.specs.Grammar.{was_dropped, was_not_held}

-- codes 0 (it was held and is gone) and 2 (it was not held) acknowledge a purge; 1 (it stays) does
-- not (RFC 2756, section 6.5)
abbrev pub is_acknowledging : ℕ → Bool
is_acknowledging code = (code == was_dropped) || (code == was_not_held)
