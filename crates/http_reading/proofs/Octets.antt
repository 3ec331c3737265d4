-- The octets of a text may stand where they do: the first one, and those behind it.
use Rattle.std.proofs.Common.{◌≡◌, ℕ, ◌&&◌, true, List, [], ◌∷◌, refl}
use Rattle.http_reading.specs.Uri.{may_stand, is_written}

-- the first octet, and the others
pub next_octet : (others behind : List ℕ) (octet : ℕ) → is_written others (octet ∷ behind) ≡ (may_stand others octet behind && is_written others behind)
unfolding is_written
next_octet others behind octet = refl

-- no octets
pub no_octet : (others : List ℕ) → is_written others [] ≡ true
unfolding is_written
no_octet others = refl
