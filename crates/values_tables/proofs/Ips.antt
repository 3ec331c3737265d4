-- The reading of an IPv4 address by std gives the address that `ip_of` defines, and none where it
-- defines none: std proves its reading right both ways.
use Rattle.std.proofs.Common.{◌≡◌, ℕ, List, [], ◌∷◌, Option, Some, None, refl, sym, ap, lit≤, append-nil}
use Rattle.std.specs.declared.net.ipv4_addr.Ipv4Addr.{Ipv4Addr}
use Rattle.std.specs.Net.Grammar.{IsIpv4Text, IsDotted}
use Rattle.std.specs.Net.Reader.{read_ipv4}
use Rattle.std.proofs.NetLemmas.Ipv4.{read_ipv4_sound, read_ipv4_complete}
use Rattle.values_tables.specs.Reading.{ip_value, ip_in, ip_of}

pub ip_of-dotted : (text octets : List ℕ) → IsDotted text octets → Some (ip_value octets) ≡ ip_of text
ip_of-dotted text octets h = sym (ap ip_in (rw append-nil at (read_ipv4_complete text octets [] h (lit≤ tt))))

none_in : (r : Option (List ℕ × List ℕ)) → ((octets : List ℕ) → r ≡ Some (octets, []) → ⊥) → None ≡ ip_in r
none_in None h = refl
none_in (Some (octets, [])) h = absurd (h octets refl)
none_in (Some (octets, x ∷ rest)) h = refl

pub ip_of-none : (text : List ℕ) → ((a : Ipv4Addr) → IsIpv4Text text a → ⊥) → None ≡ ip_of text
ip_of-none text h =
    none_in (read_ipv4 text) λ octets e.
    let (front, whole, dotted) = read_ipv4_sound text octets [] e in
    h (record { octets = octets }) (rw (whole, append-nil) dotted)
