-- Who a node knows: caches by their ids, senders by their addresses, origins by their keys.
use Rattle.std.specs.Prelude.{ℕ, Bool, true, false, not, ◌&&◌, ◌||◌, ◌==◌, List, find, is_some, Option, Some, None, option_map, if◌then◌else◌}
use Rattle.std.specs.List.{list_any}
use Rattle.url_key.specs.Text.{key_host, key_port}
use Rattle.values_tables.specs.Ranges.{is_foreign_id}
use Rattle.values_plain.specs.declared.address.Address.{Address}
use Rattle.values_plain.specs.declared.address.Udp.{Udp}
use Rattle.values_plain.specs.declared.address.Udp.TheVariants as udp
use Rattle.values_tables.specs.declared.plain.Peer.{Peer}
use Rattle.values_tables.specs.declared.plain.Cache.{Cache}
use Rattle.values_tables.specs.declared.plain.Tables.{Tables}
use Rattle.roster.specs.Lookups.{same_address, member_of, peers_of, address_by, origin_at}

-- The two protocols are one.
abbrev pub same_udp : Udp → Udp → Bool
same_udp udp.Icp udp.Icp = true
same_udp udp.Icp udp.Htcp = false
same_udp udp.Htcp udp.Icp = false
same_udp udp.Htcp udp.Htcp = true

-- The cache of an id: a member or a foreign cache.
abbrev pub cache_of : Tables → ℕ → Option Cache
cache_of t id = if is_foreign_id id then find (λ c. c.id == id) t.foreign
    else option_map (λ m. m.cache) (member_of t id)

-- The cache is there, and answers this protocol at this address.
abbrev pub is_address_of : Udp → Address → Option Cache → Bool
is_address_of by from None = false
is_address_of by from (Some c) = same_address from (address_by by c)

-- The peer is queried by this protocol, at this address.
abbrev pub is_peer_at : Tables → Udp → Address → Peer → Bool
is_peer_at t by from p = same_udp p.by by && is_address_of by from (cache_of t p.id)

-- The entry of the first member names the second cache as a peer.
abbrev pub names : Tables → ℕ → ℕ → Bool
names t of whom = list_any (λ p. p.id == whom) (peers_of t of)

-- Another member answers this protocol at this address.
abbrev pub is_other_member : Tables → ℕ → Udp → Address → Bool
is_other_member t id by from = list_any (λ m. not (m.cache.id == id) && same_address from (address_by by m.cache))
    t.members

-- A foreign cache that the node's entry names answers this protocol at this address.
abbrev pub is_foreign_peer : Tables → ℕ → Udp → Address → Bool
is_foreign_peer t id by from = list_any (λ c. names t id c.id && same_address from (address_by by c)) t.foreign

-- A node knows an address where another member answers this protocol, or a foreign cache that its
-- entry names. [Node 6]
abbrev pub is_known : Tables → ℕ → Udp → Address → Bool
is_known t id by from = is_other_member t id by from || is_foreign_peer t id by from

-- The roster has the origin of a key's host and port.
abbrev pub has_origin : Tables → List ℕ → Bool
has_origin t key = is_some (origin_at t (key_host key) (key_port key))
