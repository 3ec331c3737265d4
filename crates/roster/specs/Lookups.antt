-- What each look-up in a roster gives.
use Rattle.std.specs.Prelude.{◌≡◌, ℕ, Bool, false, ◌&&◌, ◌||◌, ◌==◌, bytes_eq, List, [], option_map, is_some, Option, Some, None}
use Rattle.std.specs.List.{list_any, find}
use Rattle.values_plain.specs.declared.address.Address.{Address}
use Rattle.values_plain.specs.declared.address.Udp.{Udp}
use Rattle.values_plain.specs.declared.address.Udp.TheVariants as udp
use Rattle.values_tables.specs.declared.plain.Peer.{Peer}
use Rattle.values_tables.specs.declared.plain.Cache.{Cache}
use Rattle.values_tables.specs.declared.plain.Member.{Member}
use Rattle.values_tables.specs.declared.plain.Origin.{Origin}
use Rattle.values_tables.specs.declared.plain.Tables.{Tables}
use Rattle.values_tables.specs.Ranges.{is_founding as is_founding_member}
use Rattle.values_tables.specs.Roles.{is_sibling, is_parent}

-- the same IPv4 address and the same port
abbrev pub same_address : Address → Address → Bool
same_address a b = (a.ip == b.ip) && (a.port == b.port)

-- the member with this id
abbrev pub member_of : Tables → ℕ → Option Member
member_of t id = find (λ m. m.cache.id == id) t.members

-- a member has this id
abbrev pub is_member : Tables → ℕ → Bool
is_member t id = is_some (member_of t id)

-- the entry is of a founding member; false if there is no entry
abbrev pub is_founding_in : Option Member → Bool
is_founding_in None = false
is_founding_in (Some m) = is_founding_member m

-- the member with this id is founding
abbrev pub is_founding : Tables → ℕ → Bool
is_founding t id = is_founding_in (member_of t id)

-- the peers of an entry; none if there is no entry
abbrev pub peers_in : Option Member → List Peer
peers_in None = []
peers_in (Some m) = m.peers

-- the peers of the member with this id
abbrev pub peers_of : Tables → ℕ → List Peer
peers_of t id = peers_in (member_of t id)

-- the entry of one member names a cache as a sibling (RFC 2187, section 2)
abbrev pub names_sibling : Tables → ℕ → ℕ → Bool
names_sibling t of whom = list_any (λ p. (p.id == whom) && is_sibling p.role) (peers_of t of)

-- the entry of one member names a cache as a parent (RFC 2187, section 2)
abbrev pub names_parent : Tables → ℕ → ℕ → Bool
names_parent t of whom = list_any (λ p. (p.id == whom) && is_parent p.role) (peers_of t of)

-- the address of a cache for a protocol
abbrev pub address_by : Udp → Cache → Address
address_by udp.Icp c = c.icp
address_by udp.Htcp c = c.htcp

-- the id of the member that has this address for this protocol
abbrev pub member_at : Tables → Address → Udp → Option ℕ
member_at t address by = option_map (λ m. m.cache.id)
    (find (λ m. same_address address (address_by by m.cache)) t.members)

-- the address is the master's
abbrev pub is_master : Tables → Address → Bool
is_master t from = same_address from t.master

-- the ICP or HTCP address of a member, or the master's address
abbrev pub is_own : Tables → Address → Bool
is_own t address = is_master t address ||
    (is_some (member_at t address udp.Icp) || is_some (member_at t address udp.Htcp))

-- this is the origin of this host and port
abbrev pub is_origin_of : List ℕ → ℕ → Origin → Bool
is_origin_of host port o = bytes_eq o.host host && (o.port == port)

-- the address to connect to for the origin of this host and port
abbrev pub origin_at : Tables → List ℕ → ℕ → Option Address
origin_at t host port = option_map (λ o. o.connect) (find (is_origin_of host port) t.origins)

-- each member is found by its own HTCP address, and none has the master's address; this follows
-- since no address is double, and callers use it
pub record HasOwnAddresses (t : Tables) : Type 0 where
  pub found : (id : ℕ) (m : Member) → member_of t id ≡ Some m → member_at t m.cache.htcp udp.Htcp ≡ Some id
  pub apart : (id : ℕ) (m : Member) (by : Udp) → member_of t id ≡ Some m → is_master t (address_by by m.cache) ≡ false
