-- Which tables are a roster (`IsRoster`), and each fault that tables may have.
use Rattle.std.specs.Prelude.{◌≡◌, ℕ, Bool, true, false, not, ◌&&◌, ◌||◌, ◌==◌, nat_lt, bytes_eq, List, [], ◌∷◌, ◌++◌, map, length}
use Rattle.std.specs.List.{list_any}
use Rattle.values_tables.specs.Ranges.{are_tables}
use Rattle.values_plain.specs.declared.address.Address.{Address}
use Rattle.values_tables.specs.declared.plain.Peer.{Peer}
use Rattle.values_tables.specs.declared.plain.Cache.{Cache}
use Rattle.values_tables.specs.declared.plain.Member.{Member}
use Rattle.values_tables.specs.declared.plain.Origin.{Origin}
use Rattle.values_tables.specs.declared.plain.Tables.{Tables}
use Rattle.roster.specs.Lookups.{same_address, names_parent, HasOwnAddresses}

-- two items of the list are the same
abbrev pub has_doubles : {A : Type 0} → (A → A → Bool) → List A → Bool
has_doubles same [] = false
has_doubles same (x ∷ xs) = list_any (same x) xs || has_doubles same xs

-- all caches: first the members, then the foreign ones
abbrev pub caches_of : Tables → List Cache
caches_of t = map (λ m. m.cache) t.members ++ t.foreign

-- more than 16 members, 8 foreign caches, 23 peers of a member or 256 origins
abbrev pub has_too_many : Tables → Bool
has_too_many t = nat_lt 16 (length t.members) || (nat_lt 8 (length t.foreign)
    || (list_any (λ m. nat_lt 23 (length m.peers)) t.members || nat_lt 256 (length t.origins)))

-- two caches with one id, one name or one HTTP address
abbrev pub clashes : Cache → Cache → Bool
clashes a b = (a.id == b.id) || (bytes_eq a.name b.name || same_address a.http b.http)

-- the UDP addresses of caches
abbrev pub udp_of : List Cache → List Address
udp_of [] = []
udp_of (c ∷ cs) = c.icp ∷ c.htcp ∷ udp_of cs

-- the UDP addresses of the master and of all caches
abbrev pub udp_addresses : Tables → List Address
udp_addresses t = t.master ∷ udp_of (caches_of t)

-- two origins of one host and port
abbrev pub same_origin : Origin → Origin → Bool
same_origin a b = bytes_eq a.host b.host && (a.port == b.port)

-- two equal ids, names, UDP addresses, HTTP addresses of caches, or origins of one host and port
abbrev pub has_double_address : Tables → Bool
has_double_address t =
    has_doubles clashes (caches_of t)
    || (has_doubles same_address (udp_addresses t) || has_doubles same_origin t.origins)

-- the peer is the member itself, or no cache has its id
abbrev pub is_unknown : List Cache → Member → Peer → Bool
is_unknown caches m p = (p.id == m.cache.id) || not (list_any (λ c. c.id == p.id) caches)

-- two peers of one id
abbrev pub same_peer : Peer → Peer → Bool
same_peer p q = p.id == q.id

-- the member names an unknown peer, or one peer twice
abbrev pub names_unknown : List Cache → Member → Bool
names_unknown caches m = list_any (is_unknown caches m) m.peers || has_doubles same_peer m.peers

-- some member does so
abbrev pub has_unknown_peer : Tables → Bool
has_unknown_peer t = list_any (names_unknown (caches_of t)) t.members

-- going from a member to one of its parents, and on, leads from one id to another
pub data Ascends (t : Tables) : ℕ → ℕ → Type 0 where
  parent : {a b : ℕ} → names_parent t a b ≡ true → Ascends t a b
  further : {a b c : ℕ} → names_parent t a b ≡ true → Ascends t b c → Ascends t a c

-- the members' parents form a cycle
abbrev pub HasParentLoop : Tables → Type 0
HasParentLoop t = (id : ℕ) × Ascends t id id

-- the tables have none of the faults
pub record FitTogether (t : Tables) : Type 0 where
  pub few : has_too_many t ≡ false
  pub apart : has_double_address t ≡ false
  pub known : has_unknown_peer t ≡ false
  pub no_loop : ¬ (HasParentLoop t)

-- what holds of every roster: ranges, no fault, and members that are found by their addresses [Roster 1]
pub record IsRoster (t : Tables) : Type 0 where
  pub ranges : are_tables t ≡ true
  pub fit : FitTogether t
  pub own : HasOwnAddresses t
