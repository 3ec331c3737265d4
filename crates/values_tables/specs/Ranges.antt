-- The ranges of the values in the tables of a roster. `are_tables` is the whole.
use Rattle.std.specs.Prelude.{ℕ, Bool, not, ◌&&◌, ◌||◌, ◌==◌, nat_le, List, length, filter}
use Rattle.std.specs.List.{list_all}
use Rattle.std.specs.Char.{is_ascii_digit, is_ascii_lowercase}
use Rattle.values_tables.specs.declared.plain.Limits.{Limits}
use Rattle.values_tables.specs.declared.plain.Peer.{Peer}
use Rattle.values_tables.specs.declared.plain.Cache.{Cache}
use Rattle.values_tables.specs.declared.plain.Member.{Member}
use Rattle.values_tables.specs.declared.plain.Origin.{Origin}
use Rattle.values_tables.specs.declared.plain.Tables.{Tables}

-- from the first to the second
abbrev pub is_between : ℕ → ℕ → ℕ → Bool
is_between low high n = nat_le low n && nat_le n high

-- a port: 1 to 65535
abbrev pub is_port : ℕ → Bool
is_port = is_between 1 65535

-- a lower-case letter or a digit
abbrev pub is_name_letter : ℕ → Bool
is_name_letter b = is_ascii_lowercase b || is_ascii_digit b

-- a name: 1 to 32 of these
abbrev pub is_name : List ℕ → Bool
is_name text = is_between 1 32 (length text) && list_all is_name_letter text

-- a lower-case letter, a digit, `.` or `-`
abbrev pub is_host_letter : ℕ → Bool
is_host_letter b = is_name_letter b || ((b == 46) || (b == 45))

-- a host: 1 to 255 of these
abbrev pub is_host : List ℕ → Bool
is_host text = is_between 1 255 (length text) && list_all is_host_letter text

-- the id of a member: 1 to 16
abbrev pub is_member_id : ℕ → Bool
is_member_id = is_between 1 16

-- the id of a foreign cache: 101 to 108
abbrev pub is_foreign_id : ℕ → Bool
is_foreign_id = is_between 101 108

-- a name, and three ports at one IPv4 address
abbrev pub is_cache : Cache → Bool
is_cache c = is_name c.name && (is_port c.http.port && is_port c.icp.port && is_port c.htcp.port)
    && ((c.icp.ip == c.http.ip) && (c.htcp.ip == c.http.ip))

-- a foreign cache: one with the id of one
abbrev pub is_foreign : Cache → Bool
is_foreign c = is_foreign_id c.id && is_cache c

-- the id of a cache that a member may ask: 1 to 16 or 101 to 108
abbrev pub is_peer_id : ℕ → Bool
is_peer_id id = is_member_id id || is_foreign_id id

-- a peer of a member
abbrev pub is_peer : Peer → Bool
is_peer p = is_peer_id p.id

-- a member and its peers
abbrev pub is_member : Member → Bool
is_member m = is_member_id m.cache.id && is_cache m.cache && list_all is_peer m.peers

-- the member is founding: it does not join
abbrev pub is_founding : Member → Bool
is_founding m = not m.joins

-- at least one of the members is founding
abbrev pub has_founding : List Member → Bool
has_founding members = nat_le 1 (length (filter is_founding members))

-- an origin: host, the port that URLs name, and the port to connect to
abbrev pub is_origin : Origin → Bool
is_origin o = is_host o.host && is_port o.port && is_port o.connect.port

-- the limits: a default lifetime of at most 2147483648 seconds, 1 to 65,536 copies, 1 to
-- 1,073,741,824 octets; 1 to 60,000 milliseconds for the replies of peers, for a response and for a
-- fetch, and 1 to 600,000 for a request; 1 to 1,024 connections to an address and from one
abbrev pub are_limits : Limits → Bool
are_limits l = nat_le l.default_lifetime 2147483648 && is_between 1 65536 l.copies
    && is_between 1 1073741824 l.bytes && is_between 1 60000 l.query_wait
    && is_between 1 60000 l.answer_wait && is_between 1 60000 l.fetch_wait && is_between 1 600000 l.ask_wait
    && is_between 1 1024 l.fetches_per_address && is_between 1 1024 l.clients_per_address

-- everything is in its range, and at least one member is founding
abbrev pub are_tables : Tables → Bool
are_tables t = are_limits t.limits && is_port t.master.port && has_founding t.members
    && list_all is_member t.members && list_all is_foreign t.foreign && list_all is_origin t.origins
