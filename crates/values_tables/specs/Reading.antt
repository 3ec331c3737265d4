-- What the tables of a TOML document say of a roster: `tables_in` for a text, `tables_of` for a
-- document. [Roster 3] A value is None if a key is missing, unknown, of another type or out of its range.
use Rattle.std.specs.Prelude.{ℕ, ◌+◌, ◌*◌, pos, negsuc, ℤ, Bool, false, bytes_eq, List, [], ◌∷◌, slice_index, codes, Option, Some, None, option_and_then}
use Rattle.std.specs.Prelude.{option_map, if◌then◌else◌}
use Rattle.std.specs.Net.Reader.{read_ipv4}
use Rattle.toml.specs.Data.{Data, string, integer, boolean, array, table, Items, no_items, item, Members, get_member}
use Rattle.toml.specs.Parse.{parse_document}
use Rattle.values_tables.specs.declared.place.TableKind.{TableKind}
use Rattle.values_tables.specs.declared.place.TableKind.TheVariants as kind
use Rattle.values_plain.specs.declared.address.Address.{Address}
use Rattle.values_tables.specs.declared.plain.Limits.{Limits}
use Rattle.values_tables.specs.declared.plain.Role.{Role}
use Rattle.values_tables.specs.declared.plain.Role.TheVariants as role
use Rattle.values_plain.specs.declared.address.Udp.{Udp}
use Rattle.values_plain.specs.declared.address.Udp.TheVariants as udp
use Rattle.values_tables.specs.declared.plain.Peer.{Peer}
use Rattle.values_tables.specs.declared.plain.Cache.{Cache}
use Rattle.values_tables.specs.declared.plain.Member.{Member}
use Rattle.values_tables.specs.declared.plain.Origin.{Origin}
use Rattle.values_tables.specs.declared.plain.Tables.{Tables}
use Rattle.values_tables.specs.Keys.{keys_of, has_only}
use Rattle.values_tables.specs.Ranges.{is_between, is_name, is_host, is_peer_id, has_founding}

-- what is made of a value, where there is one
infixl 10 ◌>>=◌
abbrev ◌>>=◌ : {A B : Type 0} → Option A → (A → Option B) → Option B
o >>= f = option_and_then f o

-- the value, if it passes a test
abbrev pub checked : {A : Type 0} → (A → Bool) → A → Option A
checked test x = if test x then Some x else None

-- the number, unless it is negative
abbrev pub natural_of : ℤ → Option ℕ
natural_of (pos n) = Some n
natural_of (negsuc n) = None

-- the value, if it is a whole number that is not negative
abbrev pub natural_in : Option Data → Option ℕ
natural_in (Some (integer z)) = natural_of z
natural_in _ = None

-- the value, if it is a text
abbrev pub text_in : Option Data → Option (List ℕ)
text_in (Some (string text)) = Some text
text_in _ = None

-- the number at a key, in a range
abbrev pub number : ℕ → ℕ → List ℕ → Members → Option ℕ
number low high key ms = natural_in (get_member key ms) >>= checked (is_between low high)

-- what was given, where there is a value; else what is usual
abbrev pub given_or : ℕ → Option ℕ → Option Data → Option ℕ
given_or usual given None = Some usual
given_or usual given (Some d) = given

-- the number at a key, in a range; the usual one where there is no such key
abbrev pub number_or : ℕ → ℕ → ℕ → List ℕ → Members → Option ℕ
number_or low high usual key ms = given_or usual (number low high key ms) (get_member key ms)

-- the value, if it is true or false; false where there is no value
abbrev pub flag_in : Option Data → Option Bool
flag_in None = Some false
flag_in (Some (boolean b)) = Some b
flag_in (Some _) = None

-- the port at a key, 1 to 65535
abbrev pub port : List ℕ → Members → Option ℕ
port = number 1 65535

-- the text at a key, if it passes a test
abbrev pub text : (List ℕ → Bool) → List ℕ → Members → Option (List ℕ)
text test key ms = text_in (get_member key ms) >>= checked test

-- four octets as one number, the first octet highest
abbrev pub ip_value : List ℕ → ℕ
ip_value o = ((slice_index o 0 * 256 + slice_index o 1) * 256 + slice_index o 2) * 256 + slice_index o 3

-- the address that was read, if nothing follows it
abbrev pub ip_in : Option (List ℕ × List ℕ) → Option ℕ
ip_in (Some (octets, [])) = Some (ip_value octets)
ip_in (Some (octets, _ ∷ _)) = None
ip_in None = None

-- the IPv4 address of a text: four decimal numbers of 0 to 255 without leading zeros, with dots
-- between them (RFC 3986, section 3.2.2: IPv4address) [Roster 5]
abbrev pub ip_of : List ℕ → Option ℕ
ip_of text = ip_in (read_ipv4 text)

-- the address at the key `address`
abbrev pub ip : Members → Option ℕ
ip ms = text_in (get_member (codes "address") ms) >>= ip_of

-- the table of a value, if it has only the keys of its kind
abbrev pub table_in : TableKind → Option Data → Option Members
table_in k (Some (table ms)) = checked (has_only (keys_of k)) ms
table_in k _ = None

-- the role of this name, if it is one
abbrev pub role_of : List ℕ → Option Role
role_of word =
    if bytes_eq word (codes "sibling") then Some role.Sibling
    else if bytes_eq word (codes "parent") then Some role.Parent else None

-- the protocol of this name, if it is one
abbrev pub udp_of : List ℕ → Option Udp
udp_of word =
    if bytes_eq word (codes "icp") then Some udp.Icp
    else if bytes_eq word (codes "htcp") then Some udp.Htcp else None

-- the peer that a `[[node.peer]]` table says
abbrev pub peer_of : Data → Option Peer
peer_of d = do
  ms ← table_in kind.Peer (Some d)
  id ← number 1 108 (codes "id") ms >>= checked is_peer_id
  role ← text_in (get_member (codes "role") ms) >>= role_of
  by ← text_in (get_member (codes "by") ms) >>= udp_of
  Some (record { id = id; role = role; by = by })

-- the cache of a table, with an id in a range
abbrev pub cache_of : ℕ → ℕ → Members → Option Cache
cache_of low high ms = do
  id ← number low high (codes "id") ms
  address ← ip ms
  http ← port (codes "http") ms
  icp ← port (codes "icp") ms
  htcp ← port (codes "htcp") ms
  name ← text is_name (codes "name") ms
  Some (record {
    id = id;
    name = name;
    http = record { ip = address; port = http };
    icp = record { ip = address; port = icp };
    htcp = record { ip = address; port = htcp };
  })

-- what all items say, None if one of them says nothing
abbrev pub all_of : {A : Type 0} → (Data → Option A) → Items → Option (List A)
all_of f no_items = Some []
all_of f (item d ds) = do
  x ← f d
  xs ← all_of f ds
  Some (x ∷ xs)

-- what the tables at a key say: no tables if the key is missing
abbrev pub list_in : {A : Type 0} → (Data → Option A) → Option Data → Option (List A)
list_in f None = Some []
list_in f (Some (array ds)) = all_of f ds
list_in f (Some _) = None

-- the member that a `[[node]]` table says [Roster 6]
abbrev pub member_of : Data → Option Member
member_of d = do
  ms ← table_in kind.Node (Some d)
  cache ← cache_of 1 16 ms
  joins ← flag_in (get_member (codes "joins") ms)
  peers ← list_in peer_of (get_member (codes "peer") ms)
  Some (record { cache = cache; joins = joins; peers = peers })

-- the cache that a `[[foreign]]` table says
abbrev pub foreign_of : Data → Option Cache
foreign_of d = table_in kind.Foreign (Some d) >>= cache_of 101 108

-- the origin that an `[[origin]]` table says
abbrev pub origin_of : Data → Option Origin
origin_of d = do
  ms ← table_in kind.Origin (Some d)
  port_named ← port (codes "port") ms
  address ← ip ms
  connect ← port (codes "connect") ms
  host ← text is_host (codes "host") ms
  Some (record { host = host; port = port_named; connect = record { ip = address; port = connect } })

-- the address of the master over UDP, which the `[master]` table says
abbrev pub master_of : Option Data → Option Address
master_of d = do
  ms ← table_in kind.Master d
  address ← ip ms
  htcp ← port (codes "htcp") ms
  Some (record { ip = address; port = htcp })

-- the limits, which the keys at the top say [Roster 6]
abbrev pub limits_of : Members → Option Limits
limits_of ms = do
  default_lifetime ← number 0 2147483648 (codes "default_lifetime") ms
  copies ← number 1 65536 (codes "copies") ms
  bytes ← number 1 1073741824 (codes "bytes") ms
  query_wait ← number 1 60000 (codes "query_wait") ms
  answer_wait ← number_or 1 60000 5000 (codes "answer_wait") ms
  fetch_wait ← number_or 1 60000 5000 (codes "fetch_wait") ms
  ask_wait ← number_or 1 600000 15000 (codes "ask_wait") ms
  fetches_per_address ← number_or 1 1024 64 (codes "fetches_per_address") ms
  clients_per_address ← number_or 1 1024 128 (codes "clients_per_address") ms
  Some (record {
    default_lifetime = default_lifetime;
    copies = copies;
    bytes = bytes;
    query_wait = query_wait;
    answer_wait = answer_wait;
    fetch_wait = fetch_wait;
    ask_wait = ask_wait;
    fetches_per_address = fetches_per_address;
    clients_per_address = clients_per_address;
  })

-- the members, at least one of them founding
abbrev pub members_of : Members → Option (List Member)
members_of ms = list_in member_of (get_member (codes "node") ms) >>= checked has_founding

-- what a document says, None if a field is bad [Roster 4]
abbrev pub tables_of : Members → Option Tables
tables_of ms = do
  top ← checked (has_only (keys_of kind.Top)) ms
  limits ← limits_of top
  master ← master_of (get_member (codes "master") top)
  members ← members_of top
  foreign ← list_in foreign_of (get_member (codes "foreign") top)
  origins ← list_in origin_of (get_member (codes "origin") top)
  Some (record { limits = limits; master = master; members = members; foreign = foreign; origins = origins })

-- what a text says: None if it is no TOML document, None inside if a field is bad
abbrev pub tables_in : List ℕ → Option (Option Tables)
tables_in text = option_map tables_of (parse_document text)
