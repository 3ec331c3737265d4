-- Whom a fetch asks, and where.
use Rattle.std.specs.Prelude.{ℕ, ◌==◌, find, option_map, Option, Some, None}
use Rattle.http_messages.specs.declared.ask.Ask.{Ask}
use Rattle.url_key.specs.Text.{key_host, key_port}
use Rattle.node_rules.specs.declared.reply.Begin.{Begin}
use Rattle.node_rules.specs.declared.reply.Begin.TheVariants as begin
use Rattle.values_plain.specs.declared.address.Address.{Address}
use Rattle.values_tables.specs.declared.plain.Cache.{Cache}
use Rattle.values_tables.specs.declared.plain.Member.{Member as MemberEntry}
use Rattle.values_tables.specs.declared.plain.Tables.{Tables}
use Rattle.roster.specs.Lookups.{member_of, origin_at}
use Rattle.cluster_fetch.specs.declared.events.ResponseSource.{ResponseSource}
use Rattle.cluster_fetch.specs.declared.events.ResponseSource.TheVariants.{Member, Foreign, Origin}
use Rattle.cluster_fetch.specs.declared.under_way.FetchRequest.{FetchRequest}

-- a peer is a member or a foreign cache, and serves HTTP at its own address
abbrev pub source_by : ℕ → Option MemberEntry → Option Cache → Option (ResponseSource × Address)
source_by id (Some member) foreign = Some (Member id, member.cache.http)
source_by id None (Some cache) = Some (Foreign id, cache.http)
source_by id None None = None

-- what the peer with this id is, and where it serves HTTP
abbrev pub peer_source : Tables → ℕ → Option (ResponseSource × Address)
peer_source roster id = source_by id (member_of roster id) (find (λ (c : Cache). c.id == id) roster.foreign)

-- a fetch from this source at this address
abbrev pub fetch_at : ResponseSource × Address → ℕ → Ask → FetchRequest
fetch_at from serial ask = record { source = from.0; serial = serial; at = from.1; ask = ask }

-- the fetch that begins: from the peer that it names, or from the origin of the key; none begins with a round, nor
-- where the roster has no such peer or origin
abbrev pub fetch_for : Tables → Begin → Option FetchRequest
fetch_for roster (begin.Round serial) = None
fetch_for roster (begin.Peer serial peer ask) = option_map (λ from. fetch_at from serial ask) (peer_source roster peer)
fetch_for roster (begin.Read serial ask) =
    option_map (λ at. fetch_at (Origin, at) serial ask) (origin_at roster (key_host ask.key) (key_port ask.key))
