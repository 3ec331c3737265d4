-- How many octets an event brings along: those of the texts of a datagram, or of an answer.
use Rattle.std.specs.Prelude.{ℕ, ◌+◌, min, List, length}
use Rattle.http_messages.specs.Answer.{answer_size}
use Rattle.htcp_wire.specs.declared.message.Content.{Content}
use Rattle.htcp_wire.specs.declared.message.Content.TheVariants as content
use Rattle.htcp_wire.specs.declared.message.Detail.{Detail}
use Rattle.htcp_wire.specs.declared.message.Specifier.{Specifier}
use Rattle.node_rules.specs.declared.event.Event.{Event}
use Rattle.node_rules.specs.declared.event.Event.TheVariants as event
use Rattle.node_rules.specs.declared.message.Message.{Message}
use Rattle.node_rules.specs.declared.message.Message.TheVariants as message

-- the octets of a text of a message; none that was read has more than 65,535 (RFC 2756, "COUNTSTR")
abbrev pub text_octets : List ℕ → ℕ
text_octets text = min (length text) 65535

-- the octets of a SPECIFIER: method, URI, version and request headers (RFC 2756, "SPECIFIER")
abbrev pub specifier_octets : Specifier → ℕ
specifier_octets s = text_octets s.method + text_octets s.uri + text_octets s.version + text_octets s.request_headers

-- the octets of a DETAIL: response, entity and cache headers (RFC 2756, "DETAIL")
abbrev pub detail_octets : Detail → ℕ
detail_octets d = text_octets d.response_headers + text_octets d.entity_headers + text_octets d.cache_headers

-- the octets of the texts in what an HTCP message says
abbrev pub content_octets : Content → ℕ
content_octets (content.TstAsk desired spec) = specifier_octets spec
content_octets (content.TstHit detail) = detail_octets detail
content_octets (content.TstMiss cache) = text_octets cache
content_octets (content.ClrAsk desired reason spec) = specifier_octets spec
content_octets _ = 0

-- the octets of the texts in a datagram
abbrev pub message_octets : Message → ℕ
message_octets (message.Icp m) = text_octets m.url + text_octets m.object
message_octets (message.Htcp m) = content_octets m.content

-- the octets that an event brings along; 0 where it is neither a datagram nor an answer
abbrev pub octets_of : Event (Unit {0}) → ℕ
octets_of (event.Datagram from m now) = message_octets m
octets_of (event.PeerAnswer serial peer key answer tag now) = answer_size answer
octets_of (event.OriginAnswer serial key answer now) = answer_size answer
octets_of (event.ForeignAnswer serial peer key answer tag now) = answer_size answer
octets_of _ = 0
