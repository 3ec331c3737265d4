-- The messages that a node sends.
use Rattle.std.specs.Prelude.{ℕ, true, List, [], ◌∷◌, ◌++◌, codes, decimal, Option, Some, None}
use Rattle.icp_wire.specs.declared.message.IcpOp.{IcpOp}
use Rattle.icp_wire.specs.declared.message.IcpOp.TheVariants as op
use Rattle.htcp_wire.specs.declared.message.Content.{Content}
use Rattle.htcp_wire.specs.declared.message.Content.TheVariants as content
use Rattle.htcp_wire.specs.declared.message.Specifier.{Specifier}
use Rattle.values_plain.specs.declared.address.Address.{Address}
use Rattle.values_plain.specs.declared.address.Udp.{Udp}
use Rattle.values_plain.specs.declared.address.Udp.TheVariants as udp
use Rattle.node_rules.specs.declared.message.Message.{Message}
use Rattle.node_rules.specs.declared.message.Message.TheVariants as message
use Rattle.node_rules.specs.declared.message.Outgoing.{Outgoing}
use Rattle.node_rules.specs.Texts.{icp_message}

-- An ICP message of this opcode, request number and URL, without an object.
abbrev pub icp : IcpOp → ℕ → List ℕ → Message
icp op number url = message.Icp (icp_message op number url)

-- An HTCP/0.0 message of this TRANS-ID and content (RFC 2756).
abbrev pub htcp : ℕ → Content → Message
htcp trans content = message.Htcp record { minor = 0; trans = trans; content = content }

-- The protocol of a message.
abbrev pub protocol_of : Message → Udp
protocol_of (message.Icp m) = udp.Icp
protocol_of (message.Htcp m) = udp.Htcp

-- A message to an address.
abbrev pub to : Address → Message → Outgoing
to address message = record { to = address; message = message }

-- GET of a key, as a SPECIFIER with empty REQ-HDRS (RFC 2756, "SPECIFIER").
abbrev pub get : List ℕ → Specifier
get key = record { method = codes "GET"; uri = key; version = codes "HTTP/1.1"; request_headers = [] }

-- The query of a round, by the peer's protocol: a QUERY or a TST. The round's serial is the request
-- number or the TRANS-ID. [HTCP 5]
abbrev pub query : Udp → ℕ → List ℕ → Message
query udp.Icp serial key = icp op.Query serial key
query udp.Htcp serial key = htcp serial (content.TstAsk true (get key))

-- The line of CACHE-HDRS by which a TST response tells the purge stamp of a copy.
abbrev pub stamp_line : ℕ → List ℕ
stamp_line stamp = codes "X-Purge-Stamp: " ++ decimal stamp ++ 13 ∷ 10 ∷ []

-- An HTCP response to the message as a whole (RFC 2756, "RESPONSE" where MO is 1). Code 2: opcode
-- not implemented. Code 5: not allowed here.
abbrev pub overall : ℕ → ℕ → ℕ → Message
overall trans opcode code = htcp trans (content.Overall opcode code)

-- The TRANS-ID and the code of a response to a CLR, if the content is one.
abbrev pub clear_answer_in : ℕ → Content → Option (ℕ × ℕ)
clear_answer_in trans (content.ClrAnswer code) = Some (trans, code)
clear_answer_in trans _ = None

-- The same of a message.
abbrev pub clear_answer : Message → Option (ℕ × ℕ)
clear_answer (message.Icp m) = None
clear_answer (message.Htcp m) = clear_answer_in m.trans m.content
