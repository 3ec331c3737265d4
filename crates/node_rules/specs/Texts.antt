-- Messages that can be encoded, and messages that can be answered.
use Rattle.std.specs.Prelude.{ℕ, ◌<◌, List, []}
use Rattle.icp_wire.specs.declared.message.Icp.{Icp}
use Rattle.icp_wire.specs.declared.message.IcpOp.{IcpOp}
use Rattle.icp_wire.specs.declared.message.IcpOp.TheVariants.{Miss}
use Rattle.icp_wire.specs.Written as icp_text
use Rattle.htcp_wire.specs.declared.message.Content.{Content}
use Rattle.htcp_wire.specs.declared.message.Content.TheVariants as content
use Rattle.htcp_wire.specs.Written as htcp_text
use Rattle.node_rules.specs.declared.message.Message.{Message}
use Rattle.node_rules.specs.declared.message.Message.TheVariants as message

-- An ICP message without an object (RFC 2186).
abbrev pub icp_message : IcpOp → ℕ → List ℕ → Icp
icp_message op number url = record { op = op; number = number; url = url; object = [] }

-- A message that can be encoded.
abbrev pub IsSendable : Message → Type 0
IsSendable (message.Icp m) = icp_text.Fits m
IsSendable (message.Htcp m) = htcp_text.Fits m

-- An opcode that a response can repeat has four bits. NOP, TST and CLR do; any other request is
-- tested.
abbrev pub HasOpcode : Content → Type 0
HasOpcode (content.Other opcode desired) = opcode < 16
HasOpcode _ = Unit {0}

-- A message whose response can be encoded. An ICP response repeats number and URL, an HTCP response
-- at most the opcode.
abbrev pub IsAnswerable : Message → Type 0
IsAnswerable (message.Icp m) = icp_text.Fits (icp_message Miss m.number m.url)
IsAnswerable (message.Htcp m) = HasOpcode m.content
