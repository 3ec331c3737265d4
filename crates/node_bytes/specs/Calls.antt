-- What datagrams tell the master of purges.
use Rattle.std.specs.Prelude.{◌≡◌, ◌⊎◌, ℕ, List, Option, Some, None}
use Rattle.htcp_wire.specs.declared.message.Htcp.{Htcp}
use Rattle.htcp_wire.specs.declared.message.Content.{Content}
use Rattle.htcp_wire.specs.declared.message.Content.TheVariants as content
use Rattle.htcp_wire.specs.Grammar as htcp_grammar
use Rattle.values_plain.specs.declared.address.Address.{Address}
use Rattle.values_tables.specs.declared.plain.Tables.{Tables}
use Rattle.values_plain.specs.declared.address.Udp.TheVariants as udp
use Rattle.roster.specs.Lookups.{member_at}
use Rattle.purge_rules.specs.declared.calls.MasterCall.{MasterCall}
use Rattle.purge_rules.specs.declared.calls.MasterCall.TheVariants as call
use Rattle.node_bytes.specs.Bytes.{HasFault}

-- A response to a CLR acknowledges, or says that it does not (RFC 2756, "CLR"). No other message is
-- a call.
abbrev pub call_in : ℕ → ℕ → Content → Option MasterCall
call_in member trans (content.ClrAnswer code) = Some (call.Acknowledge member trans code)
call_in member trans _ = None

-- The call of octets that a member sent: that of the message that they spell, and none if they have
-- a fault.
abbrev pub IsCallOf : ℕ → List ℕ → Option MasterCall → Type 0
IsCallOf member octets called =
    ((m : Htcp) × htcp_grammar.Spells octets m × (called ≡ call_in member m.trans m.content))
    ⊎ (HasFault udp.Htcp octets × (called ≡ None))

-- The same, if a member sent them. A stranger makes no call.
abbrev pub IsCallBy : Option ℕ → List ℕ → Option MasterCall → Type 0
IsCallBy None octets called = called ≡ None
IsCallBy (Some member) octets called = IsCallOf member octets called

-- The call of octets that arrived from an address. A member is known by its HTCP address.
abbrev pub IsCallFrom : Tables → Address → List ℕ → Option MasterCall → Type 0
IsCallFrom roster from octets called = IsCallBy (member_at roster from udp.Htcp) octets called
