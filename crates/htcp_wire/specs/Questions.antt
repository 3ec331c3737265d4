-- Which octets begin like a TST request, and which TRANS-ID they have, whatever follows; which contents are a TST
-- request (RFC 2756, "DATA" and "TST").
use Rattle.std.specs.Prelude.{ℕ, Bool, true, false, not, ◌&&◌, ◌==◌, nat_le, nat_lt, List, length, Option, Some, None, if◌then◌else◌}
use Rattle.htcp_wire.specs.declared.message.Content.{Content}
use Rattle.htcp_wire.specs.declared.message.Content.TheVariants.{TstAsk}
use Rattle.htcp_wire.specs.Grammar.{tst}
use Rattle.htcp_wire.specs.Reading.{data_field, trans_field}

-- a TST request
abbrev pub is_tst_ask : Content → Bool
is_tst_ask (TstAsk desired spec) = true
is_tst_ask _ = false

-- OPCODE and RR are there, in the first eight octets, OPCODE is that of TST, and RR is clear
abbrev pub begins_test : List ℕ → Bool
begins_test octets =
    nat_le 8 (length octets) && ((data_field octets).opcode == tst) && not (data_field octets).rr

-- RR is there, and set
abbrev pub begins_response : List ℕ → Bool
begins_response octets = nat_le 8 (length octets) && (data_field octets).rr

-- TRANS-ID, if it is there, whatever follows
abbrev pub trans_at : List ℕ → Option ℕ
trans_at octets = if nat_lt (length octets) 12 then None else Some (trans_field octets)
