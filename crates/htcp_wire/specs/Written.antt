-- The octets that are written for a message, and which messages are written. MINOR, RESERVED and a
-- request's RESPONSE are 0, there are no spare octets, and AUTH is empty.
use Rattle.std.specs.Prelude.{◌≡◌, ℕ, ◌+◌, ◌<◌, ◌≤◌, Bool, true, false, List, [], ◌∷◌, ◌++◌, length}
use Rattle.values_plain.specs.Counted.{counted}
use Rattle.htcp_wire.specs.declared.message.Content.{Content}
use Rattle.htcp_wire.specs.declared.message.Content.TheVariants.{NopAsk, NopAnswer, TstAsk, TstHit, TstMiss, ClrAsk, ClrAnswer, Other, Overall, OtherAnswer}
use Rattle.htcp_wire.specs.declared.message.Htcp.{Htcp}
use Rattle.htcp_wire.specs.Grammar.{Data, nop, tst, clr, is_ask, specifier, detail, header, data_text, auth}

-- DATA of a request, with this OP-DATA
abbrev pub ask : ℕ → Bool → List ℕ → Data
ask opcode desired op_data = record { opcode = opcode; response = 0; f1 = desired; rr = false; op_data = op_data }

-- DATA of a response, with this OP-DATA
abbrev pub answer : ℕ → ℕ → Bool → List ℕ → Data
answer opcode code overall op_data =
    record { opcode = opcode; response = code; f1 = overall; rr = true; op_data = op_data }

-- the DATA that is written for a content
abbrev pub written_data : Content → Data
written_data (NopAsk desired) = ask nop desired []
written_data NopAnswer = answer nop 0 false []
written_data (TstAsk desired spec) = ask tst desired (specifier spec)
written_data (TstHit known) = answer tst 0 false (detail known)
written_data (TstMiss cache) = answer tst 1 false (counted cache)
written_data (ClrAsk desired reason spec) = ask clr desired (0 ∷ reason ∷ specifier spec)
written_data (ClrAnswer code) = answer clr code false []
written_data (Other opcode desired) = ask opcode desired []
written_data (Overall opcode code) = answer opcode code true []
written_data (OtherAnswer opcode code) = answer opcode code false []

-- a message with this TRANS-ID and this DATA
abbrev pub written_with : ℕ → Data → List ℕ
written_with trans section = header (14 + length section.op_data) 0 ++ (data_text 0 trans section ++ auth [])

-- the octets of a message of MINOR 0
abbrev pub written : Htcp → List ℕ
written message = written_with message.trans (written_data message.content)

-- the numbers that a content may have if it is written; an OtherAnswer is never written
abbrev pub InRange : Content → Type 0
InRange (ClrAsk desired reason spec) = reason < 16
InRange (ClrAnswer code) = code ≤ 2
InRange (Other opcode desired) = (opcode < 16) × (is_ask opcode ≡ false)
InRange (Overall opcode code) = (opcode < 16) × (code < 16)
InRange (OtherAnswer opcode code) = ⊥
InRange content = Unit {0}

-- the greatest length of a written message, in octets
abbrev pub longest_written : ℕ
longest_written = 16384

-- which messages are written: of MINOR 0, no OtherAnswer, with numbers in range, and not too long [HTCP 3]
pub record Fits (message : Htcp) : Type 0 where
  pub minor : message.minor ≡ 0
  pub in_range : InRange message.content
  pub short : length (written message) ≤ longest_written
