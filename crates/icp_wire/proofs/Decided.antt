-- Octets spell one message or have a fault, and `decode` says which: the message is what is at the
-- offsets, and two messages at the same offsets are one.
use Rattle.std.proofs.Common.{◌≡◌, ℕ, Bool, true, false, cond, List, Option, Some, None, Result, Ok, Err, refl, sym, ap, ◌∙◌, inl, inr}
use Rattle.std.specs.Prelude.{◌⊎◌, ◌≢◌, IfOk, IfErr, MatchResult}
use Rattle.values_plain.specs.Fields.{IsOctets}
use Rattle.values_plain.specs.Counted.{split_counted}
use Rattle.icp_wire.specs.declared.message.Icp.{Icp}
use Rattle.icp_wire.specs.declared.message.IcpOp.{IcpOp}
use Rattle.icp_wire.specs.declared.message.IcpOp.TheVariants.{Query, Hit, Miss, Error, MissNoFetch, Denied, HitObj}
use Rattle.icp_wire.specs.declared.fault.IcpFault.{IcpFault}
use Rattle.icp_wire.specs.declared.fault.IcpFault.TheVariants.{Short, TooLong, BadVersion, BadLength, NoZero, Trailing, BadObject, NoMemory}
use Rattle.icp_wire.specs.Grammar.{Spells}
use Rattle.icp_wire.specs.Faults.{object_fault, rest_fault, payload_fault, opcode_fault, first_fault}
use Rattle.icp_wire.specs.Reading.{number_field, payload_field, op_of, opcode_field, url_in, object_in, Holds}
use Rattle.icp_wire.specs.Laws.{IsDecided}
use Rattle.icp_wire.proofs.Readings.{passes, spells_of, read_of}

-- ---- one message

abbrev made : IcpOp → ℕ → List ℕ → List ℕ → Icp
made op number url object = record { op = op; number = number; url = url; object = object }

-- two messages that stand at the offsets of the same octets
pub same_message : (octets : List ℕ) (m n : Icp) → Holds octets m → Holds octets n → m ≡ n
same_message octets m n a b =
    let op : m.op ≡ n.op = cc in
    let number : m.number ≡ n.number = a.number ∙ sym b.number in
    let url : m.url ≡ n.url = a.url ∙ ap (λ (o : IcpOp). url_in o (payload_field octets)) op ∙ sym b.url in
    let object : m.object ≡ n.object = a.object ∙ ap (λ (o : IcpOp). object_in o (payload_field octets)) op ∙ sym b.object in
    ap (λ (o : IcpOp). made o m.number m.url m.object) op
    ∙ ap (λ (k : ℕ). made n.op k m.url m.object) number
    ∙ ap (λ (u : List ℕ). made n.op n.number u m.object) url
    ∙ ap (λ (o : List ℕ). made n.op n.number n.url o) object

read_opcode : (op : Option IcpOp) (payload : List ℕ) → opcode_fault op payload ≡ None → (o : IcpOp) × (op ≡ Some o)
read_opcode (Some op) payload e = (op, refl)
read_opcode None payload e = absurd cc

held : (octets : List ℕ) → first_fault octets ≡ None → (message : Icp) × Holds octets message
held octets e =
    let op = read_opcode (op_of (opcode_field octets)) (payload_field octets) (passes octets e).others in
    let payload = payload_field octets in
    (made op.0 (number_field octets) (url_in op.0 payload) (object_in op.0 payload), record { op = op.1; number = refl; url = refl; object = refl })

decided_by : (octets : List ℕ) (first : Option IcpFault) → IsOctets octets → first_fault octets ≡ first → IsDecided octets
decided_by octets None fits e =
    let message = held octets e in
    inl (
      message.0,
      record {
        spelled = spells_of octets message.0 fits e message.1;
        alone = λ other spelled. same_message octets other message.0 (read_of octets other spelled).holds message.1;
        no_fault = e;
      },
    )
decided_by octets (Some fault) fits e =
    inr (fault, record { first = e; none = λ message spelled. let no_fault = (read_of octets message spelled).no_fault in absurd cc })

pub decided : (octets : List ℕ) → IsOctets octets → IsDecided octets
decided octets fits = decided_by octets (first_fault octets) fits refl

-- ---- want of memory is no fault of the octets

apart : (failed : Bool) (fault : IcpFault) (others : Option IcpFault) → fault ≢ NoMemory → others ≢ Some NoMemory →
    cond failed (Some fault) others ≢ Some NoMemory
apart true fault others other later e = other cc
apart false fault others other later e = later e

unless : (holds : Bool) (fault : IcpFault) → fault ≢ NoMemory → cond holds None (Some fault) ≢ Some NoMemory
unless true fault other e = absurd cc
unless false fault other e = other cc

object_apart : (cut : Option (List ℕ × List ℕ)) → object_fault cut ≢ Some NoMemory
object_apart None e = absurd cc
object_apart (Some parts) e = unless _ BadObject (λ same. absurd cc) e

rest_apart : (op : IcpOp) (rest : List ℕ) → rest_fault op rest ≢ Some NoMemory
rest_apart HitObj rest e = object_apart (split_counted rest) e
rest_apart Query rest e = unless _ Trailing (λ same. absurd cc) e
rest_apart Hit rest e = unless _ Trailing (λ same. absurd cc) e
rest_apart Miss rest e = unless _ Trailing (λ same. absurd cc) e
rest_apart Error rest e = unless _ Trailing (λ same. absurd cc) e
rest_apart MissNoFetch rest e = unless _ Trailing (λ same. absurd cc) e
rest_apart Denied rest e = unless _ Trailing (λ same. absurd cc) e

payload_apart : (op : IcpOp) (payload : List ℕ) → payload_fault op payload ≢ Some NoMemory
unfolding payload_fault
payload_apart op payload e = apart _ NoZero _ (λ same. absurd cc) (rest_apart op _) e

opcode_apart : (op : Option IcpOp) (payload : List ℕ) → opcode_fault op payload ≢ Some NoMemory
opcode_apart None payload e = absurd cc
opcode_apart (Some op) payload e = payload_apart op payload e

first_apart : (octets : List ℕ) → first_fault octets ≢ Some NoMemory
unfolding first_fault
first_apart octets e =
    apart _ Short _ (λ same. absurd cc)
    (apart _ TooLong _ (λ same. absurd cc)
    (apart _ BadVersion _ (λ same. absurd cc)
    (apart _ BadLength _ (λ same. absurd cc) (opcode_apart (op_of (opcode_field octets)) (payload_field octets))))) e

-- ---- the clauses of `decode`

abbrev pub IsOkReading : List ℕ → Icp → Type 0
IsOkReading octets message = (first_fault octets ≡ None) × Holds octets message

abbrev pub IsErrReading : List ℕ → IcpFault → Type 0
IsErrReading octets fault = (first_fault octets ≡ Some fault) ⊎ ((first_fault octets ≡ None) × (fault ≡ NoMemory))

pub ok_is_spelled : (octets : List ℕ) (result : Result Icp IcpFault) → IsOctets octets → IfOk result (IsOkReading octets) →
    IfOk result (λ message. Spells octets message)
ok_is_spelled octets (Ok message) fits ok = spells_of octets message fits ok.0 ok.1
ok_is_spelled octets (Err fault) fits ok = tt

pub spelled_is_ok : (octets : List ℕ) (result : Result Icp IcpFault) → IfOk result (IsOkReading octets) → IfErr result (IsErrReading octets)
    → (message : Icp) → Spells octets message → MatchResult result (λ found. found ≡ message) (λ fault. fault ≡ NoMemory)
spelled_is_ok octets (Ok found) ok err message spelled = same_message octets found message ok.1 (read_of octets message spelled).holds
spelled_is_ok octets (Err fault) ok err message spelled =
    let no_fault = (read_of octets message spelled).no_fault in
    elim err [ inl first ↦ absurd cc | inr memory ↦ memory.1 ]

pub memory_is_last : (octets : List ℕ) (result : Result Icp IcpFault) → IfErr result (IsErrReading octets) → result ≡ Err NoMemory → first_fault octets ≡ None
memory_is_last octets (Ok message) err e = absurd cc
memory_is_last octets (Err fault) err e =
    elim err [ inl first ↦ absurd (first_apart octets cc) | inr memory ↦ memory.0 ]
