-- Octets spell one message or have a fault, and `decode` says which: the message is what is at the
-- offsets, and two messages at the same offsets are one.
use Rattle.std.proofs.Common.{◌≡◌, ℕ, Bool, true, false, cond, List, Option, Some, None, Result, Ok, Err, refl, sym, ap, ◌∙◌, inl, inr}
use Rattle.std.specs.Prelude.{◌⊎◌, ◌≢◌, IfOk, IfErr, MatchResult, is_none}
use Rattle.values_plain.specs.Fields.{IsOctets}
use Rattle.htcp_wire.specs.declared.message.Content.{Content}
use Rattle.htcp_wire.specs.declared.message.Htcp.{Htcp}
use Rattle.htcp_wire.specs.declared.fault.HtcpFault.{HtcpFault}
use Rattle.htcp_wire.specs.declared.fault.HtcpFault.TheVariants.{Short, BadLength, BadMajor, BadData, BadString, BadAuth, NoMemory}
use Rattle.htcp_wire.specs.Grammar.{Spells}
use Rattle.htcp_wire.specs.Faults.{first_fault}
use Rattle.htcp_wire.specs.Reading.{minor_field, trans_field, data_field, content_at, Holds}
use Rattle.htcp_wire.specs.Laws.{IsDecided}
use Rattle.htcp_wire.proofs.Readings.{passes, spells_of, read_of}

-- ---- one message

abbrev made : ℕ → ℕ → Content → Htcp
made minor trans content = record { minor = minor; trans = trans; content = content }

-- two messages that stand at the offsets of the same octets
pub same_message : (octets : List ℕ) (m n : Htcp) → Holds octets m → Holds octets n → m ≡ n
same_message octets m n a b =
    let minor : m.minor ≡ n.minor = a.minor ∙ sym b.minor in
    let trans : m.trans ≡ n.trans = a.trans ∙ sym b.trans in
    let content : m.content ≡ n.content = cc in
    ap (λ (k : ℕ). made k m.trans m.content) minor
    ∙ ap (λ (k : ℕ). made n.minor k m.content) trans
    ∙ ap (λ (c : Content). made n.minor n.trans c) content

read_content : (content : Option Content) → is_none content ≡ false → (c : Content) × (content ≡ Some c)
read_content (Some content) e = (content, refl)
read_content None e = absurd cc

held : (octets : List ℕ) → first_fault octets ≡ None → (message : Htcp) × Holds octets message
held octets e =
    let content = read_content (content_at (data_field octets)) (passes octets e).content in
    (made (minor_field octets) (trans_field octets) content.0, record { minor = refl; trans = refl; content = content.1 })

decided_by : (octets : List ℕ) (first : Option HtcpFault) → IsOctets octets → first_fault octets ≡ first → IsDecided octets
decided_by octets None fits e =
    let message = held octets e in
    inl (
      message.0,
      record {
        spelled = spells_of octets message.0 fits e message.1;
        alone = λ other spelled. same_message octets other message.0 (read_of octets other spelled).holds message.1;
        no_fault = e;
      },
    )
decided_by octets (Some fault) fits e =
    inr (fault, record { first = e; none = λ message spelled. let no_fault = (read_of octets message spelled).no_fault in absurd cc })

pub decided : (octets : List ℕ) → IsOctets octets → IsDecided octets
decided octets fits = decided_by octets (first_fault octets) fits refl

-- ---- want of memory is no fault of the octets

apart : (failed : Bool) (fault : HtcpFault) (others : Option HtcpFault) → fault ≢ NoMemory → others ≢ Some NoMemory →
    cond failed (Some fault) others ≢ Some NoMemory
apart true fault others other later e = other cc
apart false fault others other later e = later e

first_apart : (octets : List ℕ) → first_fault octets ≢ Some NoMemory
unfolding first_fault
first_apart octets e =
    apart _ Short _ (λ same. absurd cc)
    (apart _ BadLength _ (λ same. absurd cc)
    (apart _ BadMajor _ (λ same. absurd cc)
    (apart _ BadData _ (λ same. absurd cc)
    (apart _ BadString _ (λ same. absurd cc)
    (apart _ BadAuth None (λ same. absurd cc) (λ none. absurd cc)))))) e

-- ---- the clauses of `decode`

abbrev pub IsOkReading : List ℕ → Htcp → Type 0
IsOkReading octets message = (first_fault octets ≡ None) × Holds octets message

abbrev pub IsErrReading : List ℕ → HtcpFault → Type 0
IsErrReading octets fault = (first_fault octets ≡ Some fault) ⊎ ((first_fault octets ≡ None) × (fault ≡ NoMemory))

pub ok_is_spelled : (octets : List ℕ) (result : Result Htcp HtcpFault) → IsOctets octets → IfOk result (IsOkReading octets) →
    IfOk result (λ message. Spells octets message)
ok_is_spelled octets (Ok message) fits ok = spells_of octets message fits ok.0 ok.1
ok_is_spelled octets (Err fault) fits ok = tt

pub spelled_is_ok : (octets : List ℕ) (result : Result Htcp HtcpFault) → IfOk result (IsOkReading octets) → IfErr result (IsErrReading octets)
    → (message : Htcp) → Spells octets message → MatchResult result (λ found. found ≡ message) (λ fault. fault ≡ NoMemory)
spelled_is_ok octets (Ok found) ok err message spelled = same_message octets found message ok.1 (read_of octets message spelled).holds
spelled_is_ok octets (Err fault) ok err message spelled =
    let no_fault = (read_of octets message spelled).no_fault in
    elim err [ inl first ↦ absurd cc | inr memory ↦ memory.1 ]

pub memory_is_last : (octets : List ℕ) (result : Result Htcp HtcpFault) → IfErr result (IsErrReading octets) → result ≡ Err NoMemory → first_fault octets ≡ None
memory_is_last octets (Ok message) err e = absurd cc
memory_is_last octets (Err fault) err e =
    elim err [ inl first ↦ absurd (first_apart octets cc) | inr memory ↦ memory.0 ]
