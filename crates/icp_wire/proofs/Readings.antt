-- What is at the offsets of octets without a fault is spelled by them, and a message that is
-- spelled is at the offsets: each test of `first_fault` is one part of the grammar.
use Rattle.std.proofs.Common.{◌≡◌, ℕ, suc, ◌+◌, ◌≤◌, Bool, true, false, cond, eqb, List, [], ◌∷◌, length, take, drop, Option, Some, None, refl, sym, ap, ◌∙◌}
use Rattle.std.proofs.Common.{arith}
use Rattle.std.specs.Prelude.{slice_index, find}
use Rattle.std.proofs.lemmas.Bool.{eqb-true, eq-eqb, ltb-false, le-ltb, not-false, not_from_true}
use Rattle.std.proofs.lemmas.List.{drop-drop, length-take, length-drop}
use Rattle.byteorder.specs.Endian.{big_number}
use Rattle.values_plain.specs.Fields.{IsOctets}
use Rattle.values_plain.specs.Laws.{IsOctets-drop, big_number-lt}
use Rattle.icp_wire.specs.declared.message.Icp.{Icp}
use Rattle.icp_wire.specs.declared.message.IcpOp.{IcpOp}
use Rattle.icp_wire.specs.declared.message.IcpOp.TheVariants.{Query, Hit, Miss, Error, MissNoFetch, Denied, HitObj}
use Rattle.icp_wire.specs.Grammar.{version, opcode, Spells}
use Rattle.icp_wire.specs.Faults.{payload_fault, opcode_fault, first_fault}
use Rattle.icp_wire.specs.Reading.{opcode_field, version_field, length_field, number_field, payload_field, op_of, from_url, Holds}
use Rattle.icp_wire.proofs.Zeros.{before_zero}
use Rattle.icp_wire.proofs.Payloads.{passed, payload_spells, payload_again}
use Rattle.icp_wire.proofs.Headers.{after_version, header_cut, header_again, length-after_version}

-- ---- opcodes

found_here : {X : Type 0} (test : X → Bool) (passed : Bool) (y : X) (others : Option X) (x : X) → test y ≡ passed → cond passed (Some y) others ≡ Some x →
    (others ≡ Some x → test x ≡ true) → test x ≡ true
found_here test true y others x is e later = let same : y ≡ x = cc in ap test (sym same) ∙ is
found_here test false y others x is e later = later e

find_passes : {X : Type 0} (test : X → Bool) (xs : List X) (x : X) → find test xs ≡ Some x → test x ≡ true
find_passes test [] x e = absurd cc
find_passes test (y ∷ ys) x e = found_here test (test y) y (find test ys) x refl e (find_passes test ys x)

pub opcode-op_of : (code : ℕ) (op : IcpOp) → op_of code ≡ Some op → opcode op ≡ code
opcode-op_of code op e = eqb-true _ _ (find_passes (λ o. eqb (opcode o) code) (Query ∷ Hit ∷ Miss ∷ Error ∷ MissNoFetch ∷ Denied ∷ HitObj ∷ []) op e)

pub op_of-opcode : (op : IcpOp) → op_of (opcode op) ≡ Some op
op_of-opcode Query = refl
op_of-opcode Hit = refl
op_of-opcode Miss = refl
op_of-opcode Error = refl
op_of-opcode MissNoFetch = refl
op_of-opcode Denied = refl
op_of-opcode HitObj = refl

-- ---- from the octets to the message

two_first : (octets : List ℕ) → 2 ≤ length octets → octets ≡ slice_index octets 0 ∷ slice_index octets 1 ∷ drop 2 octets
two_first [] long = absurd (omega arith)
two_first (first ∷ []) long = absurd (omega arith)
two_first (first ∷ second ∷ rest) long = refl

-- the tests of a header that has no fault
pub record Passes (octets : List ℕ) : Type 0 where
  pub long : 20 ≤ length octets
  pub short : length octets ≤ 16384
  pub version_is : version_field octets ≡ version
  pub length_is : length_field octets ≡ length octets
  pub others : opcode_fault (op_of (opcode_field octets)) (payload_field octets) ≡ None

pub passes : (octets : List ℕ) → first_fault octets ≡ None → Passes octets
unfolding first_fault
passes octets e =
    let a = passed _ _ _ e in
    let b = passed _ _ _ a.1 in
    let c = passed _ _ _ b.1 in
    let d = passed _ _ _ c.1 in
    record {
      long = ltb-false _ _ a.0;
      short = ltb-false _ _ b.0;
      version_is = eqb-true _ _ (not-false _ c.0);
      length_is = eqb-true _ _ (not-false _ d.0);
      others = d.1;
    }

-- the octets are their parts, cut at the offsets, and each part has passed its test
pub spells_of : (octets : List ℕ) (message : Icp) → IsOctets octets → first_fault octets ≡ None → Holds octets message → Spells octets message
spells_of octets message fits e holds =
    let tests = passes octets e in
    let rest = drop 2 octets in
    let payload = payload_field octets in
    let options = take 4 (drop 6 rest) in
    let option_data = take 4 (drop 10 rest) in
    let sender = take 4 (drop 14 rest) in
    let long = tests.long in
    let cut = header_cut rest (IsOctets-drop 2 octets fits) (omega (arith, length-drop 2 octets)) in
    let number : big_number 4 (drop 2 rest) ≡ message.number = ap (big_number 4) (drop-drop 2 2 octets) ∙ sym holds.number in
    let rest_is : rest ≡ after_version (length octets) message.number options option_data sender payload =
    cut
    ∙ ap (λ (size : ℕ). after_version size (big_number 4 (drop 2 rest)) options option_data sender (drop 18 rest)) tests.length_is
    ∙ ap (λ (n : ℕ). after_version (length octets) n options option_data sender (drop 18 rest)) number
    ∙ ap (λ (p : List ℕ). after_version (length octets) message.number options option_data sender p) (drop-drop 18 2 octets) in
    let op_is : opcode message.op ≡ opcode_field octets = opcode-op_of (opcode_field octets) message.op holds.op in
    let no_fault : payload_fault message.op payload ≡ None = ap (λ (op : Option IcpOp). opcode_fault op payload) (sym holds.op) ∙ tests.others in
    record {
      options = options;
      option_data = option_data;
      sender = sender;
      payload = payload;
      four_options = omega (arith, length-take 4 (drop 6 rest), length-drop 6 rest, length-drop 2 octets);
      four_option_data = omega (arith, length-take 4 (drop 10 rest), length-drop 10 rest, length-drop 2 octets);
      four_sender = omega (arith, length-take 4 (drop 14 rest), length-drop 14 rest, length-drop 2 octets);
      is_payload = rw (holds.url, holds.object) (payload_spells message.op payload (IsOctets-drop 20 octets fits) no_fault);
      parts = two_first octets (omega arith)
          ∙ ap (λ (code : ℕ). code ∷ version_field octets ∷ rest) (sym op_is)
          ∙ ap (λ (v : ℕ). opcode message.op ∷ v ∷ rest) tests.version_is
          ∙ ap (λ (r : List ℕ). opcode message.op ∷ version ∷ r) rest_is;
      no_zero = rw holds.url (before_zero (from_url message.op payload));
      number = rw holds.number (big_number-lt 4 (drop 4 octets) (IsOctets-drop 4 octets fits));
      short = tests.short;
    }

-- ---- from the message to the octets

pub record IsReadAs (octets : List ℕ) (message : Icp) : Type 0 where
  pub no_fault : first_fault octets ≡ None
  pub holds : Holds octets message

-- each part is read where it is spelled, so each test passes and the fields are the message's
pub read_of : (octets : List ℕ) (message : Icp) → Spells octets message → IsReadAs octets message
unfolding first_fault
read_of octets message spelled =
    let s = spelled in
    let short : length octets ≤ 16384 = s.short in
    let behind : drop 2 octets ≡ after_version (length octets) message.number s.options s.option_data s.sender s.payload = ap (drop 2) s.parts in
    let again = header_again (length octets) message.number s.options s.option_data s.sender s.payload (omega arith) s.number s.four_options s.four_option_data
    s.four_sender in
    let payload = payload_again message.op message.url message.object s.payload s.is_payload s.no_zero in
    let op_is : op_of (opcode_field octets) ≡ Some message.op = ap (λ (t : List ℕ). op_of (slice_index t 0)) s.parts ∙ op_of-opcode message.op in
    let version_is : version_field octets ≡ version = ap (λ (t : List ℕ). slice_index t 1) s.parts in
    let length_is : length_field octets ≡ length octets = ap (big_number 2) behind ∙ again.size_is in
    let number_is : number_field octets ≡ message.number = ap (big_number 4) (sym (drop-drop 2 2 octets) ∙ ap (drop 2) behind) ∙ again.number_is in
    let payload_is : payload_field octets ≡ s.payload = sym (drop-drop 18 2 octets) ∙ ap (drop 18) behind ∙ again.payload_is in
    let size : length octets ≡ 2 + (6 + (length s.options + length s.option_data + length s.sender + length s.payload)) =
    ap length s.parts ∙ ap (λ (n : ℕ). suc (suc n)) (length-after_version (length octets) message.number s.options s.option_data s.sender s.payload)
    ∙ omega arith in
    let no_fault : first_fault octets ≡ None = rw (
      le-ltb (length octets) 20 (omega (arith, s.four_options, s.four_option_data, s.four_sender)),
      le-ltb 16384 (length octets) short,
      version_is,
      not_from_true _ (eq-eqb _ _ length_is),
      op_is,
      payload_is,
      payload.no_fault,
    ) refl in
    record {
      no_fault = no_fault;
      holds = record {
        op = op_is;
        number = sym number_is;
        url = rw payload_is (sym payload.url_is);
        object = rw payload_is (sym payload.object_is);
      };
    }
