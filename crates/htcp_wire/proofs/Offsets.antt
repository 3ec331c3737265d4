-- Octets cut at the offsets of HEADER, DATA and AUTH: HEADER and the front of DATA have fixed
-- lengths, and LENGTH of DATA says where AUTH begins.
use Rattle.std.proofs.Common.{◌≡◌, ℕ, zero, suc, ◌+◌, ◌-◌, ◌*◌, ◌/◌, ◌%◌, ◌^◌, ◌<◌, ◌≤◌, Bool, true, false, eqb, List, ◌∷◌, ◌++◌, length, take, drop, get_or}
use Rattle.std.proofs.Common.{refl, sym, ap, ◌∙◌, append_assoc, arith}
use Rattle.std.specs.Prelude.{slice_index}
use Rattle.std.proofs.Math.Seq.{drop-cons}
use Rattle.std.proofs.Math.Nat.{div-add-mod', mod-eq_of_lt, mul-add-mod_self_right}
use Rattle.std.proofs.lemmas.Nat.{div-mul-add}
use Rattle.std.proofs.lemmas.List.{drop_at, take_at, drop-drop, take-append-drop, length-append, length-take, length-drop}
use Rattle.byteorder.specs.Endian.{big_bytes, big_number}
use Rattle.values_plain.specs.Fields.{IsOctets}
use Rattle.values_plain.specs.Laws.{IsOctets-drop, cut_number, big_number-big_bytes}
use Rattle.htcp_wire.specs.Grammar.{Data, bit, header, data_text, auth}
use Rattle.htcp_wire.specs.Reading.{length_field, major_field, minor_field, data_length_field, trans_field, data_field, auth_field}

-- ---- the two octets of bits

-- the reserved bits
abbrev pub reserved_in : ℕ → ℕ
reserved_in flags = flags / 4

bit_is : (n : ℕ) → n < 2 → bit (eqb n 1) ≡ n
bit_is zero small = refl
bit_is (suc zero) small = refl
bit_is (suc (suc n)) small = absurd (omega arith)

pub flags_split : (flags : ℕ) → flags ≡ reserved_in flags * 4 + bit (eqb (flags / 2 % 2) 1) * 2 + bit (eqb (flags % 2) 1)
flags_split flags = rw (bit_is (flags / 2 % 2) (omega arith), bit_is (flags % 2) (omega arith)) (omega arith)

-- what the bits are read as
pub record ReadsFlags (flags : ℕ) (f1 rr : Bool) : Type 0 where
  pub f1_is : eqb (flags / 2 % 2) 1 ≡ f1
  pub rr_is : eqb (flags % 2) 1 ≡ rr

reads_flags : (reserved two one : ℕ) (f1 rr : Bool) → two < 2 → one < 2 → eqb two 1 ≡ f1 → eqb one 1 ≡ rr → ReadsFlags (reserved * 4 + two * 2 + one) f1 rr
reads_flags reserved two one f1 rr small_two small_one is_f1 is_rr =
    let high : (reserved * 4 + two * 2 + one) / 2 % 2 ≡ two = omega arith in
    let low : (reserved * 4 + two * 2 + one) % 2 ≡ one = omega arith in
    record { f1_is = rw high is_f1; rr_is = rw low is_rr }

pub flags_again : (reserved : ℕ) (f1 rr : Bool) → ReadsFlags (reserved * 4 + bit f1 * 2 + bit rr) f1 rr
flags_again reserved true true = reads_flags reserved 1 1 true true (omega arith) (omega arith) refl refl
flags_again reserved true false = reads_flags reserved 1 0 true false (omega arith) (omega arith) refl refl
flags_again reserved false true = reads_flags reserved 0 1 false true (omega arith) (omega arith) refl refl
flags_again reserved false false = reads_flags reserved 0 0 false false (omega arith) (omega arith) refl refl

-- ---- from the octets to the parts

pair_at : (n : ℕ) (octets : List ℕ) → n + 2 ≤ length octets → drop n octets ≡ get_or octets n 0 ∷ get_or octets (suc n) 0 ∷ drop (suc (suc n)) octets
pair_at n octets long =
    drop-cons octets n 0 (omega arith) ∙ ap (λ (t : List ℕ). get_or octets n 0 ∷ t) (drop-cons octets (suc n) 0 (omega arith))

-- the signature in AUTH, and what stands behind AUTH
abbrev pub signature_in : List ℕ → List ℕ
signature_in left = take (big_number 2 left - 2) (drop 2 left)

abbrev pub behind_in : List ℕ → List ℕ
behind_in left = drop (big_number 2 left - 2) (drop 2 left)

auth_cut : (left : List ℕ) → IsOctets left → 2 ≤ big_number 2 left → big_number 2 left ≤ length left → left ≡ auth (signature_in left) ++ behind_in left
auth_cut left fits enough inside =
    let size : 2 + length (signature_in left) ≡ big_number 2 left = omega (arith, length-take (big_number 2 left - 2) (drop 2 left), length-drop 2 left) in
    cut_number 2 left fits (omega arith)
    ∙ ap (λ (t : List ℕ). big_bytes 2 (big_number 2 left) ++ t) (sym (take-append-drop (big_number 2 left - 2) (drop 2 left)))
    ∙ sym (append_assoc (big_bytes 2 (big_number 2 left)) (signature_in left) (behind_in left))
    ∙ ap (λ (n : ℕ). (big_bytes 2 n ++ signature_in left) ++ behind_in left) (sym size)

-- what has to hold of octets that are cut
pub record CanCut (octets : List ℕ) : Type 0 where
  pub long : 14 ≤ length octets
  pub enough : 8 ≤ data_length_field octets
  pub room : 4 + data_length_field octets + 2 ≤ length octets
  pub auth_enough : 2 ≤ big_number 2 (auth_field octets)
  pub auth_inside : big_number 2 (auth_field octets) ≤ length (auth_field octets)

header_cut : (octets : List ℕ) → IsOctets octets → 14 ≤ length octets → major_field octets ≡ 0 → octets ≡ header (length_field octets) (minor_field octets)
    ++ drop 4 octets
header_cut octets fits long major =
    cut_number 2 octets fits (omega arith)
    ∙ ap (λ (t : List ℕ). big_bytes 2 (length_field octets) ++ t) (pair_at 2 octets (omega arith))
    ∙ ap (λ (n : ℕ). big_bytes 2 (length_field octets) ++ n ∷ minor_field octets ∷ drop 4 octets) major

-- the fields stand one behind another, each as long as its place, and LENGTH says where the last one ends
data_cut : (octets : List ℕ) → IsOctets octets → CanCut octets → drop 4 octets ≡ data_text (reserved_in (slice_index octets 7)) (trans_field octets)
    (data_field octets) ++ auth_field octets
data_cut octets fits can =
    let size = data_length_field octets in
    let code = slice_index octets 6 in
    let flags = slice_index octets 7 in
    let trans = trans_field octets in
    let op_data = take (size - 8) (drop 12 octets) in
    let left = auth_field octets in
    let long : 14 ≤ length octets = can.long in
    let enough : 8 ≤ size = can.enough in
    let room : 4 + size + 2 ≤ length octets = can.room in
    let first : drop 4 octets ≡ big_bytes 2 size ++ drop 6 octets =
    cut_number 2 (drop 4 octets) (IsOctets-drop 4 octets fits) (omega (arith, length-drop 4 octets))
    ∙ ap (λ (t : List ℕ). big_bytes 2 size ++ t) (drop-drop 2 4 octets) in
    let second : drop 6 octets ≡ code ∷ flags ∷ drop 8 octets = pair_at 6 octets (omega arith) in
    let third : drop 8 octets ≡ big_bytes 4 trans ++ drop 12 octets =
    cut_number 4 (drop 8 octets) (IsOctets-drop 8 octets fits) (omega (arith, length-drop 8 octets))
    ∙ ap (λ (t : List ℕ). big_bytes 4 trans ++ t) (drop-drop 4 8 octets) in
    let past : 12 + (size - 8) ≡ 4 + size = omega arith in
    let fourth : drop 12 octets ≡ op_data ++ left =
    sym (take-append-drop (size - 8) (drop 12 octets)) ∙ ap (λ (t : List ℕ). op_data ++ t) (drop-drop (size - 8) 12 octets ∙ ap (λ (n : ℕ). drop n octets) past)
    in
    let length_is : 8 + length op_data ≡ size = omega (arith, length-take (size - 8) (drop 12 octets), length-drop 12 octets) in
    let code_is : code ≡ code / 16 * 16 + code % 16 = sym (div-add-mod' code 16) in
    first
    ∙ ap (λ (t : List ℕ). big_bytes 2 size ++ t)
    (second ∙ ap (λ (t : List ℕ). code ∷ flags ∷ t) (third ∙ ap (λ (t : List ℕ). big_bytes 4 trans ++ t) fourth))
    ∙ ap (λ (n : ℕ). big_bytes 2 size ++ n ∷ flags ∷ (big_bytes 4 trans ++ (op_data ++ left))) code_is
    ∙ ap (λ (n : ℕ). big_bytes 2 size ++ (code / 16 * 16 + code % 16) ∷ n ∷ (big_bytes 4 trans ++ (op_data ++ left))) (flags_split flags)
    ∙ ap (λ (n : ℕ). big_bytes 2 n ++ (code / 16 * 16 + code % 16) ∷ (reserved_in flags * 4 + bit (eqb (flags / 2 % 2) 1) * 2 + bit (eqb (flags % 2) 1))
    ∷ (big_bytes 4 trans ++ (op_data ++ left))) (sym length_is)

pub octets_cut : (octets : List ℕ) → IsOctets octets → CanCut octets → major_field octets ≡ 0 → length_field octets ≡ length octets
    → octets ≡ header (length octets) (minor_field octets) ++ (data_text (reserved_in (slice_index octets 7)) (trans_field octets) (data_field octets)
    ++ (auth (signature_in (auth_field octets)) ++ behind_in (auth_field octets)))
octets_cut octets fits can major length_is =
    let left = auth_field octets in
    let section = data_text (reserved_in (slice_index octets 7)) (trans_field octets) (data_field octets) in
    let minor = minor_field octets in
    header_cut octets fits can.long major
    ∙ ap (λ (t : List ℕ). header (length_field octets) minor ++ t)
    (data_cut octets fits can ∙ ap (λ (t : List ℕ). section ++ t)
    (auth_cut left (IsOctets-drop (4 + data_length_field octets) octets fits) can.auth_enough can.auth_inside))
    ∙ ap (λ (n : ℕ). header n minor ++ (section ++ (auth (signature_in left) ++ behind_in left))) length_is

-- ---- from the parts to the octets

made : ℕ → ℕ → Bool → Bool → List ℕ → Data
made opcode response f1 rr op_data = record { opcode = opcode; response = response; f1 = f1; rr = rr; op_data = op_data }

-- what is read at the offsets of the parts
pub record HasParts (octets : List ℕ) (minor trans : ℕ) (section : Data) (left : List ℕ) : Type 0 where
  pub length_is : length_field octets ≡ length octets
  pub major_is : major_field octets ≡ 0
  pub minor_is : minor_field octets ≡ minor
  pub data_length_is : data_length_field octets ≡ 8 + length section.op_data
  pub trans_is : trans_field octets ≡ trans
  pub section_is : data_field octets ≡ section
  pub left_is : auth_field octets ≡ left
  pub size_is : length octets ≡ 12 + length section.op_data + length left

-- what is spelled before a field is as long as the field's offset, so each field is read where it is spelled
pub parts_again : (octets : List ℕ) (minor reserved trans : ℕ) (section : Data) (left : List ℕ) → length octets < 2 ^ 16 → trans < 2 ^ 32 →
    section.response < 16
    → octets ≡ header (length octets) minor ++ (data_text reserved trans section ++ left) → HasParts octets minor trans section left
unfolding made
parts_again octets minor reserved trans section left short trans_fits nibble parts =
    let size = 8 + length section.op_data in
    let code = section.opcode * 16 + section.response in
    let flags = reserved * 4 + bit section.f1 * 2 + bit section.rr in
    let op_data = section.op_data in
    let behind_trans = op_data ++ left in
    let behind_size = code ∷ flags ∷ (big_bytes 4 trans ++ behind_trans) in
    let size_is : length octets ≡ 12 + length op_data + length left = ap length parts ∙ simp length-append (omega arith) in
    let at12 : drop 12 octets ≡ behind_trans = ap (drop 12) parts in
    let data_length_is : data_length_field octets ≡ size = ap (λ (t : List ℕ). big_number 2 (drop 4 t)) parts
    ∙ big_number-big_bytes 2 size behind_size (omega arith) in
    let opcode_is : slice_index octets 6 / 16 ≡ section.opcode = ap (λ (t : List ℕ). slice_index t 6 / 16) parts
    ∙ div-mul-add section.opcode 16 section.response nibble in
    let response_is : slice_index octets 6 % 16 ≡ section.response =
    ap (λ (t : List ℕ). slice_index t 6 % 16) parts ∙ mul-add-mod_self_right section.opcode 16 section.response ∙ mod-eq_of_lt nibble in
    let bits = flags_again reserved section.f1 section.rr in
    let f1_is : eqb (slice_index octets 7 / 2 % 2) 1 ≡ section.f1 = ap (λ (t : List ℕ). eqb (slice_index t 7 / 2 % 2) 1) parts ∙ bits.f1_is in
    let rr_is : eqb (slice_index octets 7 % 2) 1 ≡ section.rr = ap (λ (t : List ℕ). eqb (slice_index t 7 % 2) 1) parts ∙ bits.rr_is in
    let few : data_length_field octets - 8 ≡ length op_data = omega arith in
    let op_data_is : take (data_length_field octets - 8) (drop 12 octets) ≡ op_data = ap (λ (n : ℕ). take n (drop 12 octets)) few
    ∙ ap (take (length op_data)) at12 ∙ take_at op_data left (length op_data) refl in
    let past : 4 + data_length_field octets ≡ 12 + length op_data = omega arith in
    record {
      length_is = ap (big_number 2) parts ∙ big_number-big_bytes 2 (length octets) (0 ∷ minor ∷ (data_text reserved trans section ++ left)) short;
      major_is = ap (λ (t : List ℕ). slice_index t 2) parts;
      minor_is = ap (λ (t : List ℕ). slice_index t 3) parts;
      data_length_is = data_length_is;
      trans_is = ap (λ (t : List ℕ). big_number 4 (drop 8 t)) parts ∙ big_number-big_bytes 4 trans behind_trans trans_fits;
      section_is =
          ap (λ (n : ℕ). made n (slice_index octets 6 % 16) (eqb (slice_index octets 7 / 2 % 2) 1) (eqb (slice_index octets 7 % 2) 1)
          (take (data_length_field octets - 8) (drop 12 octets))) opcode_is
          ∙ ap (λ (n : ℕ). made section.opcode n (eqb (slice_index octets 7 / 2 % 2) 1) (eqb (slice_index octets 7 % 2) 1)
          (take (data_length_field octets - 8) (drop 12 octets))) response_is
          ∙ ap (λ (b : Bool). made section.opcode section.response b (eqb (slice_index octets 7 % 2) 1) (take (data_length_field octets - 8) (drop 12 octets)))
          f1_is
          ∙ ap (λ (b : Bool). made section.opcode section.response section.f1 b (take (data_length_field octets - 8) (drop 12 octets))) rr_is
          ∙ ap (λ (t : List ℕ). made section.opcode section.response section.f1 section.rr t) op_data_is;
      left_is = ap (λ (n : ℕ). drop n octets) past ∙ sym (drop-drop (length op_data) 12 octets) ∙ ap (drop (length op_data)) at12
          ∙ drop_at op_data left (length op_data) refl;
      size_is = size_is;
    }
