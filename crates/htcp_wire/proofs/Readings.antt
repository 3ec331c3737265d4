-- What is at the offsets of octets without a fault is spelled by them, and a message that is
-- spelled is at the offsets: each test of `first_fault` is one part of the grammar.
use Rattle.std.proofs.Common.{◌≡◌, ℕ, ◌+◌, ◌^◌, ◌<◌, Bool, true, false, cond, ltb, List, ◌++◌, length, drop, Option, Some, None, refl, sym, ap, ◌∙◌, arith}
use Rattle.std.specs.Prelude.{slice_index, is_none}
use Rattle.std.proofs.Math.Nat.{mod-lt}
use Rattle.std.proofs.lemmas.Bool.{eqb-true, eq-eqb, ltb-false, le-ltb, not-false, not_from_true, or_parts, or_from}
use Rattle.std.proofs.lemmas.List.{length-append}
use Rattle.byteorder.specs.Endian.{big_number}
use Rattle.values_plain.specs.Fields.{IsOctets}
use Rattle.values_plain.specs.Laws.{IsOctets-drop, IsOctets-take, big_number-lt, big_number-big_bytes}
use Rattle.htcp_wire.specs.declared.message.Htcp.{Htcp}
use Rattle.htcp_wire.specs.declared.fault.HtcpFault.{HtcpFault}
use Rattle.htcp_wire.specs.Grammar.{auth, header, data_text, Spells}
use Rattle.htcp_wire.specs.Faults.{is_bad_data, is_bad_auth, first_fault}
use Rattle.htcp_wire.specs.Questions.{trans_at}
use Rattle.htcp_wire.specs.Reading.{length_field, major_field, data_length_field, trans_field, data_field, auth_field, content_at, Holds}
use Rattle.htcp_wire.proofs.Contents.{content_takes, content_again}
use Rattle.htcp_wire.proofs.Offsets.{reserved_in, signature_in, behind_in, CanCut, octets_cut, parts_again}

-- a test of a chain that has no fault
passed : (failed : Bool) (fault : HtcpFault) (others : Option HtcpFault) → cond failed (Some fault) others ≡ None → (failed ≡ false) × (others ≡ None)
passed true fault others e = absurd cc
passed false fault others e = (refl, e)

-- what holds of octets that have no fault
pub record Passes (octets : List ℕ) : Type 0 where
  pub length_is : length_field octets ≡ length octets
  pub major_is : major_field octets ≡ 0
  pub can : CanCut octets
  pub content : is_none (content_at (data_field octets)) ≡ false

-- without a fault each test in turn has passed, and each is about one part
pub passes : (octets : List ℕ) → first_fault octets ≡ None → Passes octets
unfolding first_fault
passes octets e =
    let size = data_length_field octets in
    let left = auth_field octets in
    let a = passed _ _ _ e in
    let b = passed _ _ _ a.1 in
    let c = passed _ _ _ b.1 in
    let d = passed _ _ _ c.1 in
    let f = passed _ _ _ d.1 in
    let g = passed _ _ _ f.1 in
    let data_fits = or_parts (ltb size 8) (ltb (length octets) (4 + size + 2)) d.0 in
    let auth_fits = or_parts (ltb (big_number 2 left) 2) (ltb (length left) (big_number 2 left)) g.0 in
    record {
      length_is = eqb-true _ _ (not-false _ b.0);
      major_is = eqb-true _ _ (not-false _ c.0);
      can = record {
        long = ltb-false _ _ a.0;
        enough = ltb-false _ _ data_fits.0;
        room = ltb-false _ _ data_fits.1;
        auth_enough = ltb-false _ _ auth_fits.0;
        auth_inside = ltb-false _ _ auth_fits.1;
      };
      content = f.0;
    }

-- the octets are their parts, cut at the offsets, and each part has passed its test
pub spells_of : (octets : List ℕ) (message : Htcp) → IsOctets octets → first_fault octets ≡ None → Holds octets message → Spells octets message
spells_of octets message fits e holds =
    let tests = passes octets e in
    let left = auth_field octets in
    let reserved = reserved_in (slice_index octets 7) in
    let section = data_field octets in
    let tail = auth (signature_in left) ++ behind_in left in
    let short : length octets < 2 ^ 16 = omega (arith, tests.length_is, big_number-lt 2 octets fits) in
    record {
      section = section;
      reserved = reserved;
      signature = signature_in left;
      behind = behind_in left;
      is_content = content_takes section message.content (IsOctets-take _ (drop 12 octets) (IsOctets-drop 12 octets fits)) holds.content;
      response = mod-lt (slice_index octets 6) (omega arith);
      trans = rw holds.trans (big_number-lt 4 (drop 8 octets) (IsOctets-drop 8 octets fits));
      short = short;
      parts = octets_cut octets fits tests.can tests.major_is tests.length_is
          ∙ ap (λ (n : ℕ). header (length octets) n ++ (data_text reserved (trans_field octets) section ++ tail)) (sym holds.minor)
          ∙ ap (λ (n : ℕ). header (length octets) message.minor ++ (data_text reserved n section ++ tail)) (sym holds.trans);
    }

pub record IsReadAs (octets : List ℕ) (message : Htcp) : Type 0 where
  pub no_fault : first_fault octets ≡ None
  pub holds : Holds octets message

-- AUTH as it is spelled has no fault
auth_again : (signature behind : List ℕ) → length signature + 2 < 2 ^ 16 → is_bad_auth (auth signature ++ behind) ≡ false
auth_again signature behind small =
    let left = auth signature ++ behind in
    let size : big_number 2 left ≡ 2 + length signature = big_number-big_bytes 2 (2 + length signature) (signature ++ behind) (omega arith) in
    let long : length left ≡ 2 + (length signature + length behind) = simp length-append (omega arith) in
    or_from _ _ (le-ltb (big_number 2 left) 2 (omega arith)) (le-ltb (length left) (big_number 2 left) (omega arith))

-- the TRANS-ID that is read at its offset
pub trans_of : (octets : List ℕ) (message : Htcp) → Spells octets message → trans_at octets ≡ Some message.trans
trans_of octets message s =
    let left = auth s.signature ++ s.behind in
    let p = parts_again octets message.minor s.reserved message.trans s.section left s.short s.trans s.response s.parts in
    rw (le-ltb (length octets) 12 (omega (arith, p.size_is)), p.trans_is) refl

-- each part is read where it is spelled, so each test passes and the fields are the message's
pub read_of : (octets : List ℕ) (message : Htcp) → Spells octets message → IsReadAs octets message
unfolding first_fault
read_of octets message s =
    let op_data = s.section.op_data in
    let left = auth s.signature ++ s.behind in
    let short : length octets < 2 ^ 16 = s.short in
    let p = parts_again octets message.minor s.reserved message.trans s.section left s.short s.trans s.response s.parts in
    let left_long : length left ≡ 2 + (length s.signature + length s.behind) = simp length-append (omega arith) in
    let size : length octets ≡ 12 + length op_data + length left = p.size_is in
    let content : content_at s.section ≡ Some message.content = content_again message.content s.section (omega arith) s.is_content in
    let data_fits : is_bad_data (data_length_field octets) (length octets) ≡ false =
    or_from _ _ (le-ltb (data_length_field octets) 8 (omega (arith, p.data_length_is)))
    (le-ltb (length octets) (4 + data_length_field octets + 2) (omega (arith, p.data_length_is))) in
    let no_fault : first_fault octets ≡ None = rw (
      le-ltb (length octets) 14 (omega arith),
      not_from_true _ (eq-eqb _ _ p.length_is),
      p.major_is,
      data_fits,
      p.section_is,
      content,
      p.left_is,
      auth_again s.signature s.behind (omega arith),
    ) refl in
    record {
      no_fault = no_fault;
      holds = record { minor = sym p.minor_is; trans = sym p.trans_is; content = ap content_at p.section_is ∙ content };
    }
