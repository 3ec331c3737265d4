-- The fields of a header at their offsets: each field has a fixed length, so it is found behind
-- those before it.
use Rattle.std.proofs.Common.{◌≡◌, ℕ, ◌+◌, ◌^◌, ◌<◌, ◌≤◌, List, ◌++◌, length, take, drop, sym, ap, ◌∙◌, append_assoc, arith}
use Rattle.std.proofs.lemmas.List.{drop_at, drop-drop, take-append-drop, length-append, length-drop}
use Rattle.byteorder.specs.Endian.{big_bytes, big_number}
use Rattle.values_plain.specs.Fields.{IsOctets}
use Rattle.values_plain.specs.Laws.{IsOctets-drop, cut_number, big_number-big_bytes, drop-big_bytes}

regroup : (a b c d e f : List ℕ) → a ++ b ++ c ++ d ++ e ++ f ≡ a ++ (b ++ (c ++ (d ++ (e ++ f))))
regroup a b c d e f = simp append_assoc

-- four octets and what follows them
four : (n : ℕ) (octets : List ℕ) → drop n octets ≡ take 4 (drop n octets) ++ drop (n + 4) octets
four n octets = sym (take-append-drop 4 (drop n octets)) ∙ ap (λ (t : List ℕ). take 4 (drop n octets) ++ t) (drop-drop 4 n octets)

-- what follows the version in a header and its payload
abbrev pub after_version : ℕ → ℕ → List ℕ → List ℕ → List ℕ → List ℕ → List ℕ
after_version size number options option_data sender payload =
    big_bytes 2 size ++ big_bytes 4 number ++ options ++ option_data ++ sender ++ payload

pub length-after_version : (size number : ℕ) (options option_data sender payload : List ℕ)
    → length (after_version size number options option_data sender payload) ≡ 6 + (length options + length option_data + length sender + length payload)
length-after_version size number options option_data sender payload = simp length-append (omega arith)

pub header_cut : (rest : List ℕ) → IsOctets rest → 18 ≤ length rest
    → rest ≡ after_version (big_number 2 rest) (big_number 4 (drop 2 rest)) (take 4 (drop 6 rest)) (take 4 (drop 10 rest)) (take 4 (drop 14 rest))
    (drop 18 rest)
header_cut rest fits long =
    let size = big_bytes 2 (big_number 2 rest) in
    let number = big_bytes 4 (big_number 4 (drop 2 rest)) in
    let first : rest ≡ size ++ drop 2 rest = cut_number 2 rest fits (omega arith) in
    let second : drop 2 rest ≡ number ++ drop 6 rest = cut_number 4 (drop 2 rest) (IsOctets-drop 2 rest fits) (omega (arith, length-drop 2 rest))
    ∙ ap (λ (t : List ℕ). number ++ t) (drop-drop 4 2 rest) in
    first
    ∙ ap (λ (t : List ℕ). size ++ t)
    (second ∙ ap (λ (t : List ℕ). number ++ t)
    (four 6 rest ∙ ap (λ (t : List ℕ). take 4 (drop 6 rest) ++ t)
    (four 10 rest ∙ ap (λ (t : List ℕ). take 4 (drop 10 rest) ++ t) (four 14 rest))))
    ∙ sym (regroup size number (take 4 (drop 6 rest)) (take 4 (drop 10 rest)) (take 4 (drop 14 rest)) (drop 18 rest))

-- what is read at the offsets of a header
pub record HasFields (rest : List ℕ) (size number : ℕ) (payload : List ℕ) : Type 0 where
  pub size_is : big_number 2 rest ≡ size
  pub number_is : big_number 4 (drop 2 rest) ≡ number
  pub payload_is : drop 18 rest ≡ payload

pub header_again : (size number : ℕ) (options option_data sender payload : List ℕ) → size < 2 ^ 16 → number < 2 ^ 32
    → length options ≡ 4 → length option_data ≡ 4 → length sender ≡ 4
    → HasFields (after_version size number options option_data sender payload) size number payload
header_again size number options option_data sender payload small fits four_options four_data four_sender =
    let addresses = options ++ (option_data ++ (sender ++ payload)) in
    let whole = regroup (big_bytes 2 size) (big_bytes 4 number) options option_data sender payload in
    let behind_size : drop 2 (after_version size number options option_data sender payload) ≡ big_bytes 4 number ++ addresses =
    ap (drop 2) whole ∙ drop-big_bytes 2 size (big_bytes 4 number ++ addresses) in
    let behind_number : drop 4 (big_bytes 4 number ++ addresses) ≡ addresses = drop-big_bytes 4 number addresses in
    let behind_options : drop 4 addresses ≡ option_data ++ (sender ++ payload) = drop_at options (option_data ++ (sender ++ payload)) 4 four_options in
    let behind_data : drop 4 (option_data ++ (sender ++ payload)) ≡ sender ++ payload = drop_at option_data (sender ++ payload) 4 four_data in
    let behind_sender : drop 4 (sender ++ payload) ≡ payload = drop_at sender payload 4 four_sender in
    let far : drop 12 addresses ≡ payload =
    sym (drop-drop 4 8 addresses) ∙ ap (drop 4) (sym (drop-drop 4 4 addresses) ∙ ap (drop 4) behind_options ∙ behind_data) ∙ behind_sender in
    record {
      size_is = ap (big_number 2) whole ∙ big_number-big_bytes 2 size (big_bytes 4 number ++ addresses) small;
      number_is = ap (big_number 4) behind_size ∙ big_number-big_bytes 4 number addresses fits;
      payload_is = sym (drop-drop 16 2 (after_version size number options option_data sender payload)) ∙ ap (drop 16) behind_size
          ∙ sym (drop-drop 12 4 (big_bytes 4 number ++ addresses)) ∙ ap (drop 12) behind_number ∙ far;
    }
