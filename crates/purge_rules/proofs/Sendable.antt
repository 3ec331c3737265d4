-- A CLR has a written text of at most 16,384 octets: a key is short, and a number has ten digits at
-- most.
use Rattle.std.proofs.Common.{ℕ, ◌≤◌, ◌<◌, ◌^◌, List, [], ◌∷◌, ◌++◌, length, refl, codes, decimal, arith, length-append}
use Rattle.std.proofs.lemmas.Fmt.{length-decimal-le}
use Rattle.url_key.specs.Key.{IsKey}
use Rattle.values_plain.specs.Counted.{counted}
use Rattle.htcp_wire.specs.Written.{Fits, written_data}
use Rattle.htcp_wire.proofs.Writings.{length-written_with}
use Rattle.purge_rules.specs.Clear.{clear, base_clear, number_line, base_line}

pub clear_fits : (number : ℕ) (key : List ℕ) → IsKey key → number < 2 ^ 32 → Fits (clear number key)
clear_fits number key k small = record {
  minor = refl;
  in_range = omega arith;
  short =
      let size = length-written_with number (written_data (clear number key).content) in
      let digits = length-decimal-le 10 number (omega arith) (omega arith) (omega arith) in
      let line : length (number_line number) ≤ 28 = omega (arith, digits, length-append (decimal number) (13 ∷ 10 ∷ [])) in
      omega (arith, k.short, size, line, length-append key (counted (codes "HTTP/1.1") ++ counted (number_line number)));
}

pub base_clear_fits : (number : ℕ) → number < 2 ^ 32 → Fits (base_clear number)
base_clear_fits number small = record {
  minor = refl;
  in_range = omega arith;
  short =
      let size = length-written_with number (written_data (base_clear number).content) in
      let digits = length-decimal-le 10 number (omega arith) (omega arith) (omega arith) in
      let line : length (base_line number) ≤ 26 = omega (arith, digits, length-append (decimal number) (13 ∷ 10 ∷ [])) in
      omega (arith, size, line);
}
