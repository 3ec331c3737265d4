-- A node reads the number of a CLR as the master wrote it: the digits spell the number and have no
-- leading zero and no blank, and the header has one line, of a purge's number or of an admission's.
use Rattle.std.proofs.Common.{◌≡◌, ℕ, ◌+◌, ◌-◌, ◌/◌, ◌%◌, ◌^◌, ◌≤◌, ◌<◌, Bool, true, false, cond, not, ◌&&◌, ◌||◌, List, [], ◌∷◌, ◌++◌, length, take, drop}
use Rattle.std.proofs.Common.{reverse, Option, Some, None, Ok, refl, sym, ◌∙◌, ap, subst, nat_eq, nat_le, nat_lt, arith}
use Rattle.std.specs.Prelude.{codes, decimal, slice_index, is_none}
use Rattle.std.specs.List.{AllByRecursion, list_all, prefix_len, suffix_len, filter_map, cons_option}
use native.Mathlib.Decide.{dec_lt}
use Rattle.std.specs.Char.{is_ascii_digit}
use Rattle.std.specs.Str.Parse.{digits_value}
use Rattle.std.proofs.lemmas.Fmt.{decimal_by_steps, digits_decimal, digits_value-decimal, length-decimal-le}
use Rattle.std.proofs.lemmas.List.{reverse-append, take_all}
use Rattle.htcp_wire.specs.declared.numbers.HeaderKind.TheVariants.{PurgeNumber, PurgeBase}
use Rattle.htcp_wire.specs.Numbers.{is_blank, trim_front, trim_end, value_in, is_number, number_of_values, number_in_text, line_name}
use Rattle.htcp_wire.specs.Lines.{IsLine, AreLines}
use Rattle.htcp_wire.proofs.Digits.{same_digit_tests, numerals}
use Rattle.htcp_wire.proofs.Cuts.{lines_alone}
use Rattle.values_plain.specs.declared.address.Address.{Address}
use Rattle.roster.specs.Lookups.{is_master}
use Rattle.node_rules.specs.declared.message.Message.TheVariants as message
use Rattle.node_rules.specs.declared.raising.Raise.{Raise}
use Rattle.node_rules.specs.declared.raising.Raise.TheVariants.{Floor, Base}
use Rattle.node_rules.specs.Raises.{number_of}
use Rattle.node_rules.specs.Datagrams.{is_masters, base_alone}
use Rattle.node_rules.specs.Relation.{raise_in_message, raise_by_lines, purge_by_line}
use Rattle.node_rules.proofs.Cases.{true_not_false, or_true}
use Rattle.node_rules.proofs.Pendings.{all_mapped, all_joined}
use Rattle.purge_rules.specs.Clear.{number_line, base_line}
use Rattle.values_tables.specs.declared.plain.Tables.{Tables}
use Rattle.values_keys.specs.KeyOf.{key_of}
use Rattle.node_rules.specs.State.{setting}
use Rattle.world_rules.specs.Run.{Given, OfPurge, OfAdmission}
use Rattle.world_rules.specs.Lineage.{clear_of, IsOfUrl}
use Rattle.world_rules.proofs.Keys.{own_key}
use Rattle.world_rules.proofs.Members.{all_tested}
use Rattle.world_rules.proofs.MemberStates.{same_id, other_id, or_left}

IsDigit : ℕ → Type 0
IsDigit c = (48 ≤ c) × (c ≤ 57)

-- what holds of the decimal digits of n
record IsWritten (n : ℕ) (ds : List ℕ) : Type 0 where
  digits : AllByRecursion IsDigit ds
  some : 0 < length ds
  alone : n < 10 → length ds ≡ 1
  -- a number of two digits and more has no leading zero
  front : 1 ≤ n → nat_eq (slice_index ds 0) 48 ≡ false
  -- no digit is a blank, so the last character is none
  last : suffix_len is_blank ds ≡ 0

digit_not : (c k : ℕ) → IsDigit c → k < 48 → nat_eq c k ≡ false
unfolding IsDigit
digit_not c k is low = other_id c k (λ e. omega (arith, is.0, low, e))

not_blank : (c : ℕ) → IsDigit c → is_blank c ≡ false
not_blank c is = ap (λ b. b || nat_eq c 9) (digit_not c 32 is (omega arith)) ∙ digit_not c 9 is (omega arith)

ends_here : (c : ℕ) (cs : List ℕ) → IsDigit c → prefix_len is_blank (c ∷ cs) ≡ 0
ends_here c cs is = ap (λ b. cond b (1 + prefix_len is_blank cs) 0) (not_blank c is)

begins_here : (ds : List ℕ) → AllByRecursion IsDigit ds → prefix_len (λ c. not (not (is_blank c))) ds ≡ 0
begins_here [] all = refl
begins_here (c ∷ cs) all = ap (λ b. cond (not (not b)) (1 + prefix_len (λ c. not (not (is_blank c))) cs) 0) (not_blank c all.0)

front_pushed : (ds : List ℕ) (d : ℕ) → 0 < length ds → nat_eq (slice_index ds 0) 48 ≡ false → nat_eq (slice_index (ds ++ d ∷ []) 0) 48 ≡ false
front_pushed [] d some h = absurd (omega (arith, some))
front_pushed (c ∷ cs) d some h = h

some_pushed : (ds : List ℕ) (d : ℕ) → 0 < length (ds ++ d ∷ [])
some_pushed [] d = omega arith
some_pushed (c ∷ cs) d = omega arith

one_written : (n : ℕ) → n < 10 → IsWritten n ((48 + n) ∷ [])
unfolding IsDigit
one_written n small =
    let is : (48 ≤ 48 + n) × (48 + n ≤ 57) = (omega arith, omega arith) in
    record {
      digits = (is, tt);
      some = omega arith;
      alone = λ h. refl;
      front = λ some. other_id (48 + n) 48 (λ e. omega (arith, some, e));
      last =
          ends_here (48 + n) [] is;
    }

more_written : (n : ℕ) (ds : List ℕ) → 10 ≤ n → IsWritten (n / 10) ds → IsWritten n (ds ++ ((48 + n % 10) ∷ []))
unfolding IsDigit
more_written n ds big is =
    let low : n % 10 < 10 = omega arith in
    let digit : (48 ≤ 48 + n % 10) × (48 + n % 10 ≤ 57) = (omega arith, omega (arith, low)) in
    let turned : reverse (ds ++ ((48 + n % 10) ∷ [])) ≡ (48 + n % 10) ∷ reverse ds = reverse-append ds ((48 + n % 10) ∷ []) in
    record {
      digits = all_joined IsDigit ds ((48 + n % 10) ∷ []) is.digits (digit, tt);
      some = some_pushed ds (48 + n % 10);
      alone = λ small. absurd (omega (arith, big, small));
      front = λ some. front_pushed ds (48 + n % 10) is.some (is.front (omega (arith, big)));
      last = subst (λ xs. prefix_len is_blank xs ≡ 0) (sym turned) (ends_here (48 + n % 10) (reverse ds) digit);
    }

written : (n : ℕ) → n < 2 ^ 64 → IsWritten n (decimal n)
written n small = decimal_by_steps IsWritten one_written more_written n small

trimmed : (ds : List ℕ) (n : ℕ) → IsWritten n ds → trim_end (trim_front (32 ∷ ds)) ≡ ds
trimmed ds n is =
    let begun : trim_front (32 ∷ ds) ≡ ds = ap (λ k. drop (1 + k) (32 ∷ ds)) (begins_here ds is.digits) in
    let ended : trim_end ds ≡ ds = ap (λ k. take (length ds - k) ds) is.last ∙ take_all (length ds - 0) ds (omega arith) in
    ap trim_end begun ∙ ended

-- The lines of the header

IsPlain : ℕ → Type 0
IsPlain c = not (nat_eq c 13) ≡ true

digit_plain : (c : ℕ) → IsDigit c → IsPlain c
unfolding IsPlain
digit_plain c is = ap not (digit_not c 13 is (omega arith))

no_break : (before after : List ℕ) → AllByRecursion IsPlain (before ++ 13 ∷ 10 ∷ after) → ⊥
unfolding IsPlain
no_break [] after all = true_not_false (sym all.0)
no_break (b ∷ before) after all = no_break before after all.1

plain_line : (line : List ℕ) → AllByRecursion IsPlain line → IsLine line
plain_line line all = record { whole = λ before after e. no_break before after (subst (AllByRecursion IsPlain) e all) }

plain_name : AllByRecursion IsPlain (codes "X-Purge-Number: ")
unfolding IsPlain
plain_name = all_tested (λ c. not (nat_eq c 13)) (codes "X-Purge-Number: ") refl

plain_base : AllByRecursion IsPlain (codes "X-Purge-Base: ")
unfolding IsPlain
plain_base = all_tested (λ c. not (nat_eq c 13)) (codes "X-Purge-Base: ") refl

two_lines : (name : List ℕ) → AllByRecursion IsPlain name → (n : ℕ) → IsWritten n (decimal n) → AllByRecursion IsLine ((name ++ decimal n) ∷ [] ∷ [])
two_lines name plain n is = (
  plain_line (name ++ decimal n) (all_joined IsPlain name (decimal n) plain (all_mapped IsDigit IsPlain digit_plain (decimal n) is.digits)),
  (plain_line [] tt, tt),
)

the_lines : (n : ℕ) → IsWritten n (decimal n) → AreLines (number_line n) ((codes "X-Purge-Number: " ++ decimal n) ∷ [] ∷ [])
the_lines n is = record { some = λ e. cc; each = two_lines (codes "X-Purge-Number: ") plain_name n is; parts = refl }

base_lines : (n : ℕ) → IsWritten n (decimal n) → AreLines (base_line n) ((codes "X-Purge-Base: " ++ decimal n) ∷ [] ∷ [])
base_lines n is = record { some = λ e. cc; each = two_lines (codes "X-Purge-Base: ") plain_base n is; parts = refl }

the_value : (ds : List ℕ) → value_in (line_name PurgeNumber) (codes "X-Purge-Number: " ++ ds) ≡ Some (trim_end (trim_front (32 ∷ ds)))
unfolding value_in
the_value ds =
    let within : nat_lt 14 (length (codes "X-Purge-Number: " ++ ds)) ≡ true = grind arith in
    ap (λ b. cond (is_none {T = ℕ} (cond b (Some 14) None)) None (Some (trim_end (trim_front (32 ∷ ds))))) within

base_value : (ds : List ℕ) → value_in (line_name PurgeBase) (codes "X-Purge-Base: " ++ ds) ≡ Some (trim_end (trim_front (32 ∷ ds)))
unfolding value_in
base_value ds =
    let within : nat_lt 12 (length (codes "X-Purge-Base: " ++ ds)) ≡ true = grind arith in
    ap (λ b. cond (is_none {T = ℕ} (cond b (Some 12) None)) None (Some (trim_end (trim_front (32 ∷ ds))))) within

abbrev no_text : Option (List ℕ)
no_text = None

-- a line of the other kind has no value
other_base : (ds : List ℕ) → value_in (line_name PurgeBase) (codes "X-Purge-Number: " ++ ds) ≡ None
unfolding value_in
other_base ds =
    let within : nat_lt 14 (length (codes "X-Purge-Number: " ++ ds)) ≡ true = grind arith in
    ap (λ b. cond (is_none {T = ℕ} (cond b (Some 14) None)) no_text no_text) within

other_number : (ds : List ℕ) → value_in (line_name PurgeNumber) (codes "X-Purge-Base: " ++ ds) ≡ None
unfolding value_in
other_number ds =
    let within : nat_lt 12 (length (codes "X-Purge-Base: " ++ ds)) ≡ true = grind arith in
    ap (λ b. cond (is_none {T = ℕ} (cond b (Some 12) None)) no_text no_text) within

no_value : value_in (line_name PurgeNumber) [] ≡ None
unfolding value_in
no_value = refl

no_base : value_in (line_name PurgeBase) [] ≡ None
unfolding value_in
no_base = refl

-- the values of a line and of the empty line behind it
values_of : (name line : List ℕ) (o : Option (List ℕ)) → value_in name line ≡ o → value_in name [] ≡ None → filter_map (value_in name) (line ∷ [] ∷ [])
    ≡ cons_option o []
values_of name line o is none = ap (λ p. cons_option p (filter_map (value_in name) ([] ∷ []))) is ∙ ap (λ p. cons_option o (cons_option p [])) none

-- The number

good_front : (n : ℕ) → IsWritten n (decimal n) → ((nat_eq (length (decimal n)) 1) || not (nat_eq (slice_index (decimal n) 0) 48)) ≡ true
good_front n is = elim (dec_lt n 10) [
  | yes small ↦ or_left (nat_eq (length (decimal n)) 1) (not (nat_eq (slice_index (decimal n) 0) 48)) (ap (λ k. nat_eq k 1) (is.alone small))
  | no big ↦ or_true (nat_eq (length (decimal n)) 1) (not (nat_eq (slice_index (decimal n) 0) 48)) (ap not (is.front (omega (arith, big))))
]

all_five : (a b c d e : Bool) → a ≡ true → b ≡ true → c ≡ true → d ≡ true → e ≡ true → (a && b && c && d && e) ≡ true
all_five a b c d e h i j k l = cc

below : (n m : ℕ) → n ≡ m → m ≤ 4294967295 → nat_lt n (2 ^ 32) ≡ true
below n m e small = grind (arith, e, small)

good_number : (n : ℕ) → n ≤ 4294967295 → IsWritten n (decimal n) → is_number (decimal n) ≡ true
good_number n small is =
    let digits = same_digit_tests (decimal n) ∙ digits_decimal numerals n (omega arith) in
    let value = digits_value-decimal numerals n (omega arith) in
    let few = length-decimal-le 10 n (omega arith) (omega arith) (omega arith) in
    all_five (nat_lt 0 (length (decimal n))) (nat_le (length (decimal n)) 10) (list_all is_ascii_digit (decimal n))
    ((nat_eq (length (decimal n)) 1) || not (nat_eq (slice_index (decimal n) 0) 48)) (nat_lt (digits_value 10 (decimal n)) (2 ^ 32))
    (grind (arith, is.some)) (grind (arith, few)) digits (good_front n is) (below (digits_value 10 (decimal n)) n value small)

value_read : (n : ℕ) → n ≤ 4294967295 → IsWritten n (decimal n) → number_of_values (decimal n ∷ []) ≡ Ok (Some n)
value_read n small is =
    ap (λ b. cond b (Ok (Some (digits_value 10 (decimal n)))) (number_of_values (decimal n ∷ decimal n ∷ []))) (good_number n small is)
    ∙ ap (λ k. Ok (Some k)) (digits_value-decimal numerals n (omega arith))

module _ (n : ℕ) (small : n ≤ 4294967295) where
  all_written : IsWritten n (decimal n)
  all_written = let big : n < 2 ^ 64 = omega arith in written n big

  the_number : number_of_values (trim_end (trim_front (32 ∷ decimal n)) ∷ []) ≡ Ok (Some n)
  the_number = ap (λ value. number_of_values (value ∷ [])) (trimmed (decimal n) n all_written) ∙ value_read n small all_written

  pub number_read : number_in_text (number_line n) PurgeNumber ≡ Ok (Some n)
  number_read =
      ap (λ lines. number_of_values (filter_map (value_in (line_name PurgeNumber)) lines))
      (sym (lines_alone (number_line n) ((codes "X-Purge-Number: " ++ decimal n) ∷ [] ∷ []) (the_lines n all_written)))
      ∙ ap number_of_values (values_of (line_name PurgeNumber) (codes "X-Purge-Number: " ++ decimal n) (Some (trim_end (trim_front (32 ∷ decimal n))))
      (the_value (decimal n)) no_value)
      ∙ the_number

  -- the CLR of a purge has no line of an admission
  pub number_alone : number_in_text (number_line n) PurgeBase ≡ Ok None
  number_alone =
      ap (λ lines. number_of_values (filter_map (value_in (line_name PurgeBase)) lines))
      (sym (lines_alone (number_line n) ((codes "X-Purge-Number: " ++ decimal n) ∷ [] ∷ []) (the_lines n all_written)))
      ∙ ap number_of_values (values_of (line_name PurgeBase) (codes "X-Purge-Number: " ++ decimal n) None (other_base (decimal n)) no_base)

  pub base_read : number_in_text (base_line n) PurgeBase ≡ Ok (Some n)
  base_read =
      ap (λ lines. number_of_values (filter_map (value_in (line_name PurgeBase)) lines))
      (sym (lines_alone (base_line n) ((codes "X-Purge-Base: " ++ decimal n) ∷ [] ∷ []) (base_lines n all_written)))
      ∙ ap number_of_values (values_of (line_name PurgeBase) (codes "X-Purge-Base: " ++ decimal n) (Some (trim_end (trim_front (32 ∷ decimal n))))
      (base_value (decimal n)) no_base)
      ∙ the_number

  -- the CLR of an admission has no line of a purge
  pub base_alone_read : number_in_text (base_line n) PurgeNumber ≡ Ok None
  base_alone_read =
      ap (λ lines. number_of_values (filter_map (value_in (line_name PurgeNumber)) lines))
      (sym (lines_alone (base_line n) ((codes "X-Purge-Base: " ++ decimal n) ∷ [] ∷ []) (base_lines n all_written)))
      ∙ ap number_of_values (values_of (line_name PurgeNumber) (codes "X-Purge-Base: " ++ decimal n) None (other_number (decimal n)) no_value)

all_three : (a b c : Bool) → a ≡ true → b ≡ true → c ≡ true → (a && b && c) ≡ true
all_three a b c h i j = cc

at_least_one : (n : ℕ) → 1 ≤ n → nat_le 1 n ≡ true
at_least_one n positive = grind (arith, positive)

-- what the CLR of a number raises
abbrev pub raise_of : ℕ → Given → Raise
raise_of number (OfPurge key) = Floor key number
raise_of number (OfAdmission id) = Base number

pub number_of_raised : (number : ℕ) (given : Given) → number_of (raise_of number given) ≡ number
number_of_raised number (OfPurge key) = refl
number_of_raised number (OfAdmission id) = refl

module _ (h : Tables) (id number : ℕ) (from : Address) (master : is_master h from ≡ true) (positive : 1 ≤ number) (small : number ≤ 4294967295) where
  masters_number : is_masters (setting h id) from number number ≡ true
  masters_number = all_three (is_master h from) (nat_eq number number) (nat_le 1 number) master (same_id number) (at_least_one number positive)

  -- the master's CLR brings the raise of its number
  pub clear_is_raise : (given : Given) → IsOfUrl given → raise_in_message (setting h id) from (message.Htcp (clear_of number given)) ≡ Some
      (raise_of number given)
  clear_is_raise (OfPurge key) is_key =
      ap (λ line. raise_by_lines (setting h id) from number (key_of key) (number_in_text (number_line number) PurgeNumber) line) (number_alone number small)
      ∙ ap (λ o. purge_by_line (setting h id) from number o (number_in_text (number_line number) PurgeNumber)) (own_key h key is_key)
      ∙ ap (λ line. purge_by_line (setting h id) from number (Some key) line) (number_read number small)
      ∙ ap (λ b. cond b (Some (Floor key number)) None) masters_number
  clear_is_raise (OfAdmission who) is_key =
      ap (λ line. raise_by_lines (setting h id) from number (key_of []) (number_in_text (base_line number) PurgeNumber) line) (base_read number small)
      ∙ ap (λ line. base_alone (setting h id) from number number line) (base_alone_read number small)
      ∙ ap (λ b. cond b (Some (Base number)) None) masters_number
