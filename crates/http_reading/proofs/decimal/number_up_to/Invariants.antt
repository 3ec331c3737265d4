use Rattle.std.proofs.Common.{◌≡◌, true, take, min}
use Rattle.std.specs.List.{list_all}
use Rattle.std.specs.Char.{is_ascii_digit}
use Rattle.std.specs.Str.Parse.{digits_value}
use Rattle.http_reading.proofs.decimal.number_up_to.Given as goal

abbrev pub invariant-loop-octet : goal.invariant-loop-octet
invariant-loop-octet l = record {
  digits : list_all is_ascii_digit (take l.octet-index l.text) ≡ true;
  value : l.number ≡ min (digits_value 10 (take l.octet-index l.text)) l.cap;
}
