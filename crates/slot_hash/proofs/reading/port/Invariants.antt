use Rattle.std.proofs.Common.{◌≡◌, ◌≤◌, drop}
use Rattle.std.specs.Str.{all_ascii_digits}
use Rattle.std.specs.Str.Parse.{digits_value, digits_value_after}
use Rattle.slot_hash.proofs.reading.port.Given as goal

abbrev pub invariant-loop-byte : goal.invariant-loop-byte
invariant-loop-byte l = record {
  digits : all_ascii_digits l.digits ≡ all_ascii_digits (drop l.byte-index l.digits);
  value : digits_value 10 l.digits ≡ digits_value_after 10 l.n (drop l.byte-index l.digits);
  fits : l.n ≤ 65_535;
}
