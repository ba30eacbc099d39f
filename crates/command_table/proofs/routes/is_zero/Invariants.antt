use Rattle.std.proofs.Common.{◌≡◌, true, drop}
use Rattle.std.specs.Str.{all_ascii_digits}
use Rattle.std.specs.Str.Parse.{digits_value, digits_value_after}
use Rattle.command_table.proofs.routes.is_zero.Given as goal

abbrev pub invariant-loop-byte : goal.invariant-loop-byte
invariant-loop-byte l = record {
  value : digits_value 10 l.digits ≡ digits_value_after 10 0 (drop l.byte-index l.digits);
  digits : all_ascii_digits (drop l.byte-index l.digits) ≡ true;
}
