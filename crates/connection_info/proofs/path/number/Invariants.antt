use Rattle.std.proofs.Common.{◌≡◌, ◌≤◌, drop}
use Rattle.std.specs.Str.{all_ascii_digits}
use Rattle.std.specs.Str.Parse.{digits_value, digits_value_after}
use Rattle.connection_info.specs.Database.{greatest_database}
use Rattle.connection_info.proofs.path.number.Given as goal

abbrev pub invariant-loop-byte : goal.invariant-loop-byte
invariant-loop-byte l = record {
  digits : all_ascii_digits l.digits ≡ all_ascii_digits (drop l.byte-index l.digits);
  value : digits_value 10 l.digits ≡ digits_value_after 10 l.n (drop l.byte-index l.digits);
  fits : l.n ≤ greatest_database;
}
