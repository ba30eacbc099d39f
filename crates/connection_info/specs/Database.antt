-- The database that the path of a URL chooses.
use Rattle.std.specs.Prelude.{ℕ, ℤ, pos, ◌==◌, ◌&&◌, nat_le, List, [], ◌∷◌, Option, Some, None, option_map, if◌then◌else◌}
use Rattle.std.specs.Str.{all_ascii_digits, byte}
use Rattle.std.specs.Str.Parse.{digits_value}

-- 2 ^ 63 - 1
abbrev pub greatest_database : ℕ
greatest_database = 9_223_372_036_854_775_807

-- the number that some digits are, none of them being 0
abbrev pub number_of : List ℕ → Option ℕ
number_of digits =
    if all_ascii_digits digits && nat_le (digits_value 10 digits) greatest_database
    then Some (digits_value 10 digits)
    else None

-- an empty path is 0, and else a slash comes first and digits follow, if any
abbrev pub database_of : List ℕ → Option ℤ
database_of [] = Some (pos 0)
database_of (first ∷ digits) = if first == byte "/" then option_map pos (number_of digits) else None
