-- Numbers in decimal, times, and switches.
use Rattle.std.specs.Prelude.{ℕ, Bool, true, false, not, ◌&&◌, ◌||◌, ◌==◌, nat_le, List, [], ◌∷◌, length, Option, Some, None, option_map, option_and_then, bytes_eq, codes, if◌then◌else◌}
use Rattle.std.specs.Str.{all_ascii_digits}
use Rattle.std.specs.Str.Parse.{digits_value}
use Rattle.script_text.specs.Words.{cut_at}

-- digits, the first of them no 0 unless it is the only one
abbrev pub is_decimal : List ℕ → Bool
is_decimal [] = false
is_decimal (d ∷ ds) = all_ascii_digits (d ∷ ds) && (not (d == 48) || length ds == 0)

-- the number that a word is, if it is one of at most that
abbrev pub number : ℕ → List ℕ → Option ℕ
number most word = if is_decimal word && nat_le (digits_value 10 word) most then Some (digits_value 10 word) else None

-- the greatest numbers of 32 and 64 bits
abbrev pub max_u32 : ℕ
max_u32 = 4_294_967_295

abbrev pub max_u64 : ℕ
max_u64 = 18_446_744_073_709_551_615

-- how long something may take: so many milliseconds, or `none` for any number
abbrev pub time_limit : List ℕ → Option (Option ℕ)
time_limit value = if bytes_eq value (codes "none") then Some None else option_map Some (number max_u64 value)

-- a numerator and a denominator, each of 32 bits
abbrev pub fraction_by : List ℕ × List ℕ → Option (ℕ × ℕ)
fraction_by parts = option_and_then (λ above. option_map (λ below. (above, below)) (number max_u32 parts.1)) (number max_u32 parts.0)

-- a fraction: its numerator, `/` and its denominator
abbrev pub fraction : List ℕ → Option (ℕ × ℕ)
fraction value = option_and_then fraction_by (cut_at 47 value)

-- whether something is on: `on` or `off`
abbrev pub switch : List ℕ → Option Bool
switch value = if bytes_eq value (codes "on") then Some true else (if bytes_eq value (codes "off") then Some false else None)
