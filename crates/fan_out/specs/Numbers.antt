-- Sums, least numbers, and rows of answers.
use Rattle.std.specs.Prelude.{ℕ, ℤ, pos, ◌+ℤ◌, int_lt, Bool, false, List, [], ◌∷◌, length, map, Option, Some, fold, slice_get, if◌then◌else◌}
use Rattle.std.specs.Int.{int_min}
use Rattle.std.specs.List.{list_all, range_with_len, reduce}
use Rattle.resp_value.specs.Data.{Data, int}
use Rattle.resp_value.specs.declared.value.Value.{Value}
use Rattle.resp_value.specs.declared.value.Value.TheVariants as value
use Rattle.fan_out.specs.Shapes.{elements}

-- the number that a value is; of another value 0
abbrev pub number : Value → ℤ
number (value.Int n) = n
number v = pos 0

abbrev pub sum_of : List ℤ → ℤ
sum_of ns = fold ◌+ℤ◌ (pos 0) ns

-- the least of the numbers that these values are
abbrev pub least : List Value → Option ℤ
least values = reduce int_min (map number values)

-- how many elements the first value has
abbrev pub width : List Value → ℕ
width [] = 0
width (v ∷ vs) = length (elements v)

abbrev pub is_positive : Option Data → Bool
is_positive (Some (int n)) = int_lt (pos 0) n
is_positive d = false

-- the element at a place is above 0
abbrev pub above_at : ℕ → Value → Bool
above_at place v = is_positive (slice_get (elements v) place)

-- at each place 1 where each value has a number above 0 there, and else 0
abbrev pub all_above : List Value → List Data
all_above values = map (λ place. int (if list_all (above_at place) values then pos 1 else pos 0)) (range_with_len 0 (width values))
