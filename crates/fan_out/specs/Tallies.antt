-- What is counted under names, over several values.
use Rattle.std.specs.Borrow.{Bor}
use Rattle.std.specs.Prelude.{ℕ, ℤ, pos, List, [], ◌∷◌, ◌++◌, map, bytes_eq, unwrap_or, if◌then◌else◌}
use Rattle.std.specs.Int.{saturate_signed, w64}
use Rattle.std.specs.List.{flat_map}
use Rattle.std.specs.BTreeMap.{is_at}
use Rattle.std.specs.BTreeSet.{insert_key}
use Rattle.std.specs.Map.{lookup}
use Rattle.std.specs.Cmp.Lexicographic.{slice_cmp}
use Rattle.std.specs.Ordering.{nat_cmp}
use Rattle.std.specs.declared.cmp.Ordering.{Ordering}
use Rattle.resp_value.specs.Data.{Data, int, bulk}
use Rattle.resp_value.specs.declared.value.Value.{Value}
use Rattle.resp_value.specs.declared.value.Value.TheVariants as value
use Rattle.fan_out.specs.Numbers.{sum_of}

-- a name, and a number of what is counted under it
abbrev pub Count : Type 0
Count = List ℕ × ℤ

-- a byte string and an integer are a count
abbrev pub counts_of : Data → Data → List Count
counts_of (bulk name) (int n) = (name, n) ∷ []
counts_of name number = []

-- names and numbers by turns
abbrev pub counts_by_turns : List Data → List Count
counts_by_turns [] = []
counts_by_turns (name ∷ []) = []
counts_by_turns (name ∷ number ∷ rest) = counts_of name number ++ counts_by_turns rest

-- the counts of a map, or of an array that has names and numbers by turns
abbrev pub counts_in : Value → List Count
counts_in (value.Map ps) = flat_map (λ p. counts_of p.0 p.1) ps
counts_in (value.Array ds) = counts_by_turns ds
counts_in v = []

-- the order of names by their bytes
abbrev pub byte_order : List ℕ → List ℕ → Ordering
byte_order = slice_cmp nat_cmp

-- names in byte order, with those of these counts
abbrev pub names_with : List (List ℕ) → List Count → List (List ℕ)
names_with names [] = names
names_with names (c ∷ cs) = names_with (insert_key byte_order names c.0) cs

-- the number of a count, if it is of this name
abbrev pub number_for : List ℕ → Count → ℤ
number_for name c = if bytes_eq c.0 name then c.1 else pos 0

-- the sum of the numbers of a name
abbrev pub sum_for : List ℕ → List Count → ℤ
sum_for name counts = sum_of (map (number_for name) counts)

-- the names of these counts in byte order, each once, with the sum of its numbers
abbrev pub tally : List Count → List Count
tally counts = map (λ name. (name, sum_for name counts)) (names_with [] counts)

-- a count as a key with its value, as far as 64 bits reach
abbrev pub shown : Count → Data × Data
shown c = (bulk c.0, int (saturate_signed w64 c.1))

-- the sums of the counts of these values
abbrev pub summed : List Value → List (Data × Data)
summed values = map shown (tally (flat_map counts_in values))

-- the number of a name in a tally; of a name that isn't there 0
abbrev pub number_of : List ℕ → List Count → ℤ
number_of name counts = unwrap_or (lookup (is_at (byte_order name)) counts) (pos 0)

-- a count whose name is lent
abbrev pub count_now : Bor (List ℕ) × ℤ → Count
count_now c = (c.0.now, c.1)
