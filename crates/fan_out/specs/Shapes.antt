-- The shapes of the values that a policy takes, and what such values hold.
use Rattle.std.specs.Prelude.{ℕ, ◌==◌, ◌&&◌, Bool, true, false, not, List, [], ◌∷◌, length, Option}
use Rattle.std.specs.List.{find, list_all}
use Rattle.resp_value.specs.Data.{Data, int, bulk}
use Rattle.resp_value.specs.View.{data_of}
use Rattle.resp_value.specs.declared.value.Value.{Value}
use Rattle.resp_value.specs.declared.value.Value.TheVariants as value
use Rattle.fan_out.specs.declared.shape.Shape.{Shape}
use Rattle.fan_out.specs.declared.shape.Shape.TheVariants as shape

-- the elements of an array; of another value none
abbrev pub elements : Value → List Data
elements (value.Array ds) = ds
elements v = []

abbrev pub is_array : Value → Bool
is_array (value.Array ds) = true
is_array v = false

abbrev pub is_integer : Data → Bool
is_integer (int n) = true
is_integer d = false

abbrev pub is_name : Data → Bool
is_name (bulk t) = true
is_name d = false

-- an array of so many integers
abbrev pub are_integers : ℕ → Value → Bool
are_integers count v = is_array v && length (elements v) == count && list_all is_integer (elements v)

-- a name and a number
abbrev pub is_count : Data → Data → Bool
is_count name number = is_name name && is_integer number

-- names and numbers by turns
abbrev pub are_by_turns : List Data → Bool
are_by_turns [] = true
are_by_turns (name ∷ []) = false
are_by_turns (name ∷ number ∷ rest) = is_count name number && are_by_turns rest

-- a map from names to numbers, or an array that has them by turns
abbrev pub are_counts : Value → Bool
are_counts (value.Map ps) = list_all (λ p. is_count p.0 p.1) ps
are_counts (value.Array ds) = are_by_turns ds
are_counts v = false

abbrev pub fits : Shape → Value → Bool
fits shape.Integer v = is_integer (data_of v)
fits (shape.Integers count) v = are_integers count v
fits shape.Array v = is_array v
fits shape.Counts v = are_counts v

-- the first value that is of another shape
abbrev pub misfit : Shape → List Value → Option Value
misfit shape values = find (λ v. not (fits shape v)) values
