-- Elements of several arrays, each at the place of its key.
use Rattle.std.specs.Borrow.{Bor}
use Rattle.std.specs.Prelude.{ℕ, ◌==◌, ◌&&◌, Bool, not, List, [], ◌∷◌, length, Option, replicate, slice_set}
use Rattle.std.specs.Option.{option_map}
use Rattle.std.specs.List.{find, flat_map, zip}
use Rattle.command_table.specs.declared.routing.Route.{Route}
use Rattle.resp_value.specs.Data.{Data, nil}
use Rattle.resp_value.specs.View.{data_of}
use Rattle.resp_value.specs.declared.value.Value.{Value}
use Rattle.fan_out.specs.Shapes.{elements, is_array}

-- a part's route with the places of its keys, and the part's value
abbrev pub Row : Type 0
Row = (Route × List ℕ) × Value

-- an array with an element for each key
abbrev pub has_its_elements : List ℕ → Value → Bool
has_its_elements indices v = is_array v && length (elements v) == length indices

-- the first value that is none
abbrev pub misfit_of_keys : List Row → Option Value
misfit_of_keys rows = option_map (λ r. r.1) (find (λ r. not (has_its_elements r.0.1 r.1)) rows)

-- the elements of all parts, each with the place of its key
abbrev pub keyed : List Row → List (ℕ × Data)
keyed rows = flat_map (λ r. zip r.0.1 (elements r.1)) rows

-- each element put in its place
abbrev pub each_put : List Data → List (ℕ × Data) → List Data
each_put row [] = row
each_put row (e ∷ es) = each_put (slice_set row e.0 e.1) es

-- the elements of all parts, each at the place of its key
abbrev pub of_keys : List Row → List Data
of_keys rows = each_put (replicate (length (keyed rows)) nil) (keyed rows)

-- what is lent, with the place of its key
abbrev pub element_now : ℕ × Bor Value → ℕ × Data
element_now e = (e.0, data_of e.1.now)
