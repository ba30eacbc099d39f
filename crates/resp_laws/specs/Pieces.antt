-- A text that comes in pieces.
use Rattle.std.specs.Prelude.{ℕ, List, [], ◌∷◌, ◌++◌}
use Rattle.resp_value.specs.Data.{Data}
use Rattle.resp_read.specs.Values.{values, left_over}

-- the pieces as one text
abbrev pub joined : List (List ℕ) → List ℕ
joined [] = []
joined (p ∷ ps) = p ++ joined ps

-- the values that are read where each piece follows what the earlier ones left over
abbrev pub piecewise : List ℕ → List (List ℕ) → List Data
piecewise left [] = []
piecewise left (p ∷ ps) = values (left ++ p) ++ piecewise (left_over (left ++ p)) ps
