-- Which values are items: those that a link gives to its messages.
use Rattle.std.specs.Prelude.{ℕ, List, [], ◌∷◌, if◌then◌else◌}
use Rattle.resp_value.specs.Data.{Data}
use Rattle.resp_value.specs.Kinds.{is_item}
use Rattle.resp_read.specs.Values.{values}

-- the items among these values
abbrev pub items_among : List Data → List Data
items_among [] = []
items_among (v ∷ vs) = if is_item v then v ∷ items_among vs else items_among vs

-- the items among the values that stand one after another at the front of a text
unfoldable pub items : List ℕ → List Data
items bs = items_among (values bs)
