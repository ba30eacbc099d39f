-- The items at the front of a text, one by one.
use Rattle.std.proofs.Common.{◌≡◌, ℕ, List, [], ◌∷◌, cond, ap}
use Rattle.resp_value.specs.Data.{Data}
use Rattle.resp_read.specs.Reads.{Reads}
use Rattle.resp_read.specs.Values.{values}
use Rattle.resp_read.specs.Items.{items_among, items}
use Rattle.resp_value.specs.Kinds.{is_item}
use Rattle.resp_read.proofs.ValueLaws.{values-read}

pub items-read : (bs : List ℕ) (v : Data) (r : List ℕ) → Reads bs v r → items bs ≡ cond (is_item v) (v ∷ items r) (items r)
unfolding items
items-read bs v r e = ap items_among (values-read bs v r e).0

-- where there is no value, there is no item
pub items-none : (bs : List ℕ) → values bs ≡ [] → items bs ≡ []
unfolding items
items-none bs e = ap items_among e
