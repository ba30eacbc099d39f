-- What a source of credentials gives.
use Rattle.std.specs.Prelude.{◌≡◌, ℕ, List, [], ◌∷◌, Option, Some}
use Rattle.credentials.specs.Credentials.{Credentials}
use Rattle.credentials.specs.declared.streaming.CredsItem.{CredsItem}
use Rattle.credentials.specs.declared.streaming.CredsItem.TheVariants.{Item, Error, End, NoMemory}

-- what comes before the end of a source: credentials, or the text of an error
pub data Told : Type 0 where
  credentials : Credentials → Told
  failure : List ℕ → Told

-- what is left after an item, of what was to come: an item is the first, the end comes where nothing is to come, and want
-- of memory changes nothing
abbrev pub left_after : List Told → CredsItem → List Told → Type 0
left_after coming (Item auth) left = coming ≡ credentials auth ∷ left
left_after coming (Error text) left = coming ≡ failure text ∷ left
left_after coming End left = (coming ≡ []) × (left ≡ [])
left_after coming NoMemory left = left ≡ coming

-- a source that tells what is still to come gives it in order
pub record Gave (old new : Option (List Told)) (item : CredsItem) : Type 0 where
  pub rest : (coming : List Told) → old ≡ Some coming → (left : List Told) × (new ≡ Some left) × left_after coming item left
