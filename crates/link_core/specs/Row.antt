-- The started messages that take more items.
use Rattle.std.specs.Prelude.{ℕ, ◌+◌, ◌-◌, ◌==◌, Bool, false, List, [], ◌∷◌, length}
use Rattle.driver_model.specs.Shape.{need_of}
use Rattle.link_core.specs.declared.message.Entry.{Entry}
use Rattle.link_core.specs.First.{first_replaced}

abbrev pub silent : Entry → Entry
silent e = record e { awaited = false }

abbrev pub is_entry_of : ℕ → Entry → Bool
is_entry_of id e = e.id == id

-- the verdict of that message is not wanted any more; it stays where it is, and takes its items
abbrev pub silenced : List Entry → ℕ → List Entry
silenced row id = first_replaced (is_entry_of id) (λ e. silent e ∷ []) row

-- how many more items a message takes
abbrev pub lack_of : Entry → ℕ
lack_of e = need_of e.shape - length e.got

-- how many more items the messages of a row take together
abbrev pub lack_of_row : List Entry → ℕ
lack_of_row [] = 0
lack_of_row (e ∷ es) = lack_of e + lack_of_row es
