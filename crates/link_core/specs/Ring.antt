-- The row of started messages as it is kept: each message with how many items were dealt once it is full.
use Rattle.std.specs.Prelude.{◌≡◌, ℕ, ◌+◌, ◌<◌, List, [], ◌∷◌, map}
use Rattle.resp_value.specs.Data.{Data}
use Rattle.link_core.specs.declared.message.Entry.{Entry}
use Rattle.link_core.specs.declared.row.Taker.{Taker}
use Rattle.link_core.specs.Dealing.{with_item}
use Rattle.link_core.specs.Row.{lack_of}

-- a message, without the count at which it is full
abbrev pub entry_in : Taker → Entry
entry_in t = t.entry

-- the messages of a row
abbrev pub entries_of : List Taker → List Entry
entries_of takers = map entry_in takers

-- so many items were dealt; each message takes more, and is full where those before it are full and what it lacks was
-- dealt; and so many were dealt once all are full
abbrev pub IsRing : ℕ → List Taker → ℕ → Type 0
IsRing dealt [] end = dealt ≡ end
IsRing dealt (t ∷ ts) end = (0 < lack_of t.entry) × (t.end ≡ dealt + lack_of t.entry) × IsRing t.end ts end

-- how many more items the oldest message takes, and 0 where there is none
abbrev pub lack_of_first : List Entry → ℕ
lack_of_first [] = 0
lack_of_first (e ∷ es) = lack_of e

-- the oldest message has one item more
abbrev pub with_first : List Entry → Data → List Entry
with_first [] item = []
with_first (e ∷ es) item = with_item e item ∷ es
