-- Which message gets an item, what it comes to, and what is told of values that come.
use Rattle.std.specs.Prelude.{ℕ, ◌==◌, nat_lt, Bool, true, false, ◌||◌, not, List, [], ◌∷◌, ◌++◌, length, Option, Some, None, if◌then◌else◌}
use Rattle.resp_value.specs.Data.{Data}
use Rattle.driver_model.specs.Hearing.{Taking, taking}
use Rattle.driver_model.specs.Shape.{need_of, verdict_of}
use Rattle.driver_model.specs.declared.hearing.Hearing.{Hearing}
use Rattle.driver_model.specs.declared.hearing.Notice.{Notice}
use Rattle.link_core.specs.declared.message.Entry.{Entry}
use Rattle.link_core.specs.declared.message.Settled.{Settled}
use Rattle.link_core.specs.declared.message.NoticeAt.{NoticeAt}

-- a row of started messages, the messages that were settled, what is to be told, each behind as many settled messages as there
-- were, and whether a value came that ends the link
pub record Dealing : Type 0 where
  pub row : List Entry
  pub out : List Settled
  pub notices : List NoticeAt
  pub strange : Bool

-- this row, of which nothing was dealt so far
abbrev pub dealing_with : List Entry → Dealing
dealing_with row = record { row = row; out = []; notices = []; strange = false }

-- and this one, with what was settled and told so far
abbrev pub dealing_on : List Entry → List Settled → List NoticeAt → Bool → Dealing
dealing_on row out notices strange = record { row = row; out = out; notices = notices; strange = strange }

abbrev pub with_item : Entry → Data → Entry
with_item e item = record e { got = e.got ++ item ∷ [] }

-- the verdict of a full entry, if it is awaited
abbrev pub settled_by : Entry → List Settled
settled_by e = if e.awaited then record { id = e.id; verdict = verdict_of e.shape e.got } ∷ [] else []

-- the oldest message has one item more: it takes further ones, or it is full
abbrev pub given : Dealing → Entry → List Entry → Dealing
given d e es =
    if nat_lt (length e.got) (need_of e.shape) then record d { row = e ∷ es } else record d { row = es; out = d.out ++ settled_by e }

abbrev pub dealt_to : Dealing → Data → List Entry → Dealing
dealt_to d item [] = d
dealt_to d item (e ∷ es) = given d (with_item e item) es

-- an item goes to the oldest message that takes items, and one that finds none is dropped
abbrev pub dealt : Dealing → Data → Dealing
dealt d item = dealt_to d item d.row

-- a value is dealt, or isn't
abbrev pub dealt_if : Bool → Dealing → Data → Dealing
dealt_if is d v = if is then dealt d v else d

-- some of these messages take items: each in a row does
abbrev pub is_awaiting : List Entry → Bool
is_awaiting [] = false
is_awaiting (e ∷ es) = true

-- the link is set up: it was before, or its setup was settled since
abbrev pub is_set_up_in : Bool → Dealing → Bool
is_set_up_in ready d = ready || not (length d.out == 0)

-- what becomes of a value that comes
abbrev pub taking_in : Hearing → Bool → Dealing → Data → Taking
taking_in h ready d v = taking h (is_set_up_in ready d) (is_awaiting d.row) v

-- what is told of it, behind n settled messages
abbrev pub noticed_behind : ℕ → Option Notice → List NoticeAt
noticed_behind n None = []
noticed_behind n (Some what) = record { settled = n; notice = what } ∷ []

-- a value comes, of which this becomes
abbrev pub taken_as : Dealing → Taking → Data → Dealing
taken_as d t v = dealt_if t.dealt (record d { notices = d.notices ++ noticed_behind (length d.out) t.told; strange = t.ends }) v

-- a value comes; behind one that ends the link none is taken
abbrev pub taken : Hearing → Bool → Dealing → Data → Dealing
taken h ready d v = if d.strange then d else taken_as d (taking_in h ready d v) v

-- values come, one after another
abbrev pub taken_each : Hearing → Bool → Dealing → List Data → Dealing
taken_each h ready d [] = d
taken_each h ready d (v ∷ vs) = taken_each h ready (taken h ready d v) vs
