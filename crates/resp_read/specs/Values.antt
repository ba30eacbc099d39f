-- The values that stand one after another at the front of a text, and what is left behind them.
use Rattle.std.specs.Prelude.{ℕ, zero, suc, Bool, true, false, List, [], ◌∷◌, length}
use Rattle.resp_value.specs.Data.{Data}
use Rattle.resp_read.specs.Grammar.{max_depth}
use Rattle.resp_read.specs.Parser.{read, short, bad, Found, parse}

-- what was read, and those that next finds after it
abbrev pub first_and : (List ℕ → List Data) → Found Data → List Data
first_and next (read v rest) = v ∷ next rest
first_and next short = []
first_and next bad = []

-- at most n values, one after another
abbrev pub values_within : ℕ → List ℕ → List Data
values_within zero bs = []
values_within (suc n) bs = first_and (values_within n) (parse max_depth bs)

-- all the values that stand one after another at the front: no more than there are bytes, since each takes one at least
unfoldable pub values : List ℕ → List Data
values bs = values_within (length bs) bs

-- what is left after what was read, or bs where nothing was
abbrev pub past_first : (List ℕ → List ℕ) → List ℕ → Found Data → List ℕ
past_first next bs (read v rest) = next rest
past_first next bs short = bs
past_first next bs bad = bs

-- what is left after at most n of them
abbrev pub left_within : ℕ → List ℕ → List ℕ
left_within zero bs = bs
left_within (suc n) bs = past_first (left_within n) bs (parse max_depth bs)

-- what is left behind the values
unfoldable pub left_over : List ℕ → List ℕ
left_over bs = left_within (length bs) bs

-- nothing can begin there
abbrev pub is_bad : Found Data → Bool
is_bad (read v rest) = false
is_bad short = false
is_bad bad = true

-- no value can begin with what is left behind the values
unfoldable pub is_spoiled : List ℕ → Bool
is_spoiled bs = is_bad (parse max_depth (left_over bs))
