-- When a text begins with a value, when more bytes are wanted, and when none can help.
use Rattle.std.specs.Prelude.{◌≡◌, ℕ, List, [], ◌∷◌, ◌++◌, Some}
use Rattle.resp_value.specs.Data.{Data}
use Rattle.resp_value.specs.View.{data_of}
use Rattle.resp_value.specs.declared.value.Value.{Value}
use Rattle.resp_read.specs.Grammar.{value_within}
use Rattle.resp_read.specs.Limits.{bounds, default_limits}
use Rattle.resp_read.specs.declared.limits.Limits.{Limits}

-- within these limits the grammar reads that value at the front of the text, and leaves this
abbrev pub ReadsWithin : Limits → List ℕ → Data → List ℕ → Type 0
ReadsWithin limits bytes v rest = value_within (bounds limits) limits.depth bytes ≡ Some (v, rest)

-- some continuation begins with a value, and the text itself with none
abbrev pub IsProperPrefixWithin : Limits → List ℕ → Type 0
IsProperPrefixWithin limits bytes = ((m : List ℕ) × (v : Data) × (rest : List ℕ) × ReadsWithin limits (bytes ++ m) v rest) × ((v : Data) (rest : List ℕ) → ReadsWithin limits bytes v rest → ⊥)

-- no continuation begins with a value
abbrev pub IsMalformedWithin : Limits → List ℕ → Type 0
IsMalformedWithin limits bytes = (m : List ℕ) (v : Data) (rest : List ℕ) → ReadsWithin limits (bytes ++ m) v rest → ⊥

-- these values stand one after another at the front of a text, and this is left behind them
abbrev pub ReadsEachWithin : Limits → List ℕ → List Value → List ℕ → Type 0
ReadsEachWithin limits bytes [] rest = bytes ≡ rest
ReadsEachWithin limits bytes (v ∷ vs) rest = (mid : List ℕ) × ReadsWithin limits bytes (data_of v) mid × ReadsEachWithin limits mid vs rest

-- the same within the limits of a reader that is asked for no others
abbrev pub Reads : List ℕ → Data → List ℕ → Type 0
Reads = ReadsWithin default_limits

abbrev pub IsProperPrefix : List ℕ → Type 0
IsProperPrefix = IsProperPrefixWithin default_limits

abbrev pub IsMalformed : List ℕ → Type 0
IsMalformed = IsMalformedWithin default_limits
