-- What a reader knows of a line that has not ended, so that it looks at none of its bytes again.
use Rattle.std.specs.Prelude.{◌≡◌, ℕ, ◌≤◌, ◌<◌, Bool, true, false, List, length, get_or, take, Option, Some, None}
use Rattle.resp_read.specs.Parser.{unended, line}
use Rattle.resp_read.specs.Digits.{digits_run, AreKept}
use Rattle.resp_read.specs.Doubles.{run}
use Rattle.resp_read.specs.declared.digits.Digits.TheVariants.{Empty}
use Rattle.resp_read.specs.declared.decimals.Seen.TheVariants.{Nothing}
use Rattle.resp_read.specs.declared.waiting.Front.{Front}
use Rattle.resp_read.specs.declared.waiting.Front.TheVariants.{Text, Numeral, Double}
use Rattle.resp_read.specs.declared.waiting.Looked.{Looked}

-- what was read of these bytes
abbrev pub IsFrontOf : Front → List ℕ → Type 0
IsFrontOf Text l = Unit {0}
IsFrontOf (Numeral d) l = (d ≡ digits_run Empty l) × AreKept d
IsFrontOf (Double s) l = s ≡ run Nothing l

-- so many bytes of this text were looked at: they end no line, and this was read of them
pub record IsLooked (looked : Looked) (l : List ℕ) : Type 0 where
  pub fits : looked.count ≤ length l
  pub unended : line (take looked.count l) ≡ unended (take looked.count l)
  pub front : IsFrontOf looked.front (take looked.count l)

-- what is known of a line that was looked at whole, where it can become what is asked for
abbrev pub IsJudged : Bool → List ℕ → Option Front → Type 0
IsJudged begun l None = begun ≡ false
IsJudged begun l (Some front) = (begun ≡ true) × IsFrontOf front l

-- no CR stands in the first i bytes
abbrev pub IsClear : ℕ → List ℕ → Type 0
IsClear i l = line (take i l) ≡ unended (take i l)

-- the first CR stands behind i bytes
abbrev pub IsReturn : ℕ → List ℕ → Type 0
IsReturn i l = IsClear i l × (i < length l) × (get_or l i 0 ≡ 13)
