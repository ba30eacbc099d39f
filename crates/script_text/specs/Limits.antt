-- Whether a text, or what has come of it, keeps the limits of scripts.
use Rattle.std.specs.Prelude.{◌≡◌, ℕ, ◌+◌, ◌-◌, Bool, ◌&&◌, nat_le, min, List, [], ◌∷◌, ◌++◌, length, IsErr, if◌then◌else◌}
use Rattle.std.specs.List.{list_all}
use Rattle.script_text.specs.declared.intake.Tally.{Tally}
use Rattle.script_text.specs.Words.{parts}
use Rattle.script_text.specs.Script.{max_lines, max_line, max_text, script_of}

-- the last of them
abbrev pub last_of : List (List ℕ) → List ℕ
last_of [] = []
last_of (last ∷ []) = last
last_of (line ∷ next ∷ rest) = last_of (next ∷ rest)

-- the lines of which a byte has come: those that an LF ends, and what no LF ends if it has a byte
abbrev pub lines_begun : List (List ℕ) → ℕ
lines_begun lines = (length lines - 1) + min 1 (length (last_of lines))

-- the line is no longer than lines may be
abbrev pub is_short : List ℕ → Bool
is_short line = nat_le (length line) max_line

-- no byte stands beyond a limit
unfoldable pub keeps_limits : List ℕ → Bool
keeps_limits text = nat_le (length text) max_text && list_all is_short (parts 10 text) && nat_le (lines_begun (parts 10 text)) max_lines

-- a text with more bytes behind it, up to the first that stands beyond a limit
abbrev pub limited : List ℕ → List ℕ → List ℕ
limited text [] = text
limited text (b ∷ more) = if keeps_limits text then limited (text ++ b ∷ []) more else text

-- whatever comes behind the whole, it is at fault in the line in which what is kept of it is
pub record IsRefused (whole kept : List ℕ) : Type 0 where
  pub same : (left : List ℕ) → script_of (whole ++ left) ≡ script_of kept
  pub fault : IsErr (script_of kept)

-- no byte stands beyond a limit, by counts
abbrev pub is_within : Tally → Bool
is_within tally = nat_le tally.bytes max_text && nat_le tally.line max_line && nat_le (tally.lines + min 1 tally.line) max_lines

-- counts over a text in which no line but the last is too long
pub record Counts (tally : Tally) (text : List ℕ) : Type 0 where
  pub bytes : tally.bytes ≡ length text
  pub lines : tally.lines ≡ length (parts 10 text) - 1
  pub line : tally.line ≡ length (last_of (parts 10 text))
  pub short : list_all is_short (parts 10 text) ≡ is_short (last_of (parts 10 text))
