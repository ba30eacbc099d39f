-- What stands whole in the tape behind a first byte, so that it is read in one step.
use Rattle.std.specs.Prelude.{◌≡◌, ◌≤◌, ℕ, ◌+◌, List, ◌++◌, length, take, drop, Option, Some, None, Result, Ok, Err}
use Rattle.resp_value.specs.Data.{Data}
use Rattle.resp_read.specs.Grammar.{natural}
use Rattle.resp_read.specs.Parser.{bad, Found, ended, line}
use Rattle.resp_read.specs.Limits.{bounds}
use Rattle.resp_read.specs.Stages.{head_on}
use Rattle.resp_read.specs.Places.{reached_as, IsPlace}
use Rattle.resp_read.specs.declared.limits.Limits.{Limits}
use Rattle.resp_read.specs.declared.forms.Refusal.{Refusal}
use Rattle.resp_read.specs.declared.forms.Refusal.TheVariants.{Short, Bad, NoMemory}
use Rattle.resp_read.specs.declared.frames.Begun.{Begun}
use Rattle.resp_read.specs.declared.stages.Head.{Head}
use Rattle.resp_read.specs.declared.stages.Stage.TheVariants as stage
use Rattle.resp_read.specs.declared.place.Place.{Place}

-- a line within the limit stands at the front of a text with its end, and this is left behind it
abbrev pub IsWholeLine : Limits → List ℕ → List ℕ → List ℕ → Type 0
IsWholeLine limits rest l left = (length l ≤ limits.line) × ((m : List ℕ) → line (rest ++ m) ≡ ended l (left ++ m))

-- no form has this for its line
abbrev pub IsNoLine : Limits → List ℕ → Type 0
IsNoLine limits rest = (inside : List ℕ → Found Data) (h : Head) → head_on (bounds limits) inside h (line rest) ≡ bad

-- a line of i bytes ends there within the limit, and this place is behind it; or not yet, or it has no end
abbrev pub IsEnd : Limits → List ℕ → ℕ → ℕ → Result (Option ℕ) Refusal → Type 0
IsEnd limits tape next i (Ok (Some k)) = (k ≡ next + i + 2) × (k ≤ length tape) × IsWholeLine limits (drop next tape) (take i (drop next tape)) (drop k tape)
IsEnd limits tape next i (Ok None) = Unit {0}
IsEnd limits tape next i (Err Bad) = IsNoLine limits (drop next tape)
IsEnd limits tape next i (Err Short) = ⊥
IsEnd limits tape next i (Err NoMemory) = ⊥

-- one step for LF, where it is looked at
abbrev pub EndCosts : ℕ → Result (Option ℕ) Refusal → ℕ → Type 0
EndCosts before (Ok (Some k)) after = after ≤ before + 1
EndCosts before (Ok None) after = after ≡ before
EndCosts before (Err e) after = after ≤ before + 1

-- the place is at the line of that head, and has taken what was looked at
abbrev pub IsKept : List ℕ → Head → Place → Place → Type 0
IsKept tape h old new = IsPlace tape new × (new.next ≡ old.next) × (new.stage ≡ stage.Line h)

-- a number within that limit stands there, and the place is behind its line; or the line is kept, or it is none
abbrev pub IsSize : Limits → ℕ → Head → List ℕ → Place → Result (Option ℕ) Refusal → Place → Type 0
IsSize limits most h tape old (Ok (Some n)) new = (new ≡ record old { next = new.next }) × (old.next ≤ new.next) × (new.next ≤ length tape) × (n ≤ most) × (l : List ℕ) × (natural (Some most) l ≡ Some n) × IsWholeLine limits (drop old.next tape) l (drop new.next tape)
IsSize limits most h tape old (Ok None) new = IsKept tape h old new
IsSize limits most h tape old (Err Bad) new = IsNoLine limits (drop old.next tape)
IsSize limits most h tape old (Err Short) new = ⊥
IsSize limits most h tape old (Err NoMemory) new = Unit {0}

-- what f reads on from there is what is reached, whatever bytes follow; or none can help
abbrev pub Reaches : Limits → ℕ → List ℕ → (List ℕ → Found Data) → ℕ → Result (Option Begun) Refusal → Place → Type 0
Reaches limits n tape f next (Ok o) new = (next ≤ new.next) × (new.next ≤ length tape) × ((m : List ℕ) → f (drop next tape ++ m) ≡ reached_as limits n o new.stage (drop new.next tape ++ m))
Reaches limits n tape f next (Err Short) new = ⊥
Reaches limits n tape f next (Err Bad) new = f (drop next tape) ≡ bad
Reaches limits n tape f next (Err NoMemory) new = Unit {0}
