-- Where a reader is in its tape, and how it goes on from there.
use Rattle.std.specs.Prelude.{◌≡◌, ◌≤◌, ◌<◌, ℕ, ◌+◌, ◌-◌, ◌*◌, Bool, true, false, nat_le, List, [], ◌++◌, length, take, drop, Option, Some, None, Result, Ok, Err}
use Rattle.resp_value.specs.Data.{Data}
use Rattle.resp_value.specs.View.{data_of}
use Rattle.resp_value.specs.declared.value.Value.{Value}
use Rattle.resp_read.specs.Parser.{read, short, bad, Found, line, unended}
use Rattle.resp_read.specs.Limits.{bounds, reading}
use Rattle.resp_read.specs.Waiting.{IsFrontOf}
use Rattle.resp_read.specs.Frames.{begun_as, within}
use Rattle.resp_read.specs.Stages.{head_on, follow_as, after_feed, stage_as, IsFollow, IsStage}
use Rattle.resp_read.specs.declared.limits.Limits.{Limits}
use Rattle.resp_read.specs.declared.forms.Refusal.{Refusal}
use Rattle.resp_read.specs.declared.forms.Refusal.TheVariants.{Short, Bad, NoMemory}
use Rattle.resp_read.specs.declared.frames.Frame.{Frame}
use Rattle.resp_read.specs.declared.frames.Begun.{Begun}
use Rattle.resp_read.specs.declared.stages.Head.{Head}
use Rattle.resp_read.specs.declared.stages.Follow.{Follow}
use Rattle.resp_read.specs.declared.stages.Want.TheVariants as want
use Rattle.resp_read.specs.declared.stages.Stage.{Stage}
use Rattle.resp_read.specs.declared.stages.Stage.TheVariants as stage
use Rattle.resp_read.specs.declared.place.Taken.{Taken}
use Rattle.resp_read.specs.declared.place.Place.{Place}

-- so many bytes are too few for the next step, where that is no line
abbrev pub is_too_few : ℕ → Stage → Bool
is_too_few n stage.First = nat_le n 0
is_too_few n (stage.Line h) = false
is_too_few n (stage.End f) = nat_le n 0
is_too_few n (stage.Want (want.Body part k)) = nat_le n k
is_too_few n (stage.Want (want.Format k)) = nat_le n 3
is_too_few n (stage.Want (want.Kind k)) = nat_le n 0

-- a line is read
abbrev pub is_line : Stage → Bool
is_line stage.First = false
is_line (stage.Line h) = true
is_line (stage.End f) = false
is_line (stage.Want w) = false

-- what was taken of a line stands at the front of the text, and is known
pub record IsTaken (t : Taken) (rest : List ℕ) : Type 0 where
  pub taken : t.text.items ≡ take (length t.text.items) rest
  pub clear : line t.text.items ≡ unended t.text.items
  pub known : IsFrontOf t.front t.text.items

-- what follows the line at the front of a text, once its CR has come; or it goes on, and all of it was taken
abbrev pub PassesLine : Limits → Head → List ℕ → Result Follow Refusal → Taken → Type 0
PassesLine limits h rest (Ok f) t = IsFollow f × (length t.text.items < length rest) × ((inside : List ℕ → Found Data) (m : List ℕ) → head_on (bounds limits) inside h (line (rest ++ m)) ≡ after_feed (follow_as (bounds limits) inside f) (drop (length t.text.items + 1) rest ++ m))
PassesLine limits h rest (Err Short) t = IsTaken t rest × (t.text.items ≡ rest) × ((inside : List ℕ → Found Data) → head_on (bounds limits) inside h (line rest) ≡ short)
PassesLine limits h rest (Err Bad) t = (inside : List ℕ → Found Data) → head_on (bounds limits) inside h (line rest) ≡ bad
PassesLine limits h rest (Err NoMemory) t = Unit {0}

-- two steps for each byte that is taken, and one for CR
abbrev pub LineCosts : List ℕ → Taken → ℕ → Result Follow Refusal → Taken → ℕ → Type 0
LineCosts rest old before (Ok f) new after = after + 2 * length old.text.items ≤ before + 2 * length new.text.items + 1
LineCosts rest old before (Err e) new after = after + 2 * length old.text.items ≤ before + 2 * length rest

-- the place stands in the tape, with what was taken of the line there
pub record IsPlace (tape : List ℕ) (p : Place) : Type 0 where
  pub fits : p.next + length p.line.text.items ≤ length tape
  pub taken : IsTaken p.line (drop p.next tape)
  pub stage : IsStage p.stage
  pub alone : is_line p.stage ≡ false → p.line.text.items ≡ []

-- how far it has looked
abbrev pub seen : Place → ℕ
seen p = p.next + length p.line.text.items

-- what is read from there on: a value begins to be made, or the next stage
abbrev pub reached_as : Limits → ℕ → Option Begun → Stage → List ℕ → Found Data
reached_as limits n (Some b) s bs = begun_as (reading limits (n - 1)) b bs
reached_as limits n None s bs = stage_as limits n s bs

-- a step onwards from a stage that f reads on from, whatever bytes follow; or none can help
abbrev pub Goes : Limits → ℕ → List ℕ → (List ℕ → Found Data) → ℕ → Result (Option Begun) Refusal → Place → Type 0
Goes limits n tape f next (Ok o) new = (next < new.next) × (new.next ≤ length tape) × ((m : List ℕ) → f (drop next tape ++ m) ≡ reached_as limits n o new.stage (drop new.next tape ++ m))
Goes limits n tape f next (Err Short) new = ⊥
Goes limits n tape f next (Err Bad) new = f (drop next tape) ≡ bad
Goes limits n tape f next (Err NoMemory) new = Unit {0}

-- the same from a place, or more bytes are wanted
abbrev pub Advances : Limits → ℕ → List ℕ → Place → Result (Option Begun) Refusal → Place → Type 0
Advances limits n tape old (Ok o) new = Goes limits n tape (stage_as limits n old.stage) old.next (Ok o) new
Advances limits n tape old (Err Short) new = (new.next ≡ old.next) × (new.stage ≡ old.stage) × (stage_as limits n old.stage (drop old.next tape) ≡ short)
Advances limits n tape old (Err Bad) new = stage_as limits n old.stage (drop old.next tape) ≡ bad
Advances limits n tape old (Err NoMemory) new = Unit {0}

-- where it reads on, the place is one
abbrev pub StaysPlace : {A : Type 0} → List ℕ → Result A Refusal → Place → Type 0
StaysPlace tape (Ok o) new = IsPlace tape new
StaysPlace tape (Err Short) new = IsPlace tape new
StaysPlace tape (Err Bad) new = Unit {0}
StaysPlace tape (Err NoMemory) new = Unit {0}

-- two steps at most for each byte that it looks at
abbrev pub Costs : {A : Type 0} → List ℕ → Place → ℕ → Result A Refusal → Place → ℕ → Type 0
Costs tape old before (Ok o) new after = after + 2 * seen old ≤ before + 2 * seen new
Costs tape old before (Err Short) new after = after + 2 * seen old ≤ before + 2 * seen new
Costs tape old before (Err Bad) new after = after + 2 * seen old ≤ before + 2 * length tape
Costs tape old before (Err NoMemory) new after = after + 2 * seen old ≤ before + 2 * length tape

-- where a value begins to be made, the first byte of the next one is read next
abbrev pub IsAtFirst : Result (Option Begun) Refusal → Place → Type 0
IsAtFirst (Ok (Some b)) new = new.stage ≡ stage.First
IsAtFirst (Ok None) new = Unit {0}
IsAtFirst (Err e) new = Unit {0}

-- what the outermost of these aggregates is, where these bytes follow the stage in the innermost
abbrev pub resumed_at : Limits → List Frame → Stage → List ℕ → Found Data
resumed_at limits frames s bs = within limits limits.depth frames (stage_as limits (limits.depth - length frames) s bs)

-- what reading on from a place makes of the aggregates: the outermost is whole, or more bytes are wanted, or none can help
abbrev pub ReadsFrom : Limits → List ℕ → List Frame → Place → Result Value Refusal → List Frame → Place → Type 0
ReadsFrom limits tape frames old (Ok v) new p = (new ≡ []) × (p.stage ≡ stage.First) × (old.next ≤ p.next) × ((m : List ℕ) → resumed_at limits frames old.stage (drop old.next tape ++ m) ≡ read (data_of v) (drop p.next tape ++ m))
ReadsFrom limits tape frames old (Err Short) new p = (old.next ≤ p.next) × ((m : List ℕ) → resumed_at limits frames old.stage (drop old.next tape ++ m) ≡ resumed_at limits new p.stage (drop p.next tape ++ m)) × (resumed_at limits frames old.stage (drop old.next tape) ≡ short)
ReadsFrom limits tape frames old (Err Bad) new p = resumed_at limits frames old.stage (drop old.next tape) ≡ bad
ReadsFrom limits tape frames old (Err NoMemory) new p = Unit {0}
