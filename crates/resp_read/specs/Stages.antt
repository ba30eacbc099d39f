-- Where a reader is within what it reads next, and what the bytes that follow make of it.
use Rattle.std.specs.Prelude.{◌≡◌, ◌≤◌, ℕ, ◌+◌, ◌-◌, ◌*◌, Bool, true, false, ◌==◌, List, [], ◌∷◌, ◌++◌, length, drop, Option, Some, None, Result, Ok, Err, if◌then◌else◌}
use Rattle.resp_value.specs.Data.{Data, bulk, verbatim}
use Rattle.resp_value.specs.Kinds.{kind_of}
use Rattle.resp_read.specs.Grammar.{Limits as GrammarLimits, error_of, max_bulk}
use Rattle.resp_read.specs.Parser.{read, short, bad, Found, found_and_then, Line, ended, held, unended, line, line_found, size_line, count_line, text_line, bulk_of, body, error_body, format, verbatim_of, array_of, set_of, map_of, attribute_of, push_of, kind}
use Rattle.resp_read.specs.Limits.{bounds, reading}
use Rattle.resp_read.specs.Parts.{line_form}
use Rattle.resp_read.specs.Frames.{begun_as, with_values}
use Rattle.resp_read.specs.Waiting.{IsFrontOf}
use Rattle.resp_read.specs.declared.limits.Limits.{Limits}
use Rattle.resp_read.specs.declared.waiting.Front.{Front}
use Rattle.resp_read.specs.declared.forms.Refusal.{Refusal}
use Rattle.resp_read.specs.declared.forms.Refusal.TheVariants.{Short, Bad, NoMemory}
use Rattle.resp_read.specs.declared.frames.Sequence.TheVariants as sequence
use Rattle.resp_read.specs.declared.frames.Begun.{Begun}
use Rattle.resp_read.specs.declared.stages.Head.{Head}
use Rattle.resp_read.specs.declared.stages.Head.TheVariants as head
use Rattle.resp_read.specs.declared.stages.Part.{Part}
use Rattle.resp_read.specs.declared.stages.Part.TheVariants as part
use Rattle.resp_read.specs.declared.stages.Want.{Want}
use Rattle.resp_read.specs.declared.stages.Want.TheVariants as want
use Rattle.resp_read.specs.declared.stages.Follow.{Follow}
use Rattle.resp_read.specs.declared.stages.Follow.TheVariants as follow
use Rattle.resp_read.specs.declared.stages.Stage.{Stage}
use Rattle.resp_read.specs.declared.stages.Stage.TheVariants as stage

-- the length of a kind of a push was read: the kind, and n values behind it
abbrev pub kind_with : (List ℕ → Found Data) → ℕ → List ℕ → List ℕ → Found Data
kind_with inside n k bs = with_values inside (sequence.Push (kind_of k)) [] n bs

-- a body of that length, and what f makes of it
abbrev pub body_then : (List ℕ → List ℕ → Found Data) → ℕ → List ℕ → Found Data
body_then f n bs = found_and_then f (body n bs)

-- what a form is, behind its first byte, by the line there; inside reads the values in it
abbrev pub head_on : GrammarLimits → (List ℕ → Found Data) → Head → Line → Found Data
head_on limits inside (head.Value form) x = line_found limits (line_form limits form) x
head_on limits inside head.Bulk x = found_and_then bulk_of (line_found limits (size_line limits.bulk) x)
head_on limits inside head.BulkError x = found_and_then error_body (line_found limits (count_line limits 0 limits.bulk) x)
head_on limits inside head.Verbatim x = found_and_then verbatim_of (line_found limits (count_line limits 4 limits.bulk) x)
head_on limits inside head.Array x = found_and_then (array_of inside) (line_found limits (size_line limits.count) x)
head_on limits inside head.Set x = found_and_then (set_of inside) (line_found limits (count_line limits 0 limits.count) x)
head_on limits inside head.Map x = found_and_then (map_of inside) (line_found limits (count_line limits 0 limits.count) x)
head_on limits inside head.Push x = found_and_then (push_of limits inside) (line_found limits (count_line limits 1 limits.count) x)
head_on limits inside head.Attributes x = found_and_then (attribute_of inside) (line_found limits (count_line limits 0 limits.count) x)
head_on limits inside (head.Kind n) x = found_and_then (kind_with inside n) (line_found limits text_line x)
head_on limits inside (head.KindLength n) x = found_and_then (body_then (kind_with inside n)) (line_found limits (count_line limits 0 limits.bulk) x)

-- what a body is, and what follows it
abbrev pub part_as : (List ℕ → Found Data) → Part → List ℕ → List ℕ → Found Data
part_as inside part.Bulk t bs = read (bulk t) bs
part_as inside part.Error t bs = read (error_of t) bs
part_as inside (part.Verbatim f) t bs = read (verbatim f t) bs
part_as inside (part.Kind n) t bs = kind_with inside n t bs

-- a text of that format, of n bytes
abbrev pub format_then : ℕ → List ℕ → List ℕ → Found Data
format_then n f bs = body_then (λ t rest. read (verbatim f t) rest) n bs

-- what is wanted behind a line
abbrev pub want_as : GrammarLimits → (List ℕ → Found Data) → Want → List ℕ → Found Data
want_as limits inside (want.Body part n) bs = body_then (part_as inside part) n bs
want_as limits inside (want.Format n) bs = found_and_then (format_then n) (format bs)
want_as limits inside (want.Kind n) bs = found_and_then (kind_with inside n) (kind limits bs)

-- what follows a line
abbrev pub follow_as : GrammarLimits → (List ℕ → Found Data) → Follow → List ℕ → Found Data
follow_as limits inside (follow.Begun b) bs = begun_as inside b bs
follow_as limits inside (follow.Want w) bs = want_as limits inside w bs

-- LF, and what f finds behind it
abbrev pub after_feed : (List ℕ → Found Data) → List ℕ → Found Data
after_feed f [] = short
after_feed f (b ∷ bs) = if b == 10 then f bs else bad

-- what is read at a stage, where these bytes follow; n may still be nested
abbrev pub stage_as : Limits → ℕ → Stage → List ℕ → Found Data
stage_as limits n stage.First bs = reading limits n bs
stage_as limits n (stage.Line h) bs = head_on (bounds limits) (reading limits (n - 1)) h (line bs)
stage_as limits n (stage.End f) bs = after_feed (follow_as (bounds limits) (reading limits (n - 1)) f) bs
stage_as limits n (stage.Want w) bs = want_as (bounds limits) (reading limits (n - 1)) w bs

-- a body is no longer than a bulk string
abbrev pub IsWant : Want → Type 0
IsWant (want.Body part n) = n ≤ max_bulk
IsWant (want.Format n) = n ≤ max_bulk
IsWant (want.Kind n) = Unit {0}

abbrev pub IsFollow : Follow → Type 0
IsFollow (follow.Begun b) = Unit {0}
IsFollow (follow.Want w) = IsWant w

abbrev pub IsStage : Stage → Type 0
IsStage stage.First = Unit {0}
IsStage (stage.Line h) = Unit {0}
IsStage (stage.End f) = IsFollow f
IsStage (stage.Want w) = IsWant w

-- what follows a whole line of that head, whatever bytes follow it; or the line is none of that head
abbrev pub Follows : GrammarLimits → Head → List ℕ → Option Follow → Type 0
Follows limits h l (Some f) = IsFollow f × ((inside : List ℕ → Found Data) → ((m : List ℕ) → head_on limits inside h (ended l m) ≡ follow_as limits inside f m) × (head_on limits inside h (held l) ≡ short))
Follows limits h l None = (inside : List ℕ → Found Data) → ((m : List ℕ) → head_on limits inside h (ended l m) ≡ bad) × (head_on limits inside h (held l) ≡ bad)

-- what is known of a line that has not ended and can become one of that head; or it can't
abbrev pub GoesOn : GrammarLimits → Head → List ℕ → Option Front → Type 0
GoesOn limits h l (Some front) = IsFrontOf front l × ((inside : List ℕ → Found Data) → head_on limits inside h (unended l) ≡ short)
GoesOn limits h l None = (inside : List ℕ → Found Data) → head_on limits inside h (unended l) ≡ bad

-- what was taken of a line within the limit: all of it, where its CR has come, or all that is there; or it can be no line
abbrev pub IsLook : Limits → List ℕ → Result Bool Refusal → List ℕ → Type 0
IsLook limits rest (Ok true) l = (length l ≤ limits.line) × (line l ≡ unended l) × (rest ≡ l ++ 13 ∷ drop (length l + 1) rest)
IsLook limits rest (Ok false) l = (length l ≤ limits.line) × (line l ≡ unended l) × (rest ≡ l)
IsLook limits rest (Err Bad) l = (inside : List ℕ → Found Data) (h : Head) → head_on (bounds limits) inside h (line rest) ≡ bad
IsLook limits rest (Err Short) l = ⊥
IsLook limits rest (Err NoMemory) l = Unit {0}

-- each byte that was taken costs two steps, and CR one
abbrev pub LookCosts : List ℕ → List ℕ → ℕ → Result Bool Refusal → List ℕ → ℕ → Type 0
LookCosts rest old before (Ok true) new after = after + 2 * length old ≡ before + 2 * length new + 1
LookCosts rest old before (Ok false) new after = after + 2 * length old ≡ before + 2 * length new
LookCosts rest old before (Err e) new after = after + 2 * length old ≤ before + 2 * length rest

-- what stands behind the first byte, by that byte
abbrev pub IsHeadOf : Limits → ℕ → ℕ → Option Head → Type 0
IsHeadOf limits n b (Some h) = (bs : List ℕ) → reading limits n (b ∷ bs) ≡ head_on (bounds limits) (reading limits (n - 1)) h (line bs)
IsHeadOf limits n b None = (bs : List ℕ) → reading limits n (b ∷ bs) ≡ bad

-- the kind of a push begins with that byte
abbrev pub IsKindOf : ℕ → ℕ → Option Head → Type 0
IsKindOf n b (Some h) = (limits : GrammarLimits) (inside : List ℕ → Found Data) (bs : List ℕ) → want_as limits inside (want.Kind n) (b ∷ bs) ≡ head_on limits inside h (line bs)
IsKindOf n b None = (limits : GrammarLimits) (inside : List ℕ → Found Data) (bs : List ℕ) → want_as limits inside (want.Kind n) (b ∷ bs) ≡ bad

-- a body that is followed by CR is whole once LF follows
abbrev pub IsBody : Part → ℕ → List ℕ → Result Begun Refusal → Type 0
IsBody part n rest (Ok b) = (limits : GrammarLimits) (inside : List ℕ → Found Data) (m : List ℕ) → want_as limits inside (want.Body part n) (rest ++ m) ≡ after_feed (begun_as inside b) (drop (n + 1) rest ++ m)
IsBody part n rest (Err Bad) = (limits : GrammarLimits) (inside : List ℕ → Found Data) → want_as limits inside (want.Body part n) rest ≡ bad
IsBody part n rest (Err Short) = ⊥
IsBody part n rest (Err NoMemory) = Unit {0}

-- a format is followed by its text
abbrev pub IsFormat : ℕ → List ℕ → Result (List ℕ) Refusal → Type 0
IsFormat n rest (Ok f) = (limits : GrammarLimits) (inside : List ℕ → Found Data) (m : List ℕ) → want_as limits inside (want.Format n) (rest ++ m) ≡ want_as limits inside (want.Body (part.Verbatim f) n) (drop 4 rest ++ m)
IsFormat n rest (Err Bad) = (limits : GrammarLimits) (inside : List ℕ → Found Data) → want_as limits inside (want.Format n) rest ≡ bad
IsFormat n rest (Err Short) = ⊥
IsFormat n rest (Err NoMemory) = Unit {0}
