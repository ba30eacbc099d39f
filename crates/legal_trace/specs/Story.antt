-- What a trace says of one submission.
use Rattle.std.specs.Prelude.{ℕ, ◌==◌, Bool, true, false, ◌&&◌, ◌||◌, not, List, [], ◌∷◌, ◌++◌, length, Option, Some, None, is_some, if◌then◌else◌}
use Rattle.driver_model.specs.declared.action.WaitKind.{WaitKind}
use Rattle.driver_model.specs.declared.action.WaitKind.TheVariants as wait
use Rattle.driver_model.specs.declared.event.Submission.{Submission}
use Rattle.driver_model.specs.declared.outcome.Outcome.{Outcome}
use Rattle.driver_model.specs.declared.outcome.Outcome.TheVariants as outcome
use Rattle.driver_model.specs.declared.outcome.Shape.{Shape}
use Rattle.driver_model.specs.declared.outcome.Shape.TheVariants.{Single}
use Rattle.driver_model.specs.Request.{packed_bytes, shape_of, is_reply_awaited}

-- a message of the submission that started: on which link, and which of that link's messages it is
pub record Try : Type 0 where
  pub link : ℕ
  pub message : ℕ

-- the submission itself, whether it came after everything was shut down, and whether it needs RESP3 and its link's server is
-- told another protocol; the generation that it belongs to, and the link that it goes to; within how many milliseconds it is to be answered, if within any; the
-- permits that it holds; the timer that was asked for it, and whether that fired while it was open; whether its round has begun; its
-- messages that started, in order; the wait that was shown and stands; its outcomes; and whether its caller has gone
pub record Story : Type 0 where
  pub submission : Option Submission
  pub late : Bool
  pub unspoken : Bool
  pub generation : ℕ
  pub link : ℕ
  pub timeout : Option ℕ
  pub permits : ℕ
  pub clock : Option ℕ
  pub overdue : Bool
  pub rounded : Bool
  pub tries : List Try
  pub waiting : Option WaitKind
  pub outcomes : List Outcome
  pub cancelled : Bool

abbrev pub blank_story : Story
blank_story = record { submission = None; late = false; unspoken = false; generation = 0; link = 0; timeout = None; permits = 0; clock = None; overdue = false; rounded = false; tries = []; waiting = None; outcomes = []; cancelled = false }

-- handed in, and neither answered nor cancelled
abbrev pub is_open : Story → Bool
is_open s = is_some s.submission && (length s.outcomes == 0) && not s.cancelled

abbrev pub packed_in : Option Submission → List ℕ
packed_in None = []
packed_in (Some what) = packed_bytes what

abbrev pub shape_in : Option Submission → Shape
shape_in None = Single
shape_in (Some what) = shape_of what

abbrev pub awaited_in : Option Submission → Bool
awaited_in None = true
awaited_in (Some what) = is_reply_awaited what

-- the bytes of its message, how many items that takes and what they become, and whether its reply is awaited
abbrev pub bytes_of : Story → List ℕ
bytes_of s = packed_in s.submission

abbrev pub shape : Story → Shape
shape s = shape_in s.submission

abbrev pub is_awaited : Story → Bool
is_awaited s = awaited_in s.submission

-- one outcome, and no error
abbrev pub is_no_error : List Outcome → Bool
is_no_error [] = false
is_no_error (outcome.One value ∷ []) = true
is_no_error (outcome.Many values ∷ []) = true
is_no_error (outcome.Done ∷ []) = true
is_no_error (outcome.Fault e ∷ []) = false
is_no_error (o ∷ p ∷ more) = false

-- it was answered at its place, since nobody awaits its reply
abbrev pub is_told : Story → Bool
is_told s = not (is_awaited s) && is_no_error s.outcomes

-- it was shown that it waits for room
abbrev pub is_room : Option WaitKind → Bool
is_room (Some wait.Room) = true
is_room _ = false

-- it has its place: it was shown that it waits for room, or it was answered there
abbrev pub has_place : Story → Bool
has_place s = is_room s.waiting || is_told s

-- its message has not started and is to: it is open, or was told at its place
abbrev pub is_unstarted : Story → Bool
is_unstarted s = (length s.tries == 0) && (is_open s || is_told s)

-- it is handed in
abbrev pub handed_in : Story → Submission → Bool → Bool → ℕ → ℕ → Option ℕ → Story
handed_in s what late unspoken generation link timeout = record s { submission = Some what; late = late; unspoken = unspoken; generation = generation; link = link; timeout = timeout }

-- it goes to the next link, where it begins anew: its round has not begun, it holds no permits, and its wait is to be shown
abbrev pub carried : Story → ℕ → Story
carried s link = record s { link = link; permits = 0; rounded = false; waiting = None }

-- its caller goes: while it is open, this ends it, and its permits are free
abbrev pub left : Story → Story
left s = if is_open s then record s { cancelled = true; permits = 0; waiting = None } else s

-- it takes so many permits
abbrev pub holds : Story → ℕ → Story
holds s count = record s { permits = count }

-- that timer was asked for it
abbrev pub clocked : Story → ℕ → Story
clocked s t = record s { clock = Some t }

-- its round begins
abbrev pub rounds : Story → Story
rounds s = record s { rounded = true; waiting = None }

-- its timer fires
abbrev pub fires : Story → Story
fires s = if is_open s then record s { overdue = true } else s

-- the last of these tries
abbrev pub last_of : List Try → Option Try
last_of [] = None
last_of (t ∷ []) = Some t
last_of (t ∷ u ∷ ts) = last_of (u ∷ ts)

-- a message of it starts
abbrev pub tried : Story → ℕ → ℕ → Story
tried s link message = record s { tries = s.tries ++ record { link = link; message = message } ∷ []; waiting = None }

-- it waits
abbrev pub waits : Story → WaitKind → Story
waits s kind = record s { waiting = Some kind }

-- it is answered, and its permits are free
abbrev pub answered : Story → Outcome → Story
answered s o = record s { outcomes = s.outcomes ++ o ∷ []; permits = 0; waiting = None }
