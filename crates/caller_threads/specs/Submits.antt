-- What it is that callers have submitted lines.
use Rattle.std.specs.Prelude.{◌≡◌, ℕ, ◌+◌, ◌<◌, ◌≤◌, List, [], ◌∷◌, ◌++◌, length, false, IsPermutation}
use Rattle.std.specs.List.Sorted.{IsNonDecreasingBy}
use mathlib.Core.List.{IsPrefix}
use Rattle.driver_model.specs.Config.{kind_of}
use Rattle.driver_model.specs.declared.action.Action.{Action}
use Rattle.driver_model.specs.declared.config.Config.{Config}
use Rattle.driver_model.specs.declared.kind.SessionKind.{SessionKind}
use Rattle.driver_model.specs.declared.event.Event.{Event}
use Rattle.driver_model.specs.declared.event.Submission.{Submission}
use Rattle.driver_model.specs.Request.{has_no_form}
use Rattle.single_session.specs.Turn.{actions_of}
use Rattle.single_session.specs.Replay.{state_after, is_spent_after}
use Rattle.shared_session.specs.declared.errors.StepError.{StepError}
use Rattle.shared_session.specs.declared.errors.StepError.TheVariants.{BadEvent, Spent, NoMemory}
use Rattle.shared_session.specs.declared.session.Failure.TheVariants as failure
use Rattle.session_callers.specs.Calls.{Known, submission_event}
use Rattle.session_callers.specs.Rule.{Each, SpendsNext, submissions_in, Ascends}
use Rattle.session_callers.specs.declared.board.Stage.TheVariants.{Idle}
use Rattle.caller_threads.specs.declared.job.Turn.{Turn}
use Rattle.caller_threads.specs.Each.{EachAt, AnyAt}
use Rattle.caller_threads.specs.Lines.{share}

-- a submission with its word
abbrev pub Line : Type 0
Line = Submission × ℕ

-- a script of a session of this kind may have it
abbrev pub IsAllowed : SessionKind → Line → Type 0
IsAllowed kind line = has_no_form kind line.0 ≡ false

-- a script of this caller's session may have each of them
abbrev pub AreAllowed : List Line → Known → Type 0
AreAllowed lines caller = Each (IsAllowed (kind_of caller.view.config)) lines

abbrev pub event_of : Line → Event
event_of line = submission_event line.0 line.1

-- By this history the turn is that of the line: the line's event stands at its place, so many submissions stand before
-- it, its step isn't spent, and the core shows these actions for it.
pub record IsTurnOf (config : Config) (word : ℕ) (log : List Event) (line : Line) (t : Turn) : Type 0 where
  pub before : List Event
  pub begins : IsPrefix (before ++ event_of line ∷ []) log
  pub place : t.place ≡ length before
  pub number : t.number ≡ submissions_in before
  pub unspent : is_spent_after config word before (event_of line) ≡ false
  pub actions : t.actions.items ≡ actions_of (state_after config word before) (event_of line)

-- the turns are those of the lines, one for each
abbrev pub AreTurnsOf : Config → ℕ → List Event → List Line → List Turn → Type 0
AreTurnsOf config word log ls ts = EachAt (λ i. IsTurnOf config word log) 0 ls ts

abbrev pub places_of : List Turn → List ℕ
places_of [] = []
places_of (t ∷ ts) = t.place ∷ places_of ts

abbrev pub numbers_of : List Turn → List ℕ
numbers_of [] = []
numbers_of (t ∷ ts) = t.number ∷ numbers_of ts

abbrev pub actions_in : List Turn → List Action
actions_in [] = []
actions_in (t ∷ ts) = t.actions.items ++ actions_in ts

-- A caller is the same caller, which has seen as much or more, and holds no ticket where it held none.
pub record IsSameCaller (v w : Known) : Type 0 where
  pub table : w.table ≡ v.table
  pub number : w.view.number ≡ v.view.number
  pub seen : IsPrefix v.view.seen w.view.seen
  pub idle : v.view.stage ≡ Idle → w.view.stage ≡ Idle
  pub config : (w.view.config ≡ v.view.config) × (w.view.word ≡ v.view.word)
  pub most : w.view.most ≡ v.view.most
  pub dial : (w.view.dial ≡ v.view.dial) × (w.view.claims ≡ v.view.claims)
  pub ended : (w.view.ended ≡ v.view.ended) × (w.view.fronts ≡ v.view.fronts)

-- The caller has drawn a ticket for each of the lines, and has their turns as its own, in the order of the lines, whatever
-- history begins with what it has seen.
pub record HasSubmitted (v w : Known) (lines : List Line) (turns : List Turn) : Type 0 where
  pub same : IsSameCaller v w
  pub drawn : w.view.drawn ≡ v.view.drawn + length lines
  pub mine : w.view.mine ≡ v.view.mine ++ places_of turns
  pub rises : Ascends (length v.view.seen) (places_of turns) (length w.view.seen)
  pub told : (log : List Event) → IsPrefix w.view.seen log → AreTurnsOf w.view.config w.view.word log lines turns

-- The caller has tried to submit the lines, and has the turns of some first ones as its own.
pub record HasTried (v w : Known) (lines : List Line) : Type 0 where
  pub first : List Line
  pub rest : List Line
  pub whole : lines ≡ first ++ rest
  pub turns : List Turn
  pub same : IsSameCaller v w
  pub drawn : w.view.drawn ≤ v.view.drawn + length lines
  pub mine : w.view.mine ≡ v.view.mine ++ places_of turns
  pub told : (log : List Event) → IsPrefix w.view.seen log → AreTurnsOf w.view.config w.view.word log first turns

-- the caller had one turn, which took nothing
pub record HasLooked (v w : Known) : Type 0 where
  pub same : IsSameCaller v w
  pub drawn : w.view.drawn ≡ v.view.drawn + 1
  pub mine : w.view.mine ≡ v.view.mine

-- What this caller shows of the error: in a turn of its own it has found that numbers had run out, after so many events,
-- behind which the step of some event would be spent. An event is never bad.
abbrev pub IsCause : StepError → Known → Known → Type 0
IsCause BadEvent v w = ⊥
IsCause (Spent n) v w = (v.view.drawn < w.view.drawn) × (w.view.failure ≡ failure.Spent) × (n ≡ length w.view.seen) × SpendsNext w.view.config w.view.word w.view.seen
IsCause NoMemory v w = Unit {0}

-- Each caller has submitted its share of the lines, of which each has a turn. The turns stand in line order.
pub record HaveRun (vs ws : List Known) (lines : List Line) (turns : List Turn) : Type 0 where
  pub count : length turns ≡ length lines
  pub each : EachAt (λ c v w. HasSubmitted v w (share (length vs) c lines) (share (length vs) c turns)) 0 vs ws

-- the turns in the order of their places
pub record IsOrdered (turns order : List Turn) : Type 0 where
  pub same : IsPermutation turns order
  pub rises : IsNonDecreasingBy (λ (t : Turn). t.place) order

-- what was shown, and then the actions of the turns in turn order
pub record IsTold (turns : List Turn) (shown after : List Action) : Type 0 where
  pub order : List Turn
  pub ordered : IsOrdered turns order
  pub actions : after ≡ shown ++ actions_in order

-- Line i has been submitted by caller i modulo their number. The submissions' numbers are given in line order, and the
-- actions of their turns in turn order.
pub record HaveSubmitted (vs ws : List Known) (lines : List Line) (given numbers : List ℕ) (shown after : List Action) : Type 0 where
  pub turns : List Turn
  pub run : HaveRun vs ws lines turns
  pub gained : numbers ≡ given ++ numbers_of turns
  pub told : IsTold turns shown after

-- the error has its cause with one of the callers; memory may be refused without
abbrev pub HasCause : StepError → List Known → List Known → Type 0
HasCause BadEvent vs ws = ⊥
HasCause (Spent n) vs ws = AnyAt (λ c. IsCause (Spent n)) 0 vs ws
HasCause NoMemory vs ws = Unit {0}

-- All callers are there, each has submitted some first lines of its share, or all of them, and why it ended.
pub record HaveStopped (error : StepError) (vs ws : List Known) (lines : List Line) : Type 0 where
  pub each : EachAt (λ c v w. HasTried v w (share (length vs) c lines)) 0 vs ws
  pub cause : HasCause error vs ws
