-- What a job is before and after each step of the call.
use Rattle.std.specs.Prelude.{◌≡◌, ℕ, ◌==◌, List, [], ◌∷◌, ◌++◌, length, Option, Some, None, MatchOption}
use Rattle.shared_session.specs.declared.errors.StepError.{StepError}
use Rattle.session_callers.specs.Calls.{Known}
use Rattle.session_callers.specs.Rule.{Each}
use Rattle.atomic_table.specs.Seated.{TableId}
use Rattle.caller_threads.specs.declared.job.Job.{Job}
use Rattle.caller_threads.specs.declared.job.Turn.{Turn}
use Rattle.caller_threads.specs.Lines.{one_if, count_from}
use Rattle.caller_threads.specs.Submits.{Line, AreAllowed, HasSubmitted, HasTried, IsCause}

abbrev pub callers_of : List Job → List Known
callers_of [] = []
callers_of (j ∷ js) = j.caller ∷ callers_of js

abbrev pub IsOfTable : TableId → Job → Type 0
IsOfTable z j = j.caller.table ≡ z

-- nothing was given to it yet
pub record IsNew (j : Job) : Type 0 where
  pub lines : j.lines ≡ []
  pub turns : j.turns ≡ []
  pub error : j.error ≡ None

-- lines were put behind its own, and nothing else was changed
pub record Fed (more : List Line) (j k : Job) : Type 0 where
  pub caller : k.caller ≡ j.caller
  pub lines : k.lines ≡ j.lines ++ more
  pub turns : k.turns ≡ j.turns
  pub error : k.error ≡ j.error

-- its lines alone were changed
pub record WasFed (j k : Job) : Type 0 where
  pub caller : k.caller ≡ j.caller

-- it may run
pub record IsReady (z : TableId) (j : Job) : Type 0 where
  pub of : j.caller.table ≡ z
  pub allowed : AreAllowed j.lines j.caller
  pub turns : j.turns ≡ []
  pub error : j.error ≡ None

-- all its lines have their turns, or it has tried them and says why it stopped
abbrev pub HasRun : Job → Job → Type 0
HasRun j k = MatchOption k.error (HasSubmitted j.caller k.caller j.lines k.turns) (λ error. HasTried j.caller k.caller j.lines × IsCause error j.caller k.caller)

-- the job at this place has given its first turn, if it has one
pub record Took (at : ℕ) (turn : Option Turn) (c : ℕ) (j k : Job) : Type 0 where
  pub caller : k.caller ≡ j.caller
  pub turns : MatchOption turn ((at ≡ c → j.turns ≡ []) × (k.turns ≡ j.turns)) (λ t. j.turns ≡ one_if (at == c) t ++ k.turns)

-- it has a turn for each of its lines, of which there are so many in all
abbrev pub HasTurns : ℕ → ℕ → ℕ → Job → Job → Type 0
HasTurns count total c j k = length j.turns ≡ count_from count c 0 total

abbrev pub first_of : Option StepError → Option StepError → Option StepError
first_of None o = o
first_of (Some e) o = Some e

-- the error of the first that has one
abbrev pub first_error_of : List Job → Option StepError
first_error_of [] = None
first_error_of (j ∷ js) = first_of j.error (first_error_of js)
