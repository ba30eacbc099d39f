-- How many items a message takes, and what its items become.
use Rattle.std.specs.Prelude.{ℕ, ◌+◌, ◌==◌, Bool, true, false, List, [], ◌∷◌, ◌++◌, take, drop, if◌then◌else◌}
use Rattle.connection_setup.specs.Permits.{most_permits}
use Rattle.redis_error.specs.declared.redis_error.RedisError.TheVariants as reason
use Rattle.resp_value.specs.declared.server_error.ServerError.{ServerError}
use Rattle.resp_value.specs.Data.{Data, nil, error}
use Rattle.resp_value.specs.View.{value_of}
use Rattle.driver_model.specs.declared.outcome.Shape.{Shape}
use Rattle.driver_model.specs.declared.outcome.Shape.TheVariants.{Single, Pipeline, Confirmation}
use Rattle.driver_model.specs.declared.outcome.Verdict.{Verdict}
use Rattle.driver_model.specs.declared.outcome.Verdict.TheVariants.{One, Many, Done, Fault}
use Rattle.driver_model.specs.declared.outcome.Outcome.{Outcome}
use Rattle.driver_model.specs.declared.outcome.Outcome.TheVariants as outcome

-- that many, and one at least
abbrev pub one_at_least : ℕ → ℕ
one_at_least count = if count == 0 then 1 else count

-- the items that a message of this shape takes
abbrev pub need_of : Shape → ℕ
need_of Single = 1
need_of (Pipeline offset count transaction) = offset + one_at_least count
need_of Confirmation = 1

-- the most permits that a message of this shape takes of so many: one for a single command, and for a pipeline one for each
-- reply that it keeps
abbrev pub permits_for : Shape → ℕ → ℕ
permits_for Single limit = 1
permits_for (Pipeline offset count transaction) limit = most_permits count limit
permits_for Confirmation limit = 1

-- whether it is one command
abbrev pub is_single : Shape → Bool
is_single Single = true
is_single (Pipeline offset count transaction) = false
is_single Confirmation = true

abbrev pub first_of : List Data → Data
first_of [] = nil
first_of (d ∷ ds) = d

-- how so many commands of the driver itself take their items: one as a single command, any other number as a pipeline that keeps all
abbrev pub shape_inside : ℕ → Shape
shape_inside n = if n == 1 then Single else Pipeline 0 n false

-- a server error at this position, if it is one
abbrev pub error_at : ℕ → Data → List (ℕ × ServerError)
error_at n (error e) = (n, e) ∷ []
error_at n _ = []

-- the server errors among these, each with its position, counted from n
abbrev pub errors_from : ℕ → List Data → List (ℕ × ServerError)
errors_from n [] = []
errors_from n (d ∷ ds) = error_at n d ++ errors_from (n + 1) ds

-- commands that weren't queued abort a transaction, also where EXEC was answered
abbrev pub kept_unless_aborted : List (ℕ × ServerError) → List Data → Verdict
kept_unless_aborted [] kept = Many kept
kept_unless_aborted (e ∷ es) kept = Fault (reason.Aborted (e ∷ es))

-- a server error as the reply to MULTI is the verdict; else that of the replies to the commands as they were queued
abbrev pub verdict_of_transaction : List Data → List Data → Verdict
verdict_of_transaction [] kept = Many kept
verdict_of_transaction (error e ∷ queued) kept = Fault (reason.Server e)
verdict_of_transaction (_ ∷ queued) kept = kept_unless_aborted (errors_from 0 queued) kept

-- what is kept of a pipeline, behind what is skipped
abbrev pub pipeline : Bool → List Data → List Data → Verdict
pipeline true skipped kept = verdict_of_transaction skipped kept
pipeline false skipped kept = Many kept

-- a server error instead of a confirmation is the verdict; whatever else is answered confirms
abbrev pub confirmed : Data → Verdict
confirmed (error e) = Fault (reason.Server e)
confirmed _ = Done

-- what a full cut of this shape is: a single command's one value, what is kept of a pipeline, or what a confirmation says
abbrev pub verdict_of : Shape → List Data → Verdict
verdict_of Single cut = One (value_of (first_of cut))
verdict_of (Pipeline offset count atomic) cut = pipeline atomic (take offset cut) (drop offset cut)
verdict_of Confirmation cut = confirmed (first_of cut)

-- the outcome that a verdict gives
abbrev pub outcome_of : Verdict → Outcome
outcome_of (One v) = outcome.One v
outcome_of (Many vs) = outcome.Many vs
outcome_of Done = outcome.Done
outcome_of (Fault e) = outcome.Fault e
