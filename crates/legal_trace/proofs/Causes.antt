-- Which errors of submissions only a new link helps: none that a value gives.
use Rattle.std.proofs.Common.{◌≡◌, ℕ, Bool, true, false, ◌||◌, List, [], ◌∷◌, refl, ap}
use Rattle.std.specs.List.{list_any}
use Rattle.containers.proofs.Choices.{chosen}
use Rattle.resp_value.specs.declared.retry_method.RetryMethod.{RetryMethod}
use Rattle.resp_value.specs.declared.retry_method.RetryMethod.TheVariants.{NoRetry}
use Rattle.resp_value.specs.declared.server_error.ServerError.{ServerError}
use Rattle.resp_value.specs.ErrorTable.{Table, by_code, methods, method_of, needs_new_link}
use Rattle.resp_value.specs.Data.{Data, error}
use Rattle.redis_error.specs.declared.redis_error.RedisError.{RedisError}
use Rattle.redis_error.specs.Errors.{error_method}
use Rattle.driver_model.specs.declared.outcome.Outcome.{Outcome}
use Rattle.driver_model.specs.declared.outcome.Shape.{Shape}
use Rattle.driver_model.specs.declared.outcome.Shape.TheVariants.{Single, Pipeline, Confirmation}
use Rattle.driver_model.specs.Shape.{outcome_of, verdict_of, verdict_of_transaction, pipeline, kept_unless_aborted, confirmed, errors_from, first_of}
use Rattle.std.specs.Prelude.{bytes_eq, take, drop}
use Rattle.legal_trace.specs.Book.{faults_in}

-- only a new link helps
abbrev pub needs_link : RedisError → Bool
needs_link e = needs_new_link (error_method e)

-- no row of a table says so
abbrev NoneNeeds : Table RetryMethod → Type 0
NoneNeeds [] = Unit {0}
NoneNeeds (row ∷ rows) = (needs_new_link row.1 ≡ false) × NoneNeeds rows

-- so what it says of a code
row_needs_none : (rows : Table RetryMethod) (other : RetryMethod) (code : List ℕ) → NoneNeeds rows → needs_new_link other ≡ false → needs_new_link (by_code rows other code) ≡ false
row_needs_none [] other code all h = h
row_needs_none (row ∷ rows) other code all h = chosen (λ (m : RetryMethod). needs_new_link m ≡ false) (bytes_eq code row.0) row.1 (by_code rows other code) (λ t. all.0) (λ f. row_needs_none rows other code all.1 h)

-- no server error does
code_needs_none : (code : List ℕ) → needs_new_link (method_of code) ≡ false
unfolding method_of
code_needs_none code = row_needs_none methods NoRetry code (refl, (refl, (refl, (refl, (refl, (refl, (refl, tt))))))) refl

-- an outcome is an error that only a new link helps
abbrev pub needs_in : Outcome → Bool
needs_in o = list_any needs_link (faults_in o)

-- one of a server isn't
server_needs_none : (e : ServerError) → (needs_new_link (method_of e.code) || false) ≡ false
server_needs_none e = ap (λ (b : Bool). b || false) (code_needs_none e.code)

-- nor is what a transaction gives that is aborted
aborted_needs_none : (errors : List (ℕ × ServerError)) (kept : List Data) → needs_in (outcome_of (kept_unless_aborted errors kept)) ≡ false
aborted_needs_none [] kept = refl
aborted_needs_none (e ∷ es) kept = refl

-- nor one at all
transaction_needs_none : (skipped kept : List Data) → needs_in (outcome_of (verdict_of_transaction skipped kept)) ≡ false
transaction_needs_none [] kept = refl
transaction_needs_none (error e ∷ queued) kept = server_needs_none e
transaction_needs_none (_ ∷ queued) kept = aborted_needs_none (errors_from 0 queued) kept

-- nor a pipeline
pipeline_needs_none : (atomic : Bool) (skipped kept : List Data) → needs_in (outcome_of (pipeline atomic skipped kept)) ≡ false
pipeline_needs_none true skipped kept = transaction_needs_none skipped kept
pipeline_needs_none false skipped kept = refl

-- nor what a subscription call gets
confirmed_needs_none : (d : Data) → needs_in (outcome_of (confirmed d)) ≡ false
confirmed_needs_none (error e) = server_needs_none e
confirmed_needs_none _ = refl

-- so none that values give is
pub verdict_needs_none : (of_shape : Shape) (items : List Data) → needs_in (outcome_of (verdict_of of_shape items)) ≡ false
verdict_needs_none Single items = refl
verdict_needs_none (Pipeline offset count atomic) items = pipeline_needs_none atomic (take offset items) (drop offset items)
verdict_needs_none Confirmation items = confirmed_needs_none (first_of items)
