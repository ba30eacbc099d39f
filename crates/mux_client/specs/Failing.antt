-- What stands behind a call that answered an error, and what is answered from then on.
use Rattle.std.specs.Prelude.{◌≡◌, ℕ, ◌<◌, Option, Some, Result, IsErrOf}
use Rattle.driver_model.specs.declared.outcome.Outcome.{Outcome}
use Rattle.mux_conn.specs.declared.errors.ConnectionError.{ConnectionError}
use Rattle.mux_conn.specs.declared.errors.ConnectionError.TheVariants as failure
use Rattle.mux_client.specs.declared.errors.SendError.{SendError}
use Rattle.mux_client.specs.declared.errors.SendError.TheVariants as error
use Rattle.mux_client.specs.Errors.{send_error}

-- the object is the one that it was
abbrev pub LeavesAsItWas : {A : Type 0} → A → A → Type 0
LeavesAsItWas old new = new ≡ old

-- this is why each call fails from now on; and each request that was sent before, of so many, has the outcome that it had, or none
abbrev pub HasFailedBy : ConnectionError → Option ConnectionError → ℕ → (ℕ → Option Outcome) → (ℕ → Option Outcome) → Type 0
HasFailedBy e why count before behind = (why ≡ Some e) × ((p : ℕ) → p < count → behind p ≡ before p)

-- what a send leaves behind that answered this error, of an object with these: why each call of it fails, if it does; the number of
-- its next request; and the outcome of each request. A refused send leaves the object as it was; any other has failed it
abbrev pub LeavesBehind : {A : Type 0} → (A → Option ConnectionError) → (A → ℕ) → (A → ℕ → Option Outcome) → A → A → SendError → Type 0
LeavesBehind why next outcome old new (error.Refused e) = LeavesAsItWas old new
LeavesBehind why next outcome old new error.Spent = HasFailedBy failure.Spent (why new) (next old) (outcome old) (outcome new)
LeavesBehind why next outcome old new error.NoMemory = HasFailedBy failure.NoMemory (why new) (next old) (outcome old) (outcome new)

-- a send answers what failed an earlier call, where one failed
abbrev pub AnswersItsFailure : {T : Type 0} → Option ConnectionError → Result T SendError → Type 0
AnswersItsFailure before result = (e : ConnectionError) → before ≡ Some e → IsErrOf result (send_error e)
