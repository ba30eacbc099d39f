-- What messages come to when their link ends.
use Rattle.std.specs.Prelude.{ℕ, Bool, List, [], ◌∷◌, ◌++◌, if◌then◌else◌}
use Rattle.redis_error.specs.declared.redis_error.RedisError.{RedisError}
use Rattle.redis_error.specs.declared.redis_error.RedisError.TheVariants as error
use Rattle.driver_model.specs.declared.outcome.Shape.{Shape}
use Rattle.driver_model.specs.declared.outcome.Shape.TheVariants.{Single, Pipeline, Confirmation}
use Rattle.driver_model.specs.declared.outcome.Verdict.TheVariants as verdict
use Rattle.driver_model.specs.declared.news.LinkFault.{LinkFault}
use Rattle.driver_model.specs.declared.news.LinkFault.TheVariants as fault
use Rattle.link_core.specs.declared.message.Queued.{Queued}
use Rattle.link_core.specs.declared.message.Entry.{Entry}
use Rattle.link_core.specs.declared.message.Settled.{Settled}

-- a message that has no verdict ends with an error, if it is awaited
abbrev pub failed_by : Bool → ℕ → RedisError → List Settled
failed_by awaited id e = if awaited then record { id = id; verdict = verdict.Fault e } ∷ [] else []

-- the error that a fault is
abbrev pub error_of : LinkFault → RedisError
error_of fault.Ended = error.Closed
error_of (fault.Io kind) = error.Io kind
error_of fault.Parse = error.Parse

-- the error of the message that a fault hits: a single command gets the fault itself, as a subscription call does, and a
-- pipeline the closed connection
abbrev pub hit_by : LinkFault → Shape → RedisError
hit_by f Single = error_of f
hit_by f (Pipeline offset count transaction) = error.Closed
hit_by f Confirmation = error_of f

abbrev pub row_closed : List Entry → List Settled
row_closed [] = []
row_closed (e ∷ es) = failed_by e.awaited e.id error.Closed ++ row_closed es

abbrev pub queue_closed : List Queued → List Settled
queue_closed [] = []
queue_closed (q ∷ qs) = failed_by q.awaited q.id error.Closed ++ queue_closed qs

abbrev pub row_hit : LinkFault → List Entry → List Settled
row_hit f [] = []
row_hit f (e ∷ es) = failed_by e.awaited e.id (hit_by f e.shape) ++ row_closed es
