-- What an open submission is owed: its outcome, with its cause.
use Rattle.std.specs.Prelude.{ℕ, ◌==◌, Bool, ◌&&◌, not, length, Option, Some, None, if◌then◌else◌}
use Rattle.redis_error.specs.declared.fault_kind.FaultKind.TheVariants as kind
use Rattle.redis_error.specs.declared.redis_error.RedisError.{RedisError}
use Rattle.redis_error.specs.declared.redis_error.RedisError.TheVariants as error
use Rattle.driver_model.specs.declared.outcome.Outcome.{Outcome}
use Rattle.driver_model.specs.declared.outcome.Outcome.TheVariants as outcome
use Rattle.driver_model.specs.declared.outcome.Shape.{Shape}
use Rattle.driver_model.specs.declared.outcome.Shape.TheVariants.{Single, Pipeline, Confirmation}
use Rattle.driver_model.specs.Shape.{verdict_of, outcome_of}
use Rattle.legal_trace.specs.Ledger.{Ledger, End, Ending, by_shutdown, by_fault, by_opening, by_attempt, cut, fault_error, is_full}
use Rattle.legal_trace.specs.Story.{Story, Try, bytes_of, shape, last_of}
use Rattle.legal_trace.specs.Book.{Book}

-- the error of the oldest message that takes items: a single command gets the fault itself, as a subscription call does, and
-- a pipeline the closed connection
abbrev pub oldest_error : Ending → Shape → RedisError
oldest_error (by_fault f) Single = fault_error f
oldest_error (by_fault f) (Pipeline offset count transaction) = error.Closed
oldest_error (by_fault f) Confirmation = fault_error f
oldest_error by_shutdown of_shape = error.Closed
oldest_error (by_opening e) of_shape = error.Closed
oldest_error (by_attempt e) of_shape = error.Closed

-- the error of a message that was not full when its link ended: every other one gets the closed connection
abbrev pub cut_off : End → ℕ → Shape → RedisError
cut_off end k of_shape = if k == end.oldest then oldest_error end.why of_shape else error.Closed

-- what the message that started as number k comes to: the verdict of its cut, or why its link cut it off
abbrev pub cut_off_if : Option End → ℕ → Shape → Option Outcome
cut_off_if None k of_shape = None
cut_off_if (Some end) k of_shape = Some (outcome.Fault (cut_off end k of_shape))

abbrev pub owed_to_message : Ledger → ℕ → Shape → Option Outcome
owed_to_message l k of_shape = if is_full l k then Some (outcome_of (verdict_of of_shape (cut l k of_shape))) else cut_off_if l.end k of_shape

-- what a submission without a message comes to: the error of the opening where this failed, nothing where another attempt follows,
-- and else the closed connection
abbrev pub owed_by : Ending → Option Outcome
owed_by by_shutdown = Some (outcome.Fault error.Closed)
owed_by (by_fault f) = Some (outcome.Fault error.Closed)
owed_by (by_opening e) = Some (outcome.Fault e)
owed_by (by_attempt e) = None

-- so it is where its link has ended
abbrev pub owed_unstarted : Option End → Option Outcome
owed_unstarted None = None
owed_unstarted (Some end) = owed_by end.why

-- and where everything is shut down while its link isn't asked for, it is the closed connection
abbrev pub owed_waiting : Bool → Ledger → Option Outcome
owed_waiting shut l = if shut && not l.asked then Some (outcome.Fault error.Closed) else owed_unstarted l.end

-- what a submission comes to by its last try
abbrev pub owed_to_try : Book → Story → Option Try → Option Outcome
owed_to_try b s None = owed_waiting b.shut (b.link s.link)
owed_to_try b s (Some t) = owed_to_message (b.link t.link) t.message (shape s)

-- what an open submission is owed, if it is: where it came after the shutdown, the closed connection; where it needs RESP3
-- and its link's server is told another protocol, that RESP3 is required; without bytes, the empty command; where its timer
-- has fired, that its time is over; else what its message comes to
abbrev pub owed : Book → ℕ → Option Outcome
owed b n =
    if (b.story n).late then Some (outcome.Fault error.Closed)
    else if (b.story n).unspoken then Some (outcome.Fault error.Resp3Required)
    else if length (bytes_of (b.story n)) == 0 then Some (outcome.Fault error.EmptyCommand)
    else if (b.story n).overdue then Some (outcome.Fault (error.Io kind.TimedOut))
    else owed_to_try b (b.story n) (last_of (b.story n).tries)
