-- A job may go to another thread, and threads may share a session with its callers.
use denote.Param.Send.{IsSend, IsSync}
use Rattle.atomic_table.proofs.shared.Seat.TheSendSync as seat
use Rattle.atomic_table.proofs.shared.Shared.TheSendSync as table
use Rattle.atomic_table.proofs.send_lease.SendLease.TheSendSync as lease
use Rattle.containers.specs.contracts.bytes.Bytes as Bytes
use Rattle.driver_model.specs.contracts.action.Action as Action
use Rattle.driver_model.specs.contracts.action.Cause as Cause
use Rattle.driver_model.specs.contracts.event.Event as Event
use Rattle.driver_model.specs.contracts.event.Submission as Submission
use Rattle.driver_model.specs.contracts.outcome.Outcome as Outcome
use Rattle.redis_error.specs.contracts.redis_error.RedisError as RedisError
use Rattle.shared_session.proofs.Threads as sessions
use Rattle.session_callers.specs.contracts.board.Home as Home
use Rattle.session_callers.specs.contracts.caller.Caller as Caller
use Rattle.session_callers.specs.contracts.session.SharedSession as SharedSession
use Rattle.caller_threads.specs.contracts.job.Job as Job
use Rattle.caller_threads.specs.contracts.job.Turn as Turn

submission_send : IsSend Submission.the_field.row
submission_send = search sessions.crossing depth 60 fits 20000

bytes_send : IsSend Bytes.the_field.row
bytes_send = search sessions.crossing depth 60 fits 20000

error_send : IsSend RedisError.the_field.row
error_send = search sessions.crossing depth 60 fits 20000

event_send : IsSend Event.the_field.row
event_send = search sessions.crossing depth 60 fits 20000

outcome_send : IsSend Outcome.the_field.row
outcome_send = search sessions.crossing depth 60 fits 20000

cause_send : IsSend Cause.the_field.row
cause_send = search (event_send, bytes_send, sessions.crossing) depth 60 fits 20000

action_send : IsSend Action.the_field.row
action_send = search (cause_send, outcome_send, error_send, bytes_send, sessions.crossing) depth 60 fits 20000

pub home_send : IsSend Home.the_field.row
home_send = search sessions.crossing depth 60 fits 20000

caller_send : IsSend Caller.the_field.row
caller_send = search (home_send, seat.the_send, sessions.crossing) depth 60 fits 20000

turn_send : IsSend Turn.the_field.row
turn_send = search (action_send, sessions.crossing) depth 60 fits 20000

pub job_send : IsSend Job.the_field.row
job_send = search (submission_send, caller_send, turn_send, sessions.crossing) depth 60 fits 20000

pub session_sync : IsSync SharedSession.the_field.row
session_sync = search (home_send, table.the_sync, lease.the_sync, sessions.crossing) depth 60 fits 20000

pub session_row : IsSync SharedSession.the_row
session_row = search (home_send, table.the_sync, lease.the_sync, sessions.crossing) depth 60 fits 20000

pub ruleset crossing = (job_send, session_sync, session_row, sessions.crossing)
