use Rattle.atomic_table.proofs.shared.Shared.TheSendSync as table
use Rattle.atomic_table.proofs.send_lease.SendLease.TheSendSync as lease
use Rattle.shared_session.proofs.Threads as sessions
use Rattle.caller_threads.proofs.Threads.{crossing, home_send}
use Rattle.caller_tests.proofs.meetings.sessions_of_callers_are_shared.Goals as goal

pub is_shared-requires-sync-T : goal.is_shared-requires-sync-T
is_shared-requires-sync-T c κs = search crossing depth 60 fits 20000

pub crosses-requires-send-T : goal.crosses-requires-send-T
crosses-requires-send-T c κs = search (home_send, table.the_send, lease.the_send, sessions.crossing) depth 60 fits 20000
