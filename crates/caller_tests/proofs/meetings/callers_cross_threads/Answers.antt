use Rattle.atomic_table.proofs.shared.Seat.TheSendSync as seat
use Rattle.shared_session.proofs.Threads as sessions
use Rattle.caller_threads.proofs.Threads.{home_send}
use Rattle.caller_tests.proofs.meetings.callers_cross_threads.Goals as goal

pub crosses-requires-send-T : goal.crosses-requires-send-T
crosses-requires-send-T c κs = search (home_send, seat.the_send, sessions.crossing) depth 60 fits 20000
