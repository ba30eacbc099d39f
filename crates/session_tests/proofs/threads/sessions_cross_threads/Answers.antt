use Rattle.shared_session.proofs.Threads.{crossing}
use Rattle.session_tests.proofs.threads.sessions_cross_threads.Goals as goal

pub crosses-requires-send-T : goal.crosses-requires-send-T
crosses-requires-send-T c κs = search crossing depth 60 fits 20000

pub crosses-requires-sync-T : goal.crosses-requires-sync-T
crosses-requires-sync-T c κs = search crossing depth 60 fits 20000
