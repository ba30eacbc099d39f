use Rattle.conn_manager.proofs.Threads.{crossing}
use Rattle.manager_tests.proofs.threads.managers_cross_threads.Goals as goal

pub crosses-requires-send-T : goal.crosses-requires-send-T
crosses-requires-send-T c κs = search crossing depth 60 fits 20000

pub crosses-requires-sync-T : goal.crosses-requires-sync-T
crosses-requires-sync-T c κs = search crossing depth 60 fits 20000
