use Rattle.push_links.proofs.Threads.{crossing}
use Rattle.push_tests.proofs.threads.links_cross_threads.Goals as goal

pub crosses-requires-send-T : goal.crosses-requires-send-T
crosses-requires-send-T c κs = search crossing depth 60 fits 20000

pub crosses-requires-sync-T : goal.crosses-requires-sync-T
crosses-requires-sync-T c κs = search crossing depth 60 fits 20000

pub crosses-requires-2-send-T : goal.crosses-requires-2-send-T
crosses-requires-2-send-T c κs = search crossing depth 60 fits 20000

pub crosses-requires-2-sync-T : goal.crosses-requires-2-sync-T
crosses-requires-2-sync-T c κs = search crossing depth 60 fits 20000
