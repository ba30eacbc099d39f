use denote.Param.Send.{param_sync, sendable}
use Rattle.std.proofs.Crossing.{crosses}
use Rattle.atomic_table.proofs.shared.Seat.TheSendSync as seat
use Rattle.shared_session.proofs.Threads as sessions
use Rattle.caller_threads.proofs.Threads.{home_send, session_row}
use Rattle.send_tests.proofs.waits.play_all.Lts as lts
use Rattle.send_tests.proofs.waits.play_all.Goals as goal

pub for_each_mut-requires-send-T : goal.for_each_mut-requires-send-T
for_each_mut-requires-send-T g c κs within = search (home_send, seat.the_send, sessions.crossing) depth 60 fits 20000

pub for_each_mut-requires-sync-F : goal.for_each_mut-requires-sync-F
for_each_mut-requires-sync-F g c κs within =
    param_sync 2 (lts.arg-1-2 g.row.R g.R.laws g.R.Threads-dict g.R.Wait-dict g.R.RandomSource-dict g.R.AllocGlobal-dict g.R.Alloc-dict g.bound-6-dict g.bound-7-dict g.R.Clock-dict κs)
    (search (session_row, crosses, sendable) depth 30 fits 20000)
