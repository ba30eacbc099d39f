use denote.Param.Send.{param_sync, sendable}
use Rattle.std.proofs.Common.{subst, get_or}
use Rattle.std.proofs.Crossing.{crosses}
use Rattle.caller_threads.specs.declared.job.Job.{Job}
use Rattle.caller_threads.specs.Jobs.{HasRun}
use Rattle.caller_threads.proofs.Places.{each_from}
use Rattle.caller_threads.proofs.Threads.{crossing, session_row}
use Rattle.caller_threads.proofs.running.run_all.Lts as lts
use Rattle.caller_threads.proofs.running.run_all.Goals as goal

pub for_each_mut-requires-send-T : goal.for_each_mut-requires-send-T
for_each_mut-requires-send-T g c κs within = search crossing depth 60 fits 20000

pub for_each_mut-requires-sync-F : goal.for_each_mut-requires-sync-F
for_each_mut-requires-sync-F g c κs within =
    param_sync 2 (lts.arg-1-2 g.row.R g.row.G g.R.laws g.G.laws g.R.Threads-dict g.R.Wait-dict g.G.Gate-dict κs)
    (search (session_row, crosses, sendable) depth 30 fits 20000)

pub returns : goal.returns
returns g c =
    each_from (λ place. HasRun) 0 c.args.jobs.now c.for_each_mut.new.s c.for_each_mut.auto.s
    (λ i d lt.
    let h = (c.for_each_mut.ensures i d lt).1 in
    let did : HasRun h.argument.now h.after_call.now = h.call in
    subst (λ (k : Job). HasRun (get_or c.args.jobs.now i d) k) h.left (subst (λ (j : Job). HasRun j h.after_call.now) h.argument_is did))
