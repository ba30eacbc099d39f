use Rattle.caller_threads.specs.Submits.{event_of}
use Rattle.caller_threads.proofs.Submitting.{one_look, cause_of}
use Rattle.caller_threads.proofs.job.submit_line.Goals as goal

pub returns-in-Err-clause-err : goal.returns-in-Err-clause-err
returns-in-Err-clause-err g c =
    let r = c.in-Err.ensures.refused in (
      one_look c.args.caller.now c.submit_as.new.caller c.in-Err.error (event_of c.args.line) c.new-actions.result.items c.submit_as.new.out.items c.in-Err.ensures.table c.in-Err.ensures.turned r,
      cause_of c.in-Err.error c.args.caller.now c.submit_as.new.caller c.args.line c.new-actions.result.items c.submit_as.new.out.items c.requires.allowed c.in-Err.ensures.turned r,
    )
