use Rattle.std.proofs.Common.{◌≡◌, ℕ, length, sym, subst, arith}
use Rattle.caller_threads.specs.Each.{EachAt}
use Rattle.caller_threads.specs.Lines.{share}
use Rattle.caller_threads.specs.Jobs.{HasTurns}
use Rattle.caller_threads.proofs.Places.{each_length}
use Rattle.caller_threads.proofs.Jobs.{Ran, all_ran, all_ready, all_have_turns, all_submitted, all_stopped, all_refused, none_dealt, none_failed, one_failed}
use Rattle.caller_threads.proofs.submit.submit_all.Goals as goal

pub returns-in_default-clause-err : goal.returns-in_default-clause-err
returns-in_default-clause-err g c = none_dealt c.args.lines.items c.args.jobs.now c.deal.new.jobs c.in_default.ensures.err

pub run_all-requires-after_bounds : goal.run_all-requires-after_bounds
run_all-requires-after_bounds g c κs within =
    all_ready c.args.shared.now.table.shared.table_id (length c.args.jobs.now) c.args.lines.items c.args.jobs.now c.deal.new.jobs c.requires.new c.requires.of c.requires.allowed c.in-Ok.ensures.ok

pub returns-in-Some-clause-err : goal.returns-in-Some-clause-err
returns-in-Some-clause-err g c =
    let ran = all_ran (length c.args.jobs.now) c.args.lines.items c.args.jobs.now c.deal.new.jobs c.run_all.new.jobs c.requires.new c.in-Ok.ensures.ok c.run_all.ensures in
    all_stopped c.in-Some.error c.args.lines.items c.args.jobs.now c.run_all.new.jobs ran
    (one_failed 0 c.run_all.new.jobs c.in-Some.error (sym c.in-Some.ensures))

pub gather-requires-clause-turns : goal.gather-requires-clause-turns
gather-requires-clause-turns g c =
    let js = c.args.jobs.now in
    let ls = c.run_all.new.jobs in
    let lines = c.args.lines.items in
    let ran = all_ran (length js) lines js c.deal.new.jobs ls c.requires.new c.in-Ok.ensures.ok c.run_all.ensures in
    let long : length lines ≡ c.len-total.result = (let o = c.args.lines.ok in let t = c.len-total.ensures in omega arith) in
    subst (λ (n : ℕ). EachAt (HasTurns (length ls) n) 0 ls ls) long
    (subst (λ (n : ℕ). EachAt (HasTurns n (length lines)) 0 ls ls) (sym (each_length (λ i. Ran (share (length js) i lines)) 0 js ls ran))
    (all_have_turns (length js) lines js ls ran (none_failed 0 ls (sym c.in_default-first_error.ensures))))

pub returns-in-Ok-gather-clause-ok : goal.returns-in-Ok-gather-clause-ok
returns-in-Ok-gather-clause-ok g c =
    let js = c.args.jobs.now in
    let ls = c.run_all.new.jobs in
    let lines = c.args.lines.items in
    let turns = c.in-Ok-gather.turns in
    let ran = all_ran (length js) lines js c.deal.new.jobs ls c.requires.new c.in-Ok.ensures.ok c.run_all.ensures in
    all_submitted lines turns.items js ls c.gather.new.jobs
    (let o = c.args.lines.ok in let p = turns.ok in let t = c.len-total.ensures in let n = c.in-Ok-gather.ensures.count in omega arith)
    ran (none_failed 0 ls (sym c.in_default-first_error.ensures)) c.in-Ok-gather.ensures.turns c.in-Ok-gather.ensures.callers

pub returns-in-Err-clause-err : goal.returns-in-Err-clause-err
returns-in-Err-clause-err g c =
    let ran = all_ran (length c.args.jobs.now) c.args.lines.items c.args.jobs.now c.deal.new.jobs c.run_all.new.jobs c.requires.new c.in-Ok.ensures.ok c.run_all.ensures in
    all_refused c.args.lines.items c.args.jobs.now c.run_all.new.jobs c.gather.new.jobs ran c.gather.ensures.callers
