use Rattle.std.proofs.Common.{◌≡◌, length, List, sym, ap, ◌∙◌, subst, arith}
use Rattle.shared_session.specs.declared.errors.StepError.TheVariants.{NoMemory}
use Rattle.session_callers.specs.Calls.{Known}
use Rattle.session_callers.specs.Rule.{Each}
use Rattle.caller_threads.specs.Submits.{AreAllowed, HaveRun, HaveStopped}
use Rattle.caller_threads.specs.Jobs.{callers_of, IsOfTable}
use Rattle.caller_threads.proofs.Results.{written_over}
use Rattle.caller_threads.proofs.Jobs.{length_callers, each_of, none_submitted, run_and_refused}
use Rattle.caller_threads.proofs.submit.submit_lines.Goals as goal

pub returns-in_default-clause-err : goal.returns-in_default-clause-err
returns-in_default-clause-err g c =
    subst (λ (ws : List Known). HaveStopped NoMemory c.args.callers.now.items ws c.args.lines.items) (sym c.in_default.ensures.err)
    (none_submitted c.args.lines.items c.args.callers.now.items)

pub submit_all-answer-requires-clause-of : goal.submit_all-answer-requires-clause-of
submit_all-answer-requires-clause-of g c κs within =
    let z = c.args.shared.now.table.shared.table_id in
    subst (Each (IsOfTable z)) (sym c.as_mut_slice.ensures.value)
    (each_of z c.in-Ok.seated.items (subst (Each (λ (v : Known). v.table ≡ z)) (sym c.in-Ok.ensures.callers) c.requires.of))

pub submit_all-answer-requires-clause-allowed : goal.submit_all-answer-requires-clause-allowed
submit_all-answer-requires-clause-allowed g c κs within =
    let lines = c.args.lines.items in
    let before = ap callers_of c.as_mut_slice.ensures.value ∙ c.in-Ok.ensures.callers in
    subst (Each (AreAllowed lines)) (sym before) c.requires.allowed

pub unseat-requires-clause-room : goal.unseat-requires-clause-room
unseat-requires-clause-room g c =
    let a = ap length c.in-Ok.ensures.callers in
    let b = length_callers c.in-Ok.seated.items in
    let o = c.in-Ok.seated.ok in
    let q = c.args.callers.now.ok in
    let r = c.in-Ok.ensures.room in
    omega arith

pub returns-in-Err-tell-clause-err : goal.returns-in-Err-tell-clause-err
returns-in-Err-tell-clause-err g c =
    let vs = c.args.callers.now.items in
    let lines = c.args.lines.items in
    let turns = c.in-Ok-answer.turns.items in
    let jobs = c.in-Ok.seated in
    let done = c.submit_all-answer.new.jobs in
    let before = ap callers_of c.as_mut_slice.ensures.value ∙ c.in-Ok.ensures.callers in
    let long : length done ≡ length jobs.items = (let l = ap length c.as_mut_slice.ensures.value in let m = c.submit_all-answer.auto.jobs in omega arith) in
    let after = c.unseat.ensures ∙ ap callers_of (written_over jobs.len done jobs.items long (let o = jobs.ok in omega arith)) in
    let run = subst (λ (l : List Known). HaveRun l (callers_of done) lines turns) before c.in-Ok-answer.ensures.ok in
    run_and_refused vs c.unseat.new.callers.items lines turns (subst (λ (l : List Known). HaveRun vs l lines turns) (sym after) run)
