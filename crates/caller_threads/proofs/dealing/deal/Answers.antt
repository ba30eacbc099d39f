use Rattle.std.proofs.Common.{◌≡◌, ◌++◌, ◌∷◌, [], length, refl, sym, ap, ◌∙◌, append_assoc, length-append, arith}
use Rattle.caller_threads.proofs.Jobs.{fed_none, fed_more, fed_no_more, all_dealt}
use Rattle.caller_threads.proofs.Results.{on_err_any}
use Rattle.caller_threads.proofs.dealing.deal.Goals as goal

pub loop-i-init : goal.loop-i-init
loop-i-init c = ([], sym c.from_vec-rest.ensures, refl, fed_none (length c.args.jobs.now) c.args.jobs.now)

pub returns-in_err-give-clause-err : goal.returns-in_err-give-clause-err
returns-in_err-give-clause-err c =
    let i = c.loop-i.invariant in
    on_err_any c.from_residual.result _
    (fed_no_more (length c.args.jobs.now) i.0 c.args.jobs.now c.loop-i.jobs c.give.new.jobs i.3 c.in_err-give.ensures.err)

pub loop-i-preserved : goal.loop-i-preserved
loop-i-preserved c =
    let i = c.loop-i.invariant in
    let line = c.in-Some.line in
    let e : c.loop-i.rest ≡ line ∷ c.pop_front.new.self = c.in-Some.ensures in (
      i.0 ++ line ∷ [],
      i.1 ∙ ap (λ l. i.0 ++ l) e ∙ sym (append_assoc i.0 (line ∷ []) c.pop_front.new.self),
      (let n = i.2 in let l = length-append i.0 (line ∷ []) in omega arith),
      fed_more (length c.args.jobs.now) c.loop-i.i i.0 line c.args.jobs.now c.loop-i.jobs c.give.new.jobs i.2 i.3 c.in_ok-give.ensures.ok,
    )

pub returns-clause-ok : goal.returns-clause-ok
returns-clause-ok c =
    let i = c.loop-i.invariant in
    all_dealt (length c.args.jobs.now) c.args.lines.items i.0 c.loop-i.rest c.args.jobs.now c.loop-i.jobs i.1
    (let n = i.2 in let o = c.args.lines.ok in let t = c.len-total.ensures in let f = c.loop-i-test.false in omega arith) i.3
