use Rattle.std.proofs.Common.{◌+◌, ◌-◌, arith}
use Rattle.resp_read.proofs.WholeLaws.{first_goes, costs_on}
use Rattle.resp_read.proofs.place.pass_first.Goals as goal

pub returns-in-Some-clause-goes : goal.returns-in-Some-clause-goes
returns-in-Some-clause-goes g c =
    let some = c.requires.some in
    let end = c.len-end.ensures in
    first_goes c.args.limits (c.args.limits.depth - c.args.around) c.args.tape.now c.args.place.now.next c.at-first.result c.in-Some.head _ some c.at-first.ensures.byte (omega (arith, some, end)) c.in-Some.ensures c.pass_head.result c.pass_head.new.place c.pass_head.ensures.reaches

pub returns-in-Some-clause-costs : goal.returns-in-Some-clause-costs
returns-in-Some-clause-costs g c =
    let some = c.requires.some in
    let end = c.len-end.ensures in
    let steps = c.at-first.ensures.steps in
    costs_on c.args.tape.now c.args.place.now (record { next = c.len-end.result - (c.len-end.result - c.args.place.now.next - 1); stage = c.args.place.now.stage; line = c.args.place.now.line }) c.pass_head.new.place c.args.steps.now (c.at-first.new.steps + 1) c.pass_head.new.steps c.pass_head.result (omega (arith, some, end, steps)) c.pass_head.ensures.costs
