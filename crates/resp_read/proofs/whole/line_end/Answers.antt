use Rattle.std.proofs.Common.{arith}
use Rattle.resp_read.proofs.WholeLaws.{line_ends, line_breaks}
use Rattle.resp_read.proofs.whole.line_end.Goals as goal

pub returns-then-at-ne10-clause-end : goal.returns-then-at-ne10-clause-end
returns-then-at-ne10-clause-end g c =
    let more = c.if-left-lt2.false in
    let end = c.len-end.ensures in
    line_breaks c.args.limits c.args.tape.now c.args.next c.args.count c.at.result (omega (arith, more, end)) c.requires.clear (c.requires.ends (omega (arith, more, end))) c.at.ensures.byte c.if-at-ne10.true

pub returns-clause-end : goal.returns-clause-end
returns-clause-end g c =
    let more = c.if-left-lt2.false in
    let end = c.len-end.ensures in
    let fit = c.if-count-limits.false in
    line_ends c.args.limits c.args.tape.now c.args.next c.args.count c.at.result (omega (arith, more, end)) c.requires.clear (c.requires.ends (omega (arith, more, end))) c.at.ensures.byte (omega (arith, fit)) c.if-at-ne10.false _ (omega (arith, more, end))
