use Rattle.std.proofs.Common.{Some, None, drop, subst}
use Rattle.resp_read.specs.Limits.{bounds}
use Rattle.resp_read.specs.Stages.{Follows}
use Rattle.resp_read.proofs.LookLaws.{line_passes, line_refused}
use Rattle.resp_read.proofs.place.pass_line.Goals as goal

pub returns-in-Ok-Some-clause-passes : goal.returns-in-Ok-Some-clause-passes
returns-in-Ok-Some-clause-passes g c =
    line_passes c.args.limits c.args.head (drop c.args.next c.args.tape.now) (record { text = c.take_line.new.text; front = c.args.line.now.front }) (rw c.in-Ok-true.field-0-test at c.in-Ok-true.ensures.look) c.in-Ok-Some.follow
    (subst (λ l. Follows (bounds c.args.limits) c.args.head l (Some c.in-Ok-Some.follow)) c.as_slice.ensures.value (rw c.in-Ok-Some.field-0-is at c.in-Ok-Some.ensures))

pub returns-in-Ok-None-clause-passes : goal.returns-in-Ok-None-clause-passes
returns-in-Ok-None-clause-passes g c =
    line_refused c.args.limits c.args.head (drop c.args.next c.args.tape.now) (record { text = c.take_line.new.text; front = c.args.line.now.front }) (rw c.in-Ok-true.field-0-test at c.in-Ok-true.ensures.look)
    (subst (λ l. Follows (bounds c.args.limits) c.args.head l None) c.as_slice.ensures.value (rw c.in-Ok-None.field-0-is at c.in-Ok-None.ensures))
