use Rattle.std.proofs.Common.{◌-◌}
use Rattle.resp_read.specs.declared.stages.Head.TheVariants.{Bulk}
use Rattle.resp_read.proofs.WholeLaws.{bulk_reaches, costs_on, no_size_stops}
use Rattle.resp_read.proofs.whole.pass_bulk.Goals as goal

pub returns-in-Ok-Some-clause-reaches : goal.returns-in-Ok-Some-clause-reaches
returns-in-Ok-Some-clause-reaches g c =
    let size = rw c.in-Ok-Some.field-0-is at c.in-Ok-Some.ensures.size in
    bulk_reaches c.args.limits (c.args.limits.depth - c.args.around) c.args.tape.now c.args.place.now.next c.in-Ok-Some.n size.4 c.read_size.new.place size.5 size.1 size.6 c.pass_body.result c.pass_body.new.place c.pass_body.ensures.reaches

pub returns-in-Ok-Some-clause-costs : goal.returns-in-Ok-Some-clause-costs
returns-in-Ok-Some-clause-costs g c =
    costs_on c.args.tape.now c.args.place.now c.read_size.new.place c.pass_body.new.place _ _ _ c.pass_body.result c.in-Ok-Some.ensures.costs c.pass_body.ensures.costs

pub returns-in-Err-clause-reaches : goal.returns-in-Err-clause-reaches
returns-in-Err-clause-reaches g c =
    no_size_stops c.args.limits (c.args.limits.depth - c.args.around) c.args.limits.bulk c.args.tape.now Bulk c.args.place.now c.read_size.new.place c.in-Err.refusal c.in-Err.ensures.size
