use Rattle.std.proofs.Common.{◌-◌}
use Rattle.resp_read.specs.declared.stages.Head.TheVariants.{Array}
use Rattle.resp_read.proofs.WholeLaws.{array_reaches, no_size_stops}
use Rattle.resp_read.proofs.whole.pass_array.Goals as goal

pub returns-in-Ok-Some-clause-reaches : goal.returns-in-Ok-Some-clause-reaches
returns-in-Ok-Some-clause-reaches g c =
    let size = rw c.in-Ok-Some.field-0-is at c.in-Ok-Some.ensures.size in
    array_reaches c.args.limits (c.args.limits.depth - c.args.around) c.args.tape.now c.args.place.now.next c.in-Ok-Some.n size.4 c.read_size.new.place size.5 size.1 size.2 size.6 c.new.result c.new.ensures c.sequence_of.result c.sequence_of.ensures

pub returns-in-Err-clause-reaches : goal.returns-in-Err-clause-reaches
returns-in-Err-clause-reaches g c =
    no_size_stops c.args.limits (c.args.limits.depth - c.args.around) c.args.limits.count c.args.tape.now Array c.args.place.now c.read_size.new.place c.in-Err.refusal c.in-Err.ensures.size
