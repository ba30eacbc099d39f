use Rattle.std.proofs.Common.{◌++◌, length, drop, ap, ◌∙◌, arith}
use Rattle.resp_read.specs.declared.frames.Begun.TheVariants.{Within}
use Rattle.resp_read.proofs.UnderwayLaws.{begun_there, held_there, stops}
use Rattle.resp_read.proofs.underway.read_from.Goals as goal

pub returns-in-Err-clause-reads : goal.returns-in-Err-clause-reads
returns-in-Err-clause-reads g c =
    let so_far = c.loop-begun.invariant in
    stops c.args.limits c.args.tape.now c.args.frames.now.items c.args.place.now c.loop-begun.frames.items c.loop-begun.place so_far.order so_far.same (length c.as_slice-around.result.now) c.in-Err.refusal c.advance.new.place (ap length c.as_slice-around.ensures.value) c.in-Err.ensures.advances

pub loop-begun-preserved : goal.loop-begun-preserved
loop-begun-preserved g c =
    let so_far = c.loop-begun.invariant in
    let step = c.in-Ok-Some.ensures in
    let frames = c.loop-begun.frames.items in
    let cur = c.loop-begun.place in
    let new = c.advance.new.place in
    let tape = c.args.tape.now in
    let first = rw c.in-Ok-Some.field-0-is at step.first in
    let costs = step.costs in
    let before = so_far.costs in
    record {
      place = step.place;
      order = omega (arith, so_far.order, step.advances.0);
      same = λ m. so_far.same m ∙ held_there c.args.limits frames cur.stage (drop cur.next tape ++ m) (drop new.next tape ++ m) c.in-Within.frame c.hold.new.frames.items new.stage c.in-Ok.ensures first
          (begun_there c.args.limits frames (length c.as_slice-around.result.now) cur.stage new.stage (drop cur.next tape ++ m) (drop new.next tape ++ m) c.in-Ok-Some.field-0 c.in-Ok-Some.begun (Within c.in-Within.frame) (ap length c.as_slice-around.ensures.value) c.in-Ok-Some.field-0-is c.in-Within.is (step.advances.2 m));
      costs = omega (arith, before, costs);
    }
