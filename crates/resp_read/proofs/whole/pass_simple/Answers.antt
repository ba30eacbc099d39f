use Rattle.std.proofs.Common.{◌-◌, length, [], drop, ap, arith}
use Rattle.resp_read.specs.declared.forms.OneLine.TheVariants.{Simple}
use Rattle.resp_read.specs.declared.stages.Head.TheVariants.{Value}
use Rattle.resp_read.proofs.WholeLaws.{no_end_stops}
use Rattle.resp_read.proofs.whole.pass_simple.Goals as goal

pub returns-in-Ok-clause-place : goal.returns-in-Ok-clause-place
returns-in-Ok-clause-place g c =
    let end = rw c.in-Ok-Some.field-0-is at c.in-Ok-Some.ensures.end in
    let line = c.in-Ok.ensures.line in
    let size = ap length (line []).1 in
    let fits = end.1 in
    record {
      fits = omega (arith, size, fits);
      taken = (line (drop c.in-Ok-Some.behind c.args.tape.now)).0;
      stage = c.requires.place.stage;
      alone = λ _. (line []).1;
    }

pub returns-in-Err-clause-reaches : goal.returns-in-Err-clause-reaches
returns-in-Err-clause-reaches g c =
    no_end_stops c.args.limits (c.args.limits.depth - c.args.around) c.args.tape.now c.args.place.now.next c.read_text-found.result (Value Simple) c.args.place.now c.in-Err.refusal c.in-Err.ensures.end
