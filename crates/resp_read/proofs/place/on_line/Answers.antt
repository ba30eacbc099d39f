use Rattle.std.proofs.Common.{ap, arith}
use Rattle.resp_read.specs.declared.place.Place.{Place}
use Rattle.resp_read.proofs.PlaceLaws.{line_left}
use Rattle.resp_read.proofs.place.on_line.Goals as goal

pub returns-in-Ok-clause-place : goal.returns-in-Ok-clause-place
returns-in-Ok-clause-place g c =
    let end = c.len-end.ensures in
    let next = ap (λ (p : Place). p.next) c.enter.ensures in
    line_left c.args.tape.now c.enter.new.self c.clear.new.self c.in-Ok.follow (ap (λ (p : Place). p.line) c.enter.ensures) c.clear.ensures (omega (arith, next, end)) (ap (λ (p : Place). p.stage) c.enter.ensures) c.in-Ok.ensures.passes.0
