use Rattle.std.proofs.Common.{ap}
use Rattle.session_callers.proofs.Turning.{took_of}
use Rattle.session_callers.proofs.turn.begin.Goals as goal

pub returns-clause-took : goal.returns-clause-took
returns-clause-took g c =
    let d = c.draw-ticket.ensures.drew in
    let s = c.wait.ensures.served in
    let out = c.take.ensures.holding in
    let is = c.take.ensures.session in
    let may = c.take.ensures.spent in
    (took_of c.args.seat.now.me.0 c.draw-ticket.new.seat.me.0 c.wait.new.seat.me.0 c.take.new.seat.me.0 c.take.result d.0 s.0 s.1 s.2 (ap (λ m. m.0) d.2) s.3 (ap (λ m. m.0) s.4) (ap (λ m. m.0) out) is.0 is.1 is.2 may.0 may.1, ap (λ m. m.1) out)
