use Rattle.std.proofs.Common.{sym, arith}
use Rattle.mux_routing.proofs.Overlaying.{before_first}
use Rattle.mux_routing.proofs.overlay.stretch_at.Goals as goal

pub returns-clause-same : goal.returns-clause-same
returns-clause-same c = λ slot ge le. before_first c.args.ranges.now c.in-Some.first.now slot c.requires.apart (sym c.in-Some.ensures.value) (omega (arith, le, c.if-first-at.false))
