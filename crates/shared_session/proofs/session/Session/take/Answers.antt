use Rattle.std.proofs.Common.{◌+◌, ◌^◌, ◌<◌, length, subst, arith}
use Rattle.shared_session.specs.History.{History}
use Rattle.single_session.proofs.Replays.{turns_few}
use Rattle.shared_session.proofs.session.Session.take.Goals as goal

pub make-requires-clause-few : goal.make-requires-clause-few
make-requires-clause-few c =
    subst (λ (h : History). length h.events + 1 < 2 ^ 32) c.self.view_is
    (turns_few c.self.inside.core c.self.inside.config c.self.inside.word c.self.inside.events (c.self.invariant.core c.in-Sound.is) (omega (arith, c.if-self-from.false, c.from.ensures)))
