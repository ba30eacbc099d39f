use Rattle.std.proofs.Common.{◌≡◌, drop}
use Rattle.single_session.specs.Subscriptions.{tracked_each}
use Rattle.single_session.proofs.subscriptions.Subscriptions.track_each.Given as goal

abbrev pub invariant-loop-act : goal.invariant-loop-act
invariant-loop-act l = tracked_each l.self (drop l.act-index l.acts) ≡ tracked_each l.fn.self l.acts
