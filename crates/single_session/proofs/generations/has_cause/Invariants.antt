use Rattle.std.proofs.Common.{◌≡◌, drop}
use Rattle.single_session.specs.Generations.{has_cause}
use Rattle.single_session.proofs.generations.has_cause.Given as goal

-- none of those that were looked at does
abbrev pub invariant-loop-act : goal.invariant-loop-act
invariant-loop-act l = has_cause l.opened (drop l.act-index l.acts) ≡ has_cause l.opened l.acts
