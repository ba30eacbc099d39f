use Rattle.std.proofs.Common.{◌≡◌, drop}
use Rattle.single_session.specs.Generations.{creation_fails}
use Rattle.single_session.proofs.generations.creation_fails.Given as goal

-- none of those that were looked at does
abbrev pub invariant-loop-act : goal.invariant-loop-act
invariant-loop-act l = creation_fails (drop l.act-index l.acts) ≡ creation_fails l.acts
