use Rattle.std.proofs.Common.{◌≡◌}
use Rattle.manager_config.specs.Backoff.{delay_bound}
use Rattle.manager_config.proofs.backoff.bound_after.Given as goal

abbrev pub invariant-loop-attempt : goal.invariant-loop-attempt
invariant-loop-attempt l = l.bound ≡ delay_bound l.config l._attempt
