use Rattle.std.proofs.Common.{arith}
use Rattle.manager_config.proofs.Bounds.{stands_until}
use Rattle.manager_config.proofs.backoff.bound_after.Goals as goal

pub returns-then-next-bound : goal.returns-then-next-bound
returns-then-next-bound c =
    stands_until c.args.config.now c.loop-attempt._attempt c.args.n c.loop-attempt.bound c.grow-next.result c.loop-attempt.invariant c.grow-next.ensures c.if-next-bound.true (omega arith)
