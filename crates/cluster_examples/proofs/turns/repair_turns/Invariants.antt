use Rattle.std.proofs.Common.{◌≡◌, ◌≤◌, ◌+◌, [], length}
use Rattle.cluster_plan.specs.declared.recovery_kind.RecoveryKind.TheVariants as kind
use Rattle.cluster_plan.specs.Plan.{plan}
use Rattle.cluster_plan.specs.Repairing.{repair_from}
use Rattle.cluster_examples.specs.Turns.{turns}
use Rattle.cluster_examples.proofs.Turning.{TurnsOf}
use Rattle.cluster_examples.proofs.turns.repair_turns.Given as goal

abbrev pub invariant-loop-rest : goal.invariant-loop-rest
invariant-loop-rest l =
    (l.repair.address ≡ l.fn.address)
    × (l.repair.attempt + length l.rest ≤ length l.fn.told.items + 1)
    × TurnsOf l.fn.address l.entries l.slots l.steps (turns (repair_from l.repair l.entries l.slots) l.rest)
    (turns (plan (kind.Repair l.fn.address) [] l.entries l.slots l.fn.attempts) l.fn.told.items)

abbrev pub decreases-loop-rest : goal.decreases-loop-rest
decreases-loop-rest l = length l.rest
