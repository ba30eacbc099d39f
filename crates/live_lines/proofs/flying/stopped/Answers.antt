use Rattle.std.proofs.Common.{◌∙◌, ap}
use Rattle.shared_session.specs.declared.errors.StepError.TheVariants.{Spent}
use Rattle.live_lines.proofs.RunningOut.{same_count}
use Rattle.live_lines.proofs.flying.stopped.Goals as goal

pub returns-in-Ok-clause-spent : goal.returns-in-Ok-clause-spent
returns-in-Ok-clause-spent c = λ n same. (
  c.in-Spent.is ∙ ap Spent (same_count c.in-Spent.events n same),
  (c.in-Ok.kept.0.events, (c.in-Ok.ensures.begins, c.in-Ok.ensures.mine)),
)
