use Rattle.std.proofs.Common.{ap, ◌∙◌}
use Rattle.sub_tracker.proofs.Held.{held_with_last}
use Rattle.sub_tracker.proofs.tracker.SubscriptionTracker.update_with_request.Goals as goal

pub returns-in-Ok-clause-tracked : goal.returns-in-Ok-clause-tracked
returns-in-Ok-clause-tracked c = λ history e. ap (λ t. t.held) c.in-Ok.ensures.ok ∙ held_with_last history _ _ _ e
