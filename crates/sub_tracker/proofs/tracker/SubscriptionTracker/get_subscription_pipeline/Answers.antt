use Rattle.std.proofs.Common.{sym, subst}
use Rattle.sub_tracker.specs.Pipeline.{Resubscribes}
use Rattle.sub_tracker.proofs.Held.{held_resubscribes}
use Rattle.sub_tracker.proofs.tracker.SubscriptionTracker.get_subscription_pipeline.Goals as goal

pub returns-clause-subscribed : goal.returns-clause-subscribed
returns-clause-subscribed c = λ history e. subst (Resubscribes history) (sym c.in_ok-pipeline.ensures) (held_resubscribes history _ e)
