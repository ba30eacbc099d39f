use Rattle.std.proofs.Common.{refl}
use Rattle.std.specs.Fmt.{digits}
use Rattle.resp_write.specs.Subscription.{subscription_action, is_word}
use Rattle.sub_tracker.specs.Held.{held_after}
use Rattle.sub_tracker.specs.Pipeline.{request_of, resubscription}
use Rattle.protocol_examples.specs.Tracking.{tracked_commands, subscribed_after, is_subscribed, subscribed_names, resubscribing, bytes_that_resubscribe}
use Rattle.protocol_examples.proofs.Computed.{gives}
use Rattle.protocol_examples.proofs.tracking.these_names_are_subscribed.Goals as goal

pub returns : goal.returns
unfolding digits subscription_action is_word held_after resubscription
returns c = record { commands = gives request_of tracked_commands refl; names = gives held_after subscribed_after refl; each_name = gives is_subscribed subscribed_names refl; bytes = gives resubscribing bytes_that_resubscribe refl }
