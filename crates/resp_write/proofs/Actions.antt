-- The name of each subscription command is read as what that command does.
use Rattle.std.proofs.Common.{◌≡◌, ℕ, List, Some, refl, ap, ◌∙◌}
use Rattle.resp_write.specs.declared.subscription.SubscriptionAction.{SubscriptionAction}
use Rattle.resp_write.specs.declared.subscription.SubscriptionAction.TheVariants.{Subscribe, Unsubscribe, PSubscribe, PUnsubscribe, SSubscribe, Sunsubscribe}
use Rattle.resp_write.specs.Subscription.{is_word, action_word, subscription_action}

names_it : (a : SubscriptionAction) → subscription_action (action_word a) ≡ Some a
unfolding subscription_action is_word
names_it Subscribe = refl
names_it Unsubscribe = refl
names_it PSubscribe = refl
names_it PUnsubscribe = refl
names_it SSubscribe = refl
names_it Sunsubscribe = refl

pub word_is_read : (a : SubscriptionAction) (word : List ℕ) → word ≡ action_word a → subscription_action word ≡ Some a
word_is_read a word is = ap subscription_action is ∙ names_it a
