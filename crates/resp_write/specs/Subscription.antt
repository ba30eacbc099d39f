-- The six names of subscription commands.
use Rattle.std.specs.Prelude.{ℕ, Bool, List, [], ◌∷◌, Option, codes}
use Rattle.std.specs.Map.{lookup}
use Rattle.std.specs.Str.{str_eq_ignore_ascii_case}
use Rattle.resp_write.specs.declared.subscription.SubscriptionAction.{SubscriptionAction}
use Rattle.resp_write.specs.declared.subscription.SubscriptionAction.TheVariants.{Subscribe, Unsubscribe, PSubscribe, PUnsubscribe, SSubscribe, Sunsubscribe}

-- whether a name is this word, without regard to ASCII case
unfoldable pub is_word : List ℕ → List ℕ → Bool
is_word name word = str_eq_ignore_ascii_case name word

-- each name, and what a command of this name does
abbrev pub subscription_names : List (List ℕ × SubscriptionAction)
subscription_names =
    (codes "SUBSCRIBE", Subscribe)
    ∷ (codes "UNSUBSCRIBE", Unsubscribe)
    ∷ (codes "PSUBSCRIBE", PSubscribe)
    ∷ (codes "PUNSUBSCRIBE", PUnsubscribe)
    ∷ (codes "SSUBSCRIBE", SSubscribe)
    ∷ (codes "SUNSUBSCRIBE", Sunsubscribe)
    ∷ []

-- the name of the command that does it
abbrev pub action_word : SubscriptionAction → List ℕ
action_word Subscribe = codes "SUBSCRIBE"
action_word Unsubscribe = codes "UNSUBSCRIBE"
action_word PSubscribe = codes "PSUBSCRIBE"
action_word PUnsubscribe = codes "PUNSUBSCRIBE"
action_word SSubscribe = codes "SSUBSCRIBE"
action_word Sunsubscribe = codes "SUNSUBSCRIBE"

-- what a command of this name does, if it is one of the six
unfoldable pub subscription_action : List ℕ → Option SubscriptionAction
subscription_action name = lookup (is_word name) subscription_names
