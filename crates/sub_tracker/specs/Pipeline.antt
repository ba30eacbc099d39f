-- The commands that subscribe again what is subscribed, and which commands are tracked.
use Rattle.std.specs.Prelude.{◌≡◌, ℕ, false, List, [], ◌∷◌, ◌++◌, map, Option, None, codes}
use Rattle.std.specs.Option.{option_map}
use Rattle.resp_write.specs.Command.{Command, CommandList}
use Rattle.resp_write.specs.Subscription.{subscription_action}
use Rattle.sub_tracker.specs.Subscribed.{Request, Family, AreSubscribed}
use Rattle.sub_tracker.specs.Held.{Held, names_of}

-- the tracked command that has these arguments, if it is one of the six: its name says what it does, the others are the names that it gives
abbrev pub request_of : List (List ℕ) → Option Request
request_of [] = None
request_of (name ∷ names) = option_map (λ action. (action, names)) (subscription_action name)

-- the command of this word for these names; without names there is none
abbrev pub command_for : List ℕ → List (List ℕ) → List Command
command_for word [] = []
command_for word (name ∷ names) = record { args = word ∷ name ∷ names; no_response = false } ∷ []

-- a pipeline, and these commands after it, none of them marked
abbrev pub followed_by : CommandList → List Command → CommandList
followed_by p cs = record { commands = p.commands ++ cs; ignored = p.ignored ++ map (λ _. false) cs; atomic = p.atomic }

-- SUBSCRIBE, SSUBSCRIBE and PSUBSCRIBE of these names, in this order and no transaction; a family without names is left out
unfoldable pub resubscription : Held → CommandList
resubscription h =
    followed_by (followed_by (followed_by (record { commands = []; ignored = []; atomic = false }) (command_for (codes "SUBSCRIBE") h.plain)) (command_for (codes "SSUBSCRIBE") h.sharded)) (command_for (codes "PSUBSCRIBE") h.pattern)

-- the pipeline subscribes again exactly what is subscribed after these commands
pub record Resubscribes (history : List Request) (p : CommandList) : Type 0 where
  pub names : Held
  pub exact : (f : Family) → AreSubscribed f history (names_of f names)
  pub is : p ≡ resubscription names

-- two pipelines that subscribe again what is subscribed after the same commands are one
abbrev pub OnePipeline : Type 0
OnePipeline =
    (history : List Request) (p q : CommandList) → Resubscribes history p → Resubscribes history q → p ≡ q
