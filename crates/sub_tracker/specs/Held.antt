-- The names that a tracker holds, and what a tracked command makes of them.
use Rattle.std.specs.Prelude.{ℕ, Bool, false, List, [], ◌∷◌}
use Rattle.std.specs.BTreeMap.{is_at}
use Rattle.std.specs.BTreeSet.{insert_key}
use Rattle.std.specs.Set.{remove_key}
use Rattle.resp_write.specs.declared.subscription.SubscriptionAction.{SubscriptionAction}
use Rattle.resp_write.specs.declared.subscription.SubscriptionAction.TheVariants.{Subscribe, Unsubscribe, PSubscribe, PUnsubscribe, SSubscribe, Sunsubscribe}
use Rattle.sub_tracker.specs.Subscribed.{Request, Family, Plain, Sharded, Pattern, byte_order}

-- names of each family
pub record Held : Type 0 where
  pub plain : List (List ℕ)
  pub sharded : List (List ℕ)
  pub pattern : List (List ℕ)

-- a tracker: what it holds, and whether it has failed
pub record TrackerState : Type 0 where
  pub held : Held
  pub failed : Bool

-- a tracker that holds these names, and has not failed
abbrev pub holding : Held → TrackerState
holding h = record { held = h; failed = false }

abbrev pub nothing : Held
nothing = record { plain = []; sharded = []; pattern = [] }

abbrev pub names_of : Family → Held → List (List ℕ)
names_of Plain h = h.plain
names_of Sharded h = h.sharded
names_of Pattern h = h.pattern

-- each name put at its place in byte order, unless it is there
abbrev pub with_all : List (List ℕ) → List (List ℕ) → List (List ℕ)
with_all held [] = held
with_all held (name ∷ names) = with_all (insert_key byte_order held name) names

-- each name taken out, where it is there
abbrev pub without_all : List (List ℕ) → List (List ℕ) → List (List ℕ)
without_all held [] = held
without_all held (name ∷ names) = without_all (remove_key (is_at (byte_order name)) held) names

-- what is held after one more command
abbrev pub held_with : Held → SubscriptionAction → List (List ℕ) → Held
held_with h Subscribe names = record { plain = with_all h.plain names; sharded = h.sharded; pattern = h.pattern }
held_with h Unsubscribe names = record { plain = without_all h.plain names; sharded = h.sharded; pattern = h.pattern }
held_with h SSubscribe names = record { plain = h.plain; sharded = with_all h.sharded names; pattern = h.pattern }
held_with h Sunsubscribe names = record { plain = h.plain; sharded = without_all h.sharded names; pattern = h.pattern }
held_with h PSubscribe names = record { plain = h.plain; sharded = h.sharded; pattern = with_all h.pattern names }
held_with h PUnsubscribe names = record { plain = h.plain; sharded = h.sharded; pattern = without_all h.pattern names }

abbrev pub held_on : Held → List Request → Held
held_on h [] = h
held_on h (r ∷ rs) = held_on (held_with h r.0 r.1) rs

-- what is held after these commands
unfoldable pub held_after : List Request → Held
held_after history = held_on nothing history
