-- Which names are subscribed after a list of tracked commands.
use Rattle.std.specs.Prelude.{◌≡◌, ℕ, ◌==◌, Bool, true, false, ◌&&◌, List, [], ◌∷◌, ◌++◌, if◌then◌else◌}
use Rattle.std.specs.List.{list_any}
use Rattle.std.specs.List.Sorted.{IsStrictlySortedBy}
use Rattle.std.specs.declared.cmp.Ordering.{Ordering}
use Rattle.std.specs.Ordering.{nat_cmp}
use Rattle.std.specs.Cmp.Lexicographic.{slice_cmp}
use Rattle.std.specs.Str.{bytes_eq}
use Rattle.resp_write.specs.declared.subscription.SubscriptionAction.{SubscriptionAction}
use Rattle.resp_write.specs.declared.subscription.SubscriptionAction.TheVariants.{Subscribe, Unsubscribe, PSubscribe, PUnsubscribe, SSubscribe, Sunsubscribe}

-- a tracked command: what it does, and the names that it gives
abbrev pub Request : Type 0
Request = SubscriptionAction × List (List ℕ)

-- the families of names; one name may stand in several
pub data Family : Type 0 where
  Plain : Family
  Sharded : Family
  Pattern : Family

-- the family of a command
abbrev pub family_of : SubscriptionAction → Family
family_of Subscribe = Plain
family_of Unsubscribe = Plain
family_of SSubscribe = Sharded
family_of Sunsubscribe = Sharded
family_of PSubscribe = Pattern
family_of PUnsubscribe = Pattern

-- whether a command subscribes its names; else it unsubscribes them
abbrev pub subscribes : SubscriptionAction → Bool
subscribes Subscribe = true
subscribes SSubscribe = true
subscribes PSubscribe = true
subscribes Unsubscribe = false
subscribes Sunsubscribe = false
subscribes PUnsubscribe = false

-- which of the families it is, by number
abbrev pub place : Family → ℕ
place Plain = 0
place Sharded = 1
place Pattern = 2

-- whether the name is among these
abbrev pub is_among : List ℕ → List (List ℕ) → Bool
is_among name names = list_any (bytes_eq name) names

-- whether the command is of this family and gives the name
abbrev pub concerns : Family → List ℕ → Request → Bool
concerns f name r = (place (family_of r.0) == place f) && is_among name r.1

-- whether the name is subscribed after these commands, where was says whether it was before: the last command that concerns it decides
abbrev pub subscribed_on : Family → List ℕ → Bool → List Request → Bool
subscribed_on f name was [] = was
subscribed_on f name was (r ∷ rs) = subscribed_on f name (if concerns f name r then subscribes r.0 else was) rs

-- whether the last of these commands that is of this family and gives the name subscribed it; a name that none gives is not subscribed
abbrev pub subscribed : Family → List ℕ → List Request → Bool
subscribed f name history = subscribed_on f name false history

-- a command of the family that gives the name decides whether it is subscribed after it
abbrev pub LastDecides : Type 0
LastDecides =
    (f : Family) (name : List ℕ) (history : List Request) (r : Request) → concerns f name r ≡ true
    → subscribed f name (history ++ r ∷ []) ≡ subscribes r.0

-- any other command leaves that as it was
abbrev pub OthersLeave : Type 0
OthersLeave =
    (f : Family) (name : List ℕ) (history : List Request) (r : Request) → concerns f name r ≡ false
    → subscribed f name (history ++ r ∷ []) ≡ subscribed f name history

-- the order of names by their bytes
abbrev pub byte_order : List ℕ → List ℕ → Ordering
byte_order = slice_cmp nat_cmp

-- these are exactly the names of the family that are subscribed, in byte order
pub record AreSubscribed (f : Family) (history : List Request) (names : List (List ℕ)) : Type 0 where
  pub ordered : IsStrictlySortedBy byte_order names
  pub exact : (name : List ℕ) → is_among name names ≡ subscribed f name history
