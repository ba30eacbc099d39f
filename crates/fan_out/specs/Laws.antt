-- What holds of every fold, in the words of parts that end one after another.
use Rattle.std.specs.Prelude.{◌≡◌, ℕ, ◌<◌, ◌≤◌, ◌⊎◌, ℤ, Bool, true, false, List, [], ◌∷◌, ◌++◌, length, map, Option, Some, None, IsSome, IfSome, FitsSigned, slice_get}
use Rattle.std.specs.Int.{w64}
use Rattle.std.specs.List.Sorted.{IsStrictlySortedBy}
use Rattle.slot_hash.specs.declared.address.NodeAddress.{NodeAddress}
use Rattle.command_table.specs.declared.routing.ResponsePolicy.{ResponsePolicy}
use Rattle.command_table.specs.declared.routing.ResponsePolicy.TheVariants.{AllSucceeded, OneSucceeded, FirstSucceededNonEmptyOrAllEmpty, Sum, Min, And, CombineArrays, CombineMaps, Special}
use Rattle.command_table.specs.declared.routing.MultipleNodeRoutingInfo.{MultipleNodeRoutingInfo}
use Rattle.resp_value.specs.Data.{Data}
use Rattle.resp_value.specs.declared.value.Value.TheVariants as value
use Rattle.redis_error.specs.declared.redis_error.RedisError.{RedisError}
use Rattle.cluster_retries.specs.declared.round_end.RoundEnd.TheVariants as ends
use Rattle.fan_out.specs.declared.parts.PartResult.{PartResult}
use Rattle.fan_out.specs.declared.parts.FoldResult.{FoldResult}
use Rattle.fan_out.specs.declared.parts.FoldResult.TheVariants as folded
use Rattle.fan_out.specs.Came.{all_came, error_came}
use Rattle.fan_out.specs.Numbers.{sum_of}
use Rattle.fan_out.specs.Arrays.{Row, keyed, of_keys}
use Rattle.fan_out.specs.Fold.{fold}
use Rattle.fan_out.specs.Tallies.{Count, byte_order, number_of, sum_for, tally}

-- once each part of one or more has its value or error, the result is told
abbrev pub WholeIsDecided : Type 0
WholeIsDecided =
    (policy : Option ResponsePolicy) (routing : MultipleNodeRoutingInfo) (first : PartResult) (others : List PartResult)
    → all_came (first ∷ others) ≡ true → IsSome (fold policy routing (first ∷ others))

-- a part that ended, ended at this number or before
abbrev pub EndedBy : ℕ → PartResult → Type 0
EndedBy last p = IfSome p.ended (λ e. e.arrival ≤ last)

-- a part that ended, ended behind this number
abbrev pub EndedBehind : ℕ → PartResult → Type 0
EndedBehind last p = IfSome p.ended (λ e. last < e.arrival)

abbrev pub AllEndedBy : ℕ → List PartResult → Type 0
AllEndedBy last [] = Unit {0}
AllEndedBy last (p ∷ ps) = EndedBy last p × AllEndedBy last ps

-- a part as it is later: as it was, or it hadn't ended, and if it has now, it was behind this number
abbrev pub IsLater : ℕ → PartResult → PartResult → Type 0
IsLater last p q = (q ≡ p) ⊎ ((p.ended ≡ None) × EndedBehind last q)

-- so for each part
abbrev pub AreLater : ℕ → List PartResult → List PartResult → Type 0
AreLater last [] [] = Unit {0}
AreLater last (p ∷ ps) (q ∷ qs) = IsLater last p q × AreLater last ps qs
AreLater last _ _ = ⊥

-- what is told stays, whatever parts end later
abbrev pub DecidedStays : Type 0
DecidedStays =
    (policy : Option ResponsePolicy) (routing : MultipleNodeRoutingInfo) (last : ℕ) (parts later : List PartResult) (result : FoldResult)
    → AllEndedBy last parts → AreLater last parts later → fold policy routing parts ≡ Some result → fold policy routing later ≡ Some result

-- a policy that asks that all parts succeed
abbrev pub asks_all : ResponsePolicy → Bool
asks_all AllSucceeded = true
asks_all Sum = true
asks_all Min = true
asks_all And = true
asks_all CombineArrays = true
asks_all CombineMaps = true
asks_all OneSucceeded = false
asks_all FirstSucceededNonEmptyOrAllEmpty = false
asks_all Special = false

-- each error of these parts came behind this number
abbrev pub ErrorsBehind : ℕ → List PartResult → Type 0
ErrorsBehind number [] = Unit {0}
ErrorsBehind number (p ∷ ps) = IfSome (error_came p) (λ c. number < c.0) × ErrorsBehind number ps

-- each error of these parts came at this number or behind it
abbrev pub ErrorsFrom : ℕ → List PartResult → Type 0
ErrorsFrom number [] = Unit {0}
ErrorsFrom number (p ∷ ps) = IfSome (error_came p) (λ c. number ≤ c.0) × ErrorsFrom number ps

-- a part that ended with this error, which came at this number
abbrev pub with_failure : NodeAddress → ℕ → RedisError → PartResult
with_failure address number e = record { address = address; ended = Some (record { arrival = number; end = ends.Error e }) }

-- where all have to succeed, the error that came first is the result: those of the parts before came later, and those of the parts behind no earlier
abbrev pub FirstErrorIsTold : Type 0
FirstErrorIsTold =
    (policy : ResponsePolicy) (routing : MultipleNodeRoutingInfo) (before behind : List PartResult) (address : NodeAddress) (number : ℕ) (e : RedisError)
    → asks_all policy ≡ true → ErrorsBehind number before → ErrorsFrom number behind
    → fold (Some policy) routing (before ++ with_failure address number e ∷ behind) ≡ Some (folded.Error e)

-- a part that ended with an integer
abbrev pub with_integer : NodeAddress × ℕ × ℤ → PartResult
with_integer p = record { address = p.0; ended = Some (record { arrival = p.1; end = ends.Value (value.Int p.2) }) }

-- a sum over integers is their sum, where it has 64 bits
abbrev pub SumIsTheSum : Type 0
SumIsTheSum =
    (routing : MultipleNodeRoutingInfo) (parts : List (NodeAddress × ℕ × ℤ))
    → FitsSigned w64 (sum_of (map (λ p. p.2) parts))
    → fold (Some Sum) routing (map with_integer parts) ≡ Some (folded.Value (value.Int (sum_of (map (λ p. p.2) parts))))

-- none of these elements has this place
abbrev pub HasNo : ℕ → List (ℕ × Data) → Type 0
HasNo place [] = Unit {0}
HasNo place (e ∷ es) = (e.0 ≡ place → ⊥) × HasNo place es

-- of several slots each element stands at the place of its key, as no other key has that place
abbrev pub ElementsStandAtTheirKeys : Type 0
ElementsStandAtTheirKeys =
    (rows : List Row) (before behind : List (ℕ × Data)) (place : ℕ) (element : Data)
    → keyed rows ≡ before ++ (place, element) ∷ behind → place < length (keyed rows) → HasNo place behind
    → slice_get (of_keys rows) place ≡ Some element

-- and there are as many as keys
abbrev pub AsManyAsKeys : Type 0
AsManyAsKeys = (rows : List Row) → length (of_keys rows) ≡ length (keyed rows)

-- under each name stands the sum of its numbers; a name that isn't there has the sum 0
abbrev pub SumsStandUnderNames : Type 0
SumsStandUnderNames = (counts : List Count) (name : List ℕ) → number_of name (tally counts) ≡ sum_for name counts

-- the names stand in byte order, each once
abbrev pub NamesAscend : Type 0
NamesAscend = (counts : List Count) → IsStrictlySortedBy byte_order (map (λ c. c.0) (tally counts))
