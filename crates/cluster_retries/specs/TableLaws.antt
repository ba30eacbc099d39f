-- What follows the end of a round, in the words of a cluster's user.
use Rattle.std.specs.Prelude.{◌≡◌, ◌≢◌, ℕ, Bool, true, false, List, codes}
use Rattle.std.specs.List.{All}
use Rattle.resp_value.specs.declared.retry_method.RetryMethod.TheVariants.{NoRetry, ReconnectFromInitialConnections}
use Rattle.resp_value.specs.declared.server_error.ServerError.{ServerError}
use Rattle.resp_value.specs.declared.value.Value.{Value}
use Rattle.resp_value.specs.Data.{Data, error}
use Rattle.resp_value.specs.ErrorTable.{method_of}
use Rattle.resp_value.specs.Redirect.{IsRedirect}
use Rattle.resp_value.specs.View.{data_of}
use Rattle.redis_error.specs.declared.redis_error.RedisError.{RedisError}
use Rattle.redis_error.specs.declared.redis_error.RedisError.TheVariants as fault
use Rattle.redis_error.specs.Errors.{error_method}
use Rattle.slot_hash.specs.declared.address.NodeAddress.{NodeAddress}
use Rattle.cluster_retries.specs.declared.round_end.OperationTarget.{OperationTarget}
use Rattle.cluster_retries.specs.declared.round_end.OperationTarget.TheVariants.{Node, FanOut}
use Rattle.cluster_retries.specs.declared.round_end.RoundEnd.{RoundEnd}
use Rattle.cluster_retries.specs.declared.round_end.RoundEnd.TheVariants as ended
use Rattle.cluster_retries.specs.declared.choosing.Next.TheVariants.{Answered, Pending, AtOnce}
use Rattle.cluster_retries.specs.declared.choosing.RecoveryAction.TheVariants as action
use Rattle.cluster_retries.specs.declared.choosing.Row.{Row}
use Rattle.cluster_retries.specs.Table.{IsLed, answered, following}

-- a value that no command is tried again for: it is no server error, or one that no method retries
abbrev pub IsGood : Data → Type 0
IsGood d = (e : ServerError) → d ≡ error e → method_of e.code ≡ NoRetry

-- a good value, and a list of good values, is answered, and no round and no action follows
abbrev pub ValuesAreAnswered : Type 0
ValuesAreAnswered =
    ((target : OperationTarget) (v : Value) (left : Bool) → IsGood (data_of v) → following target (ended.Value v) left ≡ answered action.None)
    × ((target : OperationTarget) (values : List Data) (left : Bool) → All IsGood values → following target (ended.Many values) left ≡ answered action.None)

-- the end of a round is that error of a server: a value that is it, or the error itself
abbrev pub EndsBy : RoundEnd → ServerError → Type 0
EndsBy (ended.Value v) e = data_of v ≡ error e
EndsBy (ended.Error r) e = r ≡ fault.Server e
EndsBy (ended.Many values) e = ⊥

-- a redirect of a node leads where it says: to its slot and its address, for the one command alone or for all
abbrev pub RedirectsLead : Type 0
RedirectsLead =
    (address : NodeAddress) (end : RoundEnd) (e : ServerError) (slot : ℕ) (text : List ℕ) (ask : Bool)
    → EndsBy end e → IsRedirect e slot text ask → IsLed (Node address) end true slot text ask

-- MOVED of a node: at once to where it leads, and the slots are rebuilt
abbrev pub MovedIsFollowed : Type 0
MovedIsFollowed =
    (address : NodeAddress) (end : RoundEnd) (e : ServerError) → EndsBy end e → e.code ≡ codes "MOVED"
    → following (Node address) end true ≡ record { next = AtOnce; reset = false; redirected = true; action = action.RebuildSlots }

-- ASK of a node: at once to where it leads, and nothing else is done
abbrev pub AskIsFollowed : Type 0
AskIsFollowed =
    (address : NodeAddress) (end : RoundEnd) (e : ServerError) → EndsBy end e → e.code ≡ codes "ASK"
    → following (Node address) end true ≡ record { next = AtOnce; reset = false; redirected = true; action = action.None }

-- READONLY of a node: its routing is reset, and the slots are rebuilt before it is tried again
abbrev pub ReadOnlyIsRouted : Type 0
ReadOnlyIsRouted =
    (address : NodeAddress) (end : RoundEnd) (e : ServerError) → EndsBy end e → e.code ≡ codes "READONLY"
    → following (Node address) end true ≡ record { next = Pending; reset = true; redirected = false; action = action.RebuildSlots }

-- without retries left every end is answered, and the action is what it would be with retries left
abbrev pub ActionStays : Type 0
ActionStays = (target : OperationTarget) (end : RoundEnd) → following target end false ≡ answered (following target end true).action

-- an error of a fan-out itself is answered, but for one that no link served
abbrev pub FanOutAnswers : Type 0
FanOutAnswers =
    (e : RedisError) (left : Bool) → error_method e ≢ ReconnectFromInitialConnections
    → following FanOut (ended.Error e) left ≡ answered action.None

-- an end that is answered leaves the request's routing as it was; a redirect is followed at once, and never beside a reset
abbrev pub IsSound : Row → Type 0
IsSound row =
    (row.next ≡ Answered → (row.reset ≡ false) × (row.redirected ≡ false))
    × (row.redirected ≡ true → (row.next ≡ AtOnce) × (row.reset ≡ false))

abbrev pub EachRowIsSound : Type 0
EachRowIsSound = (target : OperationTarget) (end : RoundEnd) (left : Bool) → IsSound (following target end left)
